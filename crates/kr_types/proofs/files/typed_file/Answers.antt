use Rattle.std.proofs.Common.{subst}
use Rattle.kr_ast.specs.Arena.{Arena}
use Rattle.kr_types_scopes.specs.Scoped.{AreScopes}
use Rattle.kr_types.proofs.files.typed_file.Goals as goal

pub notes_of-requires : goal.notes_of-requires
notes_of-requires c = record {
  heads = c.requires.heads;
  members = c.requires.members;
  roster = c.requires.roster;
  numbers = c.requires.numbers;
  values = c.requires.values;
  single = c.requires.single;
  file = c.requires.file;
  scopes = subst (λ (a : Arena). AreScopes a c.in_ok-scopes.scopes.bindings.items c.in_ok-scopes.scopes.within.items) c.tree_of.ensures c.in_ok-scopes.ensures;
}

pub returns-clause-typed : goal.returns-clause-typed
returns-clause-typed c = record {
  scopes = subst (λ (a : Arena). AreScopes a c.in_ok-scopes.scopes.bindings.items c.in_ok-scopes.scopes.within.items) c.tree_of.ensures c.in_ok-scopes.ensures;
  long = c.in_ok-notes.ensures.long;
  within = c.in_ok-notes.ensures.within;
  resolved = c.in_ok-notes.ensures.resolved;
  meant = c.in_ok-notes.ensures.meant;
  judged = c.in_ok-notes.ensures.judged;
}
