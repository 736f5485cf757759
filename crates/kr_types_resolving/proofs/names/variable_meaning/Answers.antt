use Rattle.std.proofs.Common.{sym, subst}
use Rattle.kr_ast.specs.Arena.{Arena}
use Rattle.kr_types_scopes.specs.Scoped.{AreScopes}
use Rattle.kr_types_resolving.proofs.names.variable_meaning.Goals as goal

pub local-requires-clause-scopes : goal.local-requires-clause-scopes
local-requires-clause-scopes c = subst (λ (a : Arena). AreScopes a c.args.scopes.now.bindings.items c.args.scopes.now.within.items) (sym c.tree_of.ensures) c.requires.scopes
