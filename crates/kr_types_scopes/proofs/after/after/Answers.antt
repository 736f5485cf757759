use Rattle.std.proofs.Common.{ap, sym, ◌∙◌}
use Rattle.kr_ast.specs.Arena.{tree_in}
use Rattle.kr_types_meaning.specs.Scopes.{after}
use Rattle.kr_types_scopes.specs.Settings.{setting, scope_in}
use Rattle.kr_types_scopes.proofs.Chains.{step_same}
use Rattle.kr_types_scopes.proofs.Plain.{after_stays}
use Rattle.kr_types_scopes.proofs.after.after.Goals as goal

pub returns-in_default-clause-made : goal.returns-in_default-clause-made
returns-in_default-clause-made c =
    let tree = c.args.tree.now in
    let old = c.args.bindings.now.items in
    let from = c.args.here.now in
    step_same tree old from (λ g. after (scope_in g old from) (tree_in g.tree c.args.node)) c.requires.chain c.requires.top
    (λ t v. sym (ap (after (scope_in (setting t v tree) old from)) c.entry.ensures.tree
    ∙ after_stays (scope_in (setting t v tree) old from) tree.text (tree_in tree) c.entry.result.place c.entry.result.node c.in_default.not-Cons c.in_default.not-Local c.in_default.not-Signature c.in_default.not-Declarator c.in_default.not-Parameter))
