use Rattle.std.proofs.Common.{sym}
use Rattle.std.proofs.lemmas.Result.{on_ok_weaker}
use Rattle.kr_ast.specs.Arena.{tree_in}
use Rattle.kr_types_meaning.specs.Scopes.{Scope, after}
use Rattle.kr_types_scopes.specs.Settings.{Setting, setting, scope_in}
use Rattle.kr_types_meaning.specs.Handing.{third}
use Rattle.kr_types_scopes.proofs.Chains.{step_same, step_as}
use Rattle.kr_types_scopes.proofs.Plain.{third_first, third_later}
use Rattle.kr_types_scopes.proofs.hand.after_signature.Goals as goal

pub returns-then-position-lt2-clause-made : goal.returns-then-position-lt2-clause-made
returns-then-position-lt2-clause-made c =
    let tree = c.args.tree.now in
    let old = c.args.bindings.now.items in
    step_same tree old c.args.here.now (λ g. third c.args.position (scope_in g old c.args.here.now) (after (scope_in g old c.args.here.now) (tree_in g.tree c.args.node))) c.requires.chain c.requires.top
    (λ t v. sym (third_first c.args.position (scope_in (setting t v tree) old c.args.here.now) (after (scope_in (setting t v tree) old c.args.here.now) (tree_in tree c.args.node)) c.if-position-lt2.true))

pub returns-else-position-lt2-clause-made : goal.returns-else-position-lt2-clause-made
returns-else-position-lt2-clause-made c =
    let tree = c.args.tree.now in
    let old = c.args.bindings.now.items in
    let new = c.after.new.bindings.items in
    let f : Setting → Scope = λ g. after (scope_in g old c.args.here.now) (tree_in g.tree c.args.node) in
    let h : Setting → Scope = λ g. third c.args.position (scope_in g old c.args.here.now) (after (scope_in g old c.args.here.now) (tree_in g.tree c.args.node)) in
    on_ok_weaker c.after.result
    (λ s. step_as tree old new c.after.new.here f h s
    (λ t v. sym (third_later c.args.position (scope_in (setting t v tree) old c.args.here.now) (after (scope_in (setting t v tree) old c.args.here.now) (tree_in tree c.args.node)) c.if-position-lt2.false)))
    c.after.ensures.made
