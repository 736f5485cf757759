use Rattle.std.proofs.Common.{sym}
use Rattle.std.proofs.lemmas.Result.{on_ok_weaker}
use Rattle.kr_ast.specs.Arena.{tree_in}
use Rattle.kr_types_meaning.specs.Scopes.{after}
use Rattle.kr_types_scopes.specs.Settings.{Setting, setting, scope_in}
use Rattle.kr_types_meaning.specs.Handing.{second}
use Rattle.kr_types_scopes.proofs.Chains.{step_same, step_as}
use Rattle.kr_types_scopes.proofs.Plain.{second_first, second_later}
use Rattle.kr_types_scopes.proofs.hand.after_first.Goals as goal

pub returns-then-position-eq0-clause-made : goal.returns-then-position-eq0-clause-made
returns-then-position-eq0-clause-made c =
    let tree = c.args.tree.now in
    let old = c.args.bindings.now.items in
    step_same tree old c.args.here.now (λ (g : Setting). second c.args.position (scope_in g old c.args.here.now) (after (scope_in g old c.args.here.now) (tree_in g.tree c.args.first))) c.requires.chain c.requires.top
    (λ t v. sym (second_first c.args.position (scope_in (setting t v tree) old c.args.here.now) (after (scope_in (setting t v tree) old c.args.here.now) (tree_in tree c.args.first)) c.if-position-eq0.true))

pub returns-else-position-eq0-clause-made : goal.returns-else-position-eq0-clause-made
returns-else-position-eq0-clause-made c =
    let tree = c.args.tree.now in
    let old = c.args.bindings.now.items in
    let new = c.after.new.bindings.items in
    on_ok_weaker c.after.result
    (λ s. step_as tree old new c.after.new.here (λ (g : Setting). after (scope_in g old c.args.here.now) (tree_in g.tree c.args.first))
    (λ (g : Setting). second c.args.position (scope_in g old c.args.here.now) (after (scope_in g old c.args.here.now) (tree_in g.tree c.args.first))) s
    (λ t v. sym (second_later c.args.position (scope_in (setting t v tree) old c.args.here.now) (after (scope_in (setting t v tree) old c.args.here.now) (tree_in tree c.args.first)) c.if-position-eq0.false)))
    c.after.ensures.made
