use Rattle.std.proofs.Common.{ap, sym, ◌∙◌, refl}
use Rattle.kr_types_scopes.specs.Settings.{setting, scope_in}
use Rattle.kr_types_scopes.specs.Changes.{first_change, rest_change, changed}
use Rattle.kr_types_scopes.proofs.Plain.{second_first, second_later, plain_handed}
use Rattle.kr_types_scopes.proofs.hand.plainly.Goals as goal

pub returns-then-position-eq0-clause-handed : goal.returns-then-position-eq0-clause-handed
returns-then-position-eq0-clause-handed c t v a bs p e h =
    let g = setting t v a in
    let s = scope_in g bs c.args.here.now in
    c.apply.ensures.scope t v a bs
    ∙ (ap (changed g c.args.at s) c.first_change.ensures
    ∙ (sym (second_first c.args.position (changed g c.args.at s (first_change c.args.node)) (changed g c.args.at s (rest_change c.args.node)) c.if-position-eq0.true)
    ∙ plain_handed g c.args.at s p c.args.node c.args.position refl e h))

pub returns-else-position-eq0-clause-handed : goal.returns-else-position-eq0-clause-handed
returns-else-position-eq0-clause-handed c t v a bs p e h =
    let g = setting t v a in
    let s = scope_in g bs c.args.here.now in
    c.apply-else-position-eq0.ensures.scope t v a bs
    ∙ (ap (changed g c.args.at s) c.rest_change.ensures
    ∙ (sym (second_later c.args.position (changed g c.args.at s (first_change c.args.node)) (changed g c.args.at s (rest_change c.args.node)) c.if-position-eq0.false)
    ∙ plain_handed g c.args.at s p c.args.node c.args.position refl e h))
