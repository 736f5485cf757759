use Rattle.std.proofs.Common.{ap, sym, ◌∙◌, refl}
use Rattle.kr_types_scopes.specs.Settings.{scope_in}
use Rattle.kr_types_scopes.specs.Changes.{first_change, rest_change, changed}
use Rattle.kr_types_scopes.proofs.Plain.{second_first, second_later, plain_handed}
use Rattle.kr_types_scopes.proofs.stay.stays_plainly.Goals as goal

pub returns-then-position-eq0 : goal.returns-then-position-eq0
returns-then-position-eq0 c same g bs w p at e h role =
    let s = scope_in g bs w in
    let n = c.args.node in
    let j = c.args.position in
    sym (plain_handed g at s p n j refl e h)
    ∙ (second_first j (changed g at s (first_change n)) (changed g at s (rest_change n)) c.if-position-eq0.true
    ∙ (sym (ap (changed g at s) c.first_change.ensures) ∙ c.changes_nothing.ensures g at bs w role same))

pub returns-else-position-eq0 : goal.returns-else-position-eq0
returns-else-position-eq0 c same g bs w p at e h role =
    let s = scope_in g bs w in
    let n = c.args.node in
    let j = c.args.position in
    sym (plain_handed g at s p n j refl e h)
    ∙ (second_later j (changed g at s (first_change n)) (changed g at s (rest_change n)) c.if-position-eq0.false
    ∙ (sym (ap (changed g at s) c.rest_change.ensures) ∙ c.changes_nothing-else-position-eq0.ensures g at bs w role same))
