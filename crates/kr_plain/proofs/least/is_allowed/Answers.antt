use Rattle.std.proofs.Common.{ℕ, Option, subst}
use Rattle.kr_mean.specs.Choices.{IsNextChoice}
use Rattle.kr_plain.proofs.Along.{none_is, some_is}
use Rattle.kr_plain.proofs.least.is_allowed.Goals as goal

pub returns-in-None : goal.returns-in-None
returns-in-None g c = (
  λ t. absurd (cc (t)),
  λ a. absurd (none_is (g.S.Slots.space c.args.slots.now) c.args.path.now c.args.slot c.args.index c.requires.index (subst (λ (r : Option ℕ). IsNextChoice (g.S.Slots.space c.args.slots.now) c.args.path.now c.args.slot c.args.index r) c.in-None.is c.next_choice.ensures) a),
)

pub returns-in-Some : goal.returns-in-Some
returns-in-Some g c = some_is (g.S.Slots.space c.args.slots.now) c.args.path.now c.args.slot c.args.index c.in-Some.least (subst (λ (r : Option ℕ). IsNextChoice (g.S.Slots.space c.args.slots.now) c.args.path.now c.args.slot c.args.index r) c.in-Some.is c.next_choice.ensures)
