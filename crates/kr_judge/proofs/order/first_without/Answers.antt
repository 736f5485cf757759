use Rattle.std.proofs.Common.{◌≡◌, ◌<◌, ◌-◌, get_or, length, arith, rules}
use Rattle.kr_judge.proofs.Follows.{none_before, once_before}
use Rattle.kr_judge.proofs.order.first_without.Goals as goal

pub returns-then-slots-left-clause-none : goal.returns-then-slots-left-clause-none
returns-then-slots-left-clause-none c =
    let slots = c.args.slots.now in
    let n = c.slots.left - 1 in
    let inside : n < length slots = search rules in
    let is : get_or slots n 0 ≡ c.args.slot = search rules in
    once_before slots n c.args.slot c.requires inside is

pub returns-clause-none : goal.returns-clause-none
returns-clause-none c = none_before c.args.slots.now c.min-all.result c.args.slot (λ i l. c.slots.invariant.1 i (omega (arith, c.slots-test.false)) l)
