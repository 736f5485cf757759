use Rattle.std.proofs.Common.{◌≡◌, ◌<◌, ◌≤◌, ◌+◌, ◌∷◌, ◌++◌, ◌∙◌, [], List, ℕ, ap, arith, length, rules, subst, sym, take}
use Rattle.std.proofs.lemmas.List.{length-append, take-append-le}
use Rattle.kr_judge.specs.Orders.{AreMarked, EachOnce}
use Rattle.kr_judge.proofs.Follows.{marked_less, once_less}
use Rattle.kr_judge.proofs.order.cut.Goals as goal

pub slots-preserved : goal.slots-preserved
slots-preserved c =
    let s = c.in-Some.slot in
    let left = c.pop.new.self.items in
    let items : c.slots.slots.items ≡ left ++ s ∷ [] = search rules in
    let both = once_less left s (subst (λ (ss : List ℕ). EachOnce ss) items c.slots.invariant.1) in
    let more : c.args.count < length c.slots.slots.items = search rules in
    let long : length c.slots.slots.items ≡ length left + 1 = ap (λ (ss : List ℕ). length ss) items ∙ length-append left (s ∷ []) in
    let few : c.args.count ≤ length left = omega (arith, more, long) in (
      marked_less c.slots.marks.items c.unmark.new.marks.items left s (subst (λ (ss : List ℕ). AreMarked c.slots.marks.items ss) items c.slots.invariant.0) both.1 c.unmark.ensures,
      both.0,
      sym (take-append-le c.args.count left (s ∷ []) few) ∙ (ap (λ (ss : List ℕ). take c.args.count ss) (sym items) ∙ c.slots.invariant.2),
    )
