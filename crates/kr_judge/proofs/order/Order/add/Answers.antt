use Rattle.std.proofs.Common.{◌≡◌, ◌∷◌, ◌++◌, [], List, ℕ, false, get_or, rules, subst, sym, ◌∙◌}
use Rattle.kr_judge.specs.Orders.{AreMarked, EachOnce}
use Rattle.kr_judge.proofs.Orders.{marked_more}
use Rattle.kr_judge.proofs.Follows.{once_more}
use Rattle.kr_judge.proofs.order.Order.add.Goals as goal

pub invariant_of-self-in-Ok : goal.invariant_of-self-in-Ok
invariant_of-self-in-Ok c =
    let items : c.push.new.self.items ≡ c.self.inside.slots.items ++ c.args.slot ∷ [] = c.in-Ok.ensures.items in
    let off : get_or c.self.inside.marks.items c.args.slot false ≡ false = search rules in (
      subst (λ (ss : List ℕ). AreMarked c.mark.new.marks.items ss) (sym items) (marked_more c.self.inside.marks.items c.mark.new.marks.items c.self.inside.slots.items c.args.slot c.self.invariant.0 c.in_ok-mark.ensures.marked),
      subst (λ (ss : List ℕ). EachOnce ss) (sym items) (once_more c.self.inside.slots.items c.args.slot c.self.invariant.1 (sym (c.self.invariant.0 c.args.slot) ∙ off)),
    )
