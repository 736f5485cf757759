use Rattle.std.proofs.Common.{sym, ◌∙◌, inl, inr}
use Rattle.kr_deque.proofs.Following.{cut_end, double_says, ok_says}
use Rattle.kr_deque.proofs.joining.check_next.Goals as goal
use Rattle.kr_deque.proofs.joining.check_next.Goals.{else-is_below_cut-via-then-is_below_cut+else-is_below, else-is_below_cut-via-else-is_below_cut, then-is_above_cut-via-then-is_above_cut, then-is_above_cut-via-else-is_above_cut+then-is_below-2}

pub cut_of-requires : goal.cut_of-requires
cut_of-requires c = cut_end c.args.at.now c.args.asked.now.upto (sym c.is_below.ensures ∙ c.if-is_below.true)

pub returns-in-Ok-try_clone : goal.returns-in-Ok-try_clone
returns-in-Ok-try_clone c =
    double_says c.args.asked.now c.args.next.now c.args.at.now c.in-Ok-try_clone.cut c.in-Ok-try_clone.ensures
    (elim c.then-is_above_cut.branch [
      | then-is_above_cut-via-then-is_above_cut w ↦ inl (sym c.is_above_cut.ensures ∙ w.if-is_above_cut.true)
      | then-is_above_cut-via-else-is_above_cut+then-is_below-2 w ↦ inr (sym c.is_above_cut.ensures ∙ w.if-is_above_cut.false, sym w.is_below-else-is_above_cut.ensures ∙ w.if-is_below-2.true)
    ])
    (elim c.else-is_below_cut.branch [
      | else-is_below_cut-via-then-is_below_cut+else-is_below w ↦ inr (sym w.is_below.ensures ∙ w.if-is_below.false)
      | else-is_below_cut-via-else-is_below_cut w ↦ inl (sym c.is_below_cut.ensures ∙ w.if-is_below_cut.false)
    ])

pub returns : goal.returns
returns c =
    ok_says c.args.asked.now c.args.next.now c.args.at.now c.requires (sym c.is_above_cut.ensures ∙ c.if-is_above_cut.false) (sym c.is_below-else-is_above_cut.ensures ∙ c.if-is_below-2.false)
    (elim c.else-is_below_cut.branch [
      | else-is_below_cut-via-then-is_below_cut+else-is_below w ↦ inr (sym c.is_below_cut.ensures ∙ w.if-is_below_cut.true, sym w.is_below.ensures ∙ w.if-is_below.false)
      | else-is_below_cut-via-else-is_below_cut w ↦ inl (sym c.is_below_cut.ensures ∙ w.if-is_below_cut.false)
    ])
