use Rattle.std.proofs.Common.{subst, []}
use Rattle.kr_deque_hands.specs.declared.hand.Hand.{Hand}
use Rattle.kr_deque_hands.specs.Hands.{Works}
use Rattle.kr_deque.proofs.Worked.{worked_each}
use Rattle.kr_deque.proofs.listing.work_each.Goals as goal

pub returns : goal.returns
returns g c =
    let all = g.S.Survey.all c.args.survey.now in
    worked_each all c.args.hands.now c.for_each_mut.new.s c.for_each_mut.auto.s
    (λ i d lt.
    let change = (c.for_each_mut.ensures i d lt).1 in
    subst (λ (x : Hand g.row.R.Denot × Hand g.row.R.Denot). Works all x.0 [] x.1 []) (λ j. (change.argument_is j, change.left j)) change.call)
