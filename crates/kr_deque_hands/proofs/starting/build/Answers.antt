use Rattle.std.proofs.Common.{[], ◌∷◌, ◌++◌, ◌∙◌, ap, sym, subst, append_assoc}
use Rattle.std.specs.Vec.Iter.{into_iter_items}
use Rattle.kr_survey.specs.Joins.{lists}
use Rattle.kr_deque_hands.specs.Building.{EachAhead}
use Rattle.kr_deque_hands.proofs.Made.{built_more, built_count}
use Rattle.kr_deque_hands.proofs.starting.build.Goals as goal

pub loop-list-preserved : goal.loop-list-preserved
loop-list-preserved g c =
    let s = c.loop-list.invariant in
    let step = c.in-Some.ensures.steps in
    let built = built_more c.args.first.items c.loop-list.yielded c.in-Some.list c.add.new.self (c.in-Ok.ensures (c.args.first.items ∷ lists c.loop-list.yielded) s.3) in (
      append_assoc c.loop-list.yielded (c.in-Some.list ∷ []) (into_iter_items c.next.new.self) ∙ (ap (λ l. c.loop-list.yielded ++ l) (sym step.0) ∙ s.0),
      (subst EachAhead step.0 s.1).1,
      built_count c.args.first.items (c.loop-list.yielded ++ c.in-Some.list ∷ []) c.add.new.self built,
      built,
    )
