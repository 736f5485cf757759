use Rattle.std.proofs.Common.{[], ◌∷◌, ◌++◌, ◌∙◌, ap, sym, subst, append_assoc}
use Rattle.std.specs.Vec.Iter.{into_iter_items}
use Rattle.kr_deque_hands.specs.Pieces.{AllAhead}
use Rattle.kr_deque.proofs.Listed.{found_more}
use Rattle.kr_deque.proofs.listing.scan_left.Goals as goal

pub loop-span-preserved : goal.loop-span-preserved
loop-span-preserved g c =
    let s = c.loop-span.invariant in
    let step = c.in-Some.ensures.steps in (
      append_assoc c.loop-span.yielded (c.in-Some.span ∷ []) (into_iter_items c.next.new.self) ∙ (ap (λ l. c.loop-span.yielded ++ l) (sym step.0) ∙ s.0),
      (subst AllAhead step.0 s.1).1,
      c.scan_rest.ensures.made,
      found_more (g.S.Survey.all c.args.survey.now) c.args.pieces.now.items c.loop-span.pieces.items c.scan_rest.new.pieces.items c.loop-span.yielded c.in-Some.span s.3 c.in-Ok.ensures.found,
    )
