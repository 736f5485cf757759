use Rattle.std.proofs.Common.{◌≡◌, ◌+◌, ◌++◌, ◌∷◌, [], List, length, refl, sym, ap, ◌∙◌, append_assoc, arith, subst, Some}
use Rattle.std.specs.Vec.Iter.{into_iter_items}
use Rattle.kr_survey.specs.Joins.{joined, lists}
use Rattle.kr_survey.specs.declared.taker.Room.TheVariants.{More}
use Rattle.kr_pool.proofs.Handed.{broken, pieces_more, pieces_whole, taken_full}
use Rattle.kr_pool.proofs.handing.hand_over.Goals as goal

pub returns-in-Err-clause-hands : goal.returns-in-Err-clause-hands
returns-in-Err-clause-hands g c = λ start from done t.
    let s = c.loop-piece.invariant in
    let rest = into_iter_items c.next.new.self in
    let before = done ++ joined (lists c.loop-piece.yielded) in
    let all = append_assoc c.loop-piece.yielded (c.in-Some.piece ∷ []) rest ∙ ap (λ l. c.loop-piece.yielded ++ l) (sym c.in-Some.ensures.steps.0) in
    let whole = sym (ap (λ l. done ++ l) s.0) ∙ (pieces_whole c.loop-piece.yielded rest c.in-Some.piece _ done all ∙ ap (λ l. (before ++ l) ++ joined (lists rest)) (sym c.new.ensures)) in
    broken g.T.Taker.takes (done ++ c.args.rows) before c.new.result (joined (lists rest)) start from c.take.new.self c.take.new.out c.in-Err.halt whole (c.in-Err.ensures.took start from before (s.3 start from done t))

pub returns-in-Ok-Full-clause-hands : goal.returns-in-Ok-Full-clause-hands
returns-in-Ok-Full-clause-hands g c = λ start from done t.
    let s = c.loop-piece.invariant in
    let rest = into_iter_items c.next.new.self in
    let before = done ++ joined (lists c.loop-piece.yielded) in
    let all = append_assoc c.loop-piece.yielded (c.in-Some.piece ∷ []) rest ∙ ap (λ l. c.loop-piece.yielded ++ l) (sym c.in-Some.ensures.steps.0) in
    let whole = sym (ap (λ l. done ++ l) s.0) ∙ (pieces_whole c.loop-piece.yielded rest c.in-Some.piece _ done all ∙ ap (λ l. (before ++ l) ++ joined (lists rest)) (sym c.new.ensures)) in
    taken_full g.T.Taker.takes (done ++ c.args.rows) (before ++ c.new.result) (joined (lists rest)) start from c.take.new.self c.take.new.out whole (rw c.in-Ok-Full.field-0-is at (c.in-Ok-Full.ensures.took start from before (s.3 start from done t)))

pub loop-piece-preserved : goal.loop-piece-preserved
loop-piece-preserved g c =
    let s = c.loop-piece.invariant in
    let rest = into_iter_items c.next.new.self in
    let step = c.in-Some.ensures.steps in (
      ap (λ vs. joined (lists vs)) (append_assoc c.loop-piece.yielded (c.in-Some.piece ∷ []) rest ∙ ap (λ l. c.loop-piece.yielded ++ l) (sym step.0)) ∙ s.0,
      (let n = ap length step.0 in let m = step.1 in let k = s.1 in omega (arith, n, m, k)),
      c.in-Ok-More.ensures.limit ∙ s.2,
      (λ start from done t.
          let before = done ++ joined (lists c.loop-piece.yielded) in
          subst (λ l. g.T.Taker.takes start from l c.take.new.self c.take.new.out (Some More)) (ap (λ l. before ++ l) c.new.ensures ∙ pieces_more c.loop-piece.yielded c.in-Some.piece done)
          (rw c.in-Ok-More.field-0-is at (c.in-Ok-More.ensures.took start from before (s.3 start from done t)))),
    )
