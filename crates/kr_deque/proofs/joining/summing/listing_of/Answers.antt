use Rattle.std.proofs.Common.{◌≡◌, ◌++◌, ◌∷◌, ◌+◌, [], List, length, sym, ap, ◌∙◌, refl, append_assoc, rules, arith}
use Rattle.std.specs.Vec.Iter.{into_iter_items, into_iter_len}
use Rattle.kr_survey.specs.declared.piece.Piece.{Piece}
use Rattle.kr_deque.proofs.Summing.{summed_none, summed_more, summed_spent, summed_all, nothing_left}
use Rattle.kr_deque.proofs.joining.summing.listing_of.Goals as goal

pub loop-piece-init : goal.loop-piece-init
loop-piece-init g c = (
  c.into_iter-piece-iterator.ensures.into_iter_gives.0,
  c.into_iter-piece-iterator.ensures.into_iter_gives.1 ∙ (c.args.pieces.ok.0 ∙ ap length (sym c.into_iter-piece-iterator.ensures.into_iter_gives.0)),
  search (rules, summed_none),
)

pub returns-then-is_some : goal.returns-then-is_some
returns-then-is_some g c =
    let s = c.loop-piece.invariant in
    summed_spent c.loop-piece.yielded c.loop-piece.rows.items c.loop-piece.tried s.2 c.in-Some.piece (into_iter_items c.next.new.self) c.args.pieces.items c.into_vec.result c.saturating_add-tried.result _
    (sym (ap (λ l. c.loop-piece.yielded ++ l) (sym c.in-Some.ensures.steps.0) ∙ s.0)) c.into_vec.ensures c.saturating_add-tried.ensures (search rules) (search rules) refl refl

pub loop-piece-preserved : goal.loop-piece-preserved
loop-piece-preserved g c =
    let s = c.loop-piece.invariant in
    let step = c.in-Some.ensures.steps in (
      append_assoc c.loop-piece.yielded (c.in-Some.piece ∷ []) (into_iter_items c.next.new.self) ∙ (ap (λ l. c.loop-piece.yielded ++ l) (sym step.0) ∙ s.0),
      (let n = ap length step.0 in let m = step.1 in let k = s.1 in omega (arith, n, m, k)),
      (let p = c.push.ensures.items in let m = summed_more c.loop-piece.yielded c.loop-piece.rows.items c.loop-piece.tried s.2 c.in-Some.piece c.into_vec.result c.saturating_add-tried.result c.into_vec.ensures c.saturating_add-tried.ensures (search rules) in search rules),
    )

pub returns : goal.returns
returns g c =
    let s = c.loop-piece.invariant in
    let z = c.in-None.ensures.steps.0 in
    let k = s.1 in
    summed_all c.loop-piece.yielded c.loop-piece.rows.items c.loop-piece.tried s.2 c.args.pieces.items _
    (nothing_left c.args.pieces.items c.loop-piece.yielded (into_iter_items c.loop-piece.piece-iterator) s.0 (omega (arith, z, k))) (search rules) refl refl
