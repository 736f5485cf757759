use Rattle.std.proofs.Common.{◌≡◌, ◌++◌, ◌∷◌, [], List, ℕ, inl, inr, length, take, ap, arith, subst, sym, ◌∙◌}
use Rattle.std.specs.List.{All}
use Rattle.std.proofs.lemmas.List.{length-map, take_all}
use Rattle.kr_mean.specs.Places.{SlotPlace}
use Rattle.kr_mean.specs.Places.{place_of}
use Rattle.kr_judge_replay.specs.Ascending.{HadRead}
use Rattle.kr_judge_replay.specs.declared.check.Check.{Check}
use Rattle.kr_judge_replay.proofs.checks.Checks.keep.Goals as goal

pub returns-then-not-are_closed : goal.returns-then-not-are_closed
returns-then-not-are_closed c = (length c.args.self.now, inl (sym (take_all (length c.args.self.now) c.args.self.now (omega arith))))

pub add-requires : goal.add-requires
add-requires c =
    let read = c.as_slice.result.now in
    let many : length read ≡ length c.args.world.now.reads = sym (length-map read place_of) ∙ ap (λ (ps : List SlotPlace). length ps) c.as_slice.ensures in
    subst (All (HadRead (length c.args.world.now.reads))) (sym c.truncate.ensures)
    (subst (λ (n : ℕ). All (HadRead n) (take c.up_to-count.result c.args.self.now)) many c.up_to-count.ensures.few)

pub returns-in-Ok : goal.returns-in-Ok
returns-in-Ok c =
    let k = c.in-Ok.ensures.kept in
    let closed = c.are_closed.ensures c.if-not-are_closed.false in
    (c.up_to-count.result, inr (k.0, (k.1, closed), k.2 ∙ ap (λ (ys : List Check). ys ++ k.0 ∷ []) c.truncate.ensures))
