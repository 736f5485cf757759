use Rattle.std.proofs.Common.{◌<◌, ◌∙◌, ℕ, List, sym, subst, arith, length}
use Rattle.kr_mean.specs.Problem.{slots}
use Rattle.kr_mean.specs.Space.{IsVector, space_of}
use Rattle.kr_space_layout.specs.Bounds.{bare}
use Rattle.kr_laws_pruning.proofs.Spaces.{is_space}
use Rattle.kr_plain.proofs.Moving.{vector_set, vector_zero}
use Rattle.kr_samples.proofs.vectors.vector_of.Goals as goal
use Rattle.kr_samples.proofs.vectors.vector_of.Goals.{then-index-size, else-index-size}

pub loop-slot-init : goal.loop-slot-init
unfolding space_of
loop-slot-init c =
    subst (λ (v : List ℕ). IsVector (space_of (bare c.args.layout.now)) v) (sym c.in_ok-vector.ensures)
    (vector_zero (space_of (bare c.args.layout.now)) (is_space (bare c.args.layout.now) c.requires.well) c.slots-count.result c.slots-count.ensures)

pub set-requires : goal.set-requires
unfolding space_of
set-requires c = omega (arith, c.loop-slot-test.true, c.slots-count.ensures, c.loop-slot.invariant.long)

pub loop-slot-preserved : goal.loop-slot-preserved
unfolding space_of
loop-slot-preserved c =
    let S = space_of (bare c.args.layout.now) in
    elim c.if-index-size.branch [
      | then-index-size w ↦
          let h : c.loop-slot.slot < length (slots (bare c.args.layout.now)) = omega (arith, c.loop-slot-test.true, c.slots-count.ensures) in
          let hi : c.match-get.index < S.size c.loop-slot.slot = omega (arith, w.if-index-size.true, c.size.ensures) in
          subst (λ (v : List ℕ). IsVector S v) (sym (w.vector-is ∙ w.set.ensures)) (vector_set S c.loop-slot.vector c.loop-slot.slot c.match-get.index c.loop-slot.invariant h hi)
      | else-index-size w ↦ subst (λ (v : List ℕ). IsVector S v) (sym w.vector-is) c.loop-slot.invariant
    ]
