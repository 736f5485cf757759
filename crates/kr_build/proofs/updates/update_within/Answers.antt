use Rattle.std.proofs.Common.{◌+◌, ◌<◌, ℕ, List, ap, sym, subst, ◌∙◌, length, arith, get_or}
use Rattle.std.specs.Prelude.{slice_set}
use Rattle.std.proofs.lemmas.List.{length-set}
use Rattle.kr_mean.specs.Heaps.{heap_of}
use Rattle.kr_mean.specs.Problem.{choices_at, slots}
use Rattle.kr_mean.specs.Space.{IsVector, space_of}
use Rattle.kr_space_layout.specs.Bounds.{bare}
use Rattle.kr_build.specs.Renewed.{IsSameBut}
use Rattle.kr_build.proofs.Changed.{all_within, vector_long, vector_set, within_more}
use Rattle.kr_build.proofs.Rows.{in_vector}
use Rattle.kr_build.proofs.updates.update_within.Goals as goal

pub get-index-requires : goal.get-index-requires
get-index-requires c =
    let inside : c.each.slot < length (slots (bare c.args.layout.now)) = omega (arith, c.each-test.true, c.requires.high) in
    (in_vector (bare c.args.layout.now) c.args.vector.now c.each.slot c.requires.vector inside).slot

pub take_on-requires-clause-slot : goal.take_on-requires-clause-slot
take_on-requires-clause-slot c = omega (arith, c.each-test.true, c.requires.high)

pub take_on-requires-clause-index : goal.take_on-requires-clause-index
take_on-requires-clause-index c =
    let inside : c.each.slot < length (slots (bare c.args.layout.now)) = omega (arith, c.each-test.true, c.requires.high) in
    subst (λ (i : ℕ). i < length (choices_at (bare c.args.layout.now) c.each.slot)) (sym c.get-index.ensures) (in_vector (bare c.args.layout.now) c.args.vector.now c.each.slot c.requires.vector inside).index

pub each-preserved : goal.each-preserved
each-preserved c =
    let b = bare c.args.layout.now in
    let v = c.args.vector.now in
    let u = c.each.built in
    let s = c.each.slot in
    let inside : s < length (slots b) = omega (arith, c.each-test.true, c.requires.high) in
    let there : s < length u = omega (arith, inside, vector_long b u c.each.invariant.0) in
    let is = c.in_ok-take_on.ensures.vector ∙ ap (λ (i : ℕ). slice_set u s i) c.get-index.ensures in (
      subst (λ (x : List ℕ). IsVector (space_of b) x) (sym is) (vector_set b u s (get_or v s 0) c.each.invariant.0 inside (in_vector b v s c.requires.vector inside).index),
      c.in_ok-take_on.ensures.heap,
      ap (λ (x : List ℕ). length x) is ∙ (length-set u s (get_or v s 0) ∙ c.each.invariant.2),
      subst (λ (x : List ℕ). IsSameBut x v (s + 1) c.args.high) (sym is) (within_more u v s c.args.high there c.each.invariant.3),
    )

pub returns-clause-built : goal.returns-clause-built
returns-clause-built c =
    let b = bare c.args.layout.now in
    let long = vector_long b c.each.built c.each.invariant.0 ∙ sym (vector_long b c.args.vector.now c.requires.vector) in
    all_within c.each.built c.args.vector.now c.each.slot c.args.high long (omega (arith, c.each-test.false)) c.each.invariant.3

pub returns-clause-heap : goal.returns-clause-heap
returns-clause-heap c =
    let b = bare c.args.layout.now in
    let long = vector_long b c.each.built c.each.invariant.0 ∙ sym (vector_long b c.args.vector.now c.requires.vector) in
    c.each.invariant.1 ∙ ap (heap_of b) (all_within c.each.built c.args.vector.now c.each.slot c.args.high long (omega (arith, c.each-test.false)) c.each.invariant.3)
