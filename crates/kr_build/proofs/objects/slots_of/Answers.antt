use Rattle.std.proofs.Common.{◌≡◌, ◌+◌, ◌^◌, ◌<◌, ℕ, List, ap, sym, subst, length, arith, rules, ◌∙◌}
use Rattle.std.specs.List.{range_with_len}
use Rattle.kr_value.specs.declared.object.Class.{Class}
use Rattle.kr_mean.specs.Heaps.{length_in, value_at}
use Rattle.kr_mean.specs.Problem.{Problem, domain_at, slots}
use Rattle.kr_space_layout.specs.Bounds.{bare}
use Rattle.kr_space_layout.specs.Layouts.{first_slot}
use Rattle.kr_iso.specs.Objects.{object_of}
use Rattle.kr_build.specs.Extents.{extent_of, is_array}
use Rattle.kr_laws_pruning.proofs.Numbering.{width_at}
use Rattle.kr_build.proofs.Rows.{row, narrow, array_short}
use Rattle.kr_build.proofs.objects.slots_of.Goals as goal

extent_is : (problem : Problem) (v : List ℕ) (count width width' first first' : ℕ) (class class' : Class) → class ≡ class' → width ≡ width' → first ≡ first' → count ≡ extent_of class width (value_at problem v first) → count ≡ extent_of class' width' (value_at problem v first')
extent_is problem v count width width' first first' class class' a b c d =
    d ∙ (ap (λ (x : Class). extent_of x width (value_at problem v first)) a
    ∙ (ap (λ (n : ℕ). extent_of class' n (value_at problem v first)) b
    ∙ ap (λ (n : ℕ). extent_of class' width' (value_at problem v n)) c))

pub overflow_cast-width : goal.overflow_cast-width
overflow_cast-width c =
    let r = row (bare c.args.layout.now) c.args.vector.now c.args.object.domain c.args.object.number c.requires.well c.requires.domain c.requires.number in
    let n = narrow (bare c.args.layout.now) c.args.vector.now c.args.object.domain c.args.object.number r in
    let f : c.width-width.result < 2 ^ 32 = omega (arith, n, c.requires.small, c.width-width.ensures) in
    search rules

pub extent-count-requires-clause-array : goal.extent-count-requires-clause-array
extent-count-requires-clause-array c = λ e.
    let r = row (bare c.args.layout.now) c.args.vector.now c.args.object.domain c.args.object.number c.requires.well c.requires.domain c.requires.number in
    subst (λ (n : ℕ). n < length (slots (bare c.args.layout.now))) (sym c.first_slot-first.ensures) (r.array (ap is_array (sym c.class-class.ensures) ∙ e))

pub extent-count-requires-clause-short : goal.extent-count-requires-clause-short
extent-count-requires-clause-short c = λ e.
    let p = bare c.args.layout.now in
    let r = row p c.args.vector.now c.args.object.domain c.args.object.number c.requires.well c.requires.domain c.requires.number in
    let n = narrow p c.args.vector.now c.args.object.domain c.args.object.number r in
    let narrower : width_at p c.args.object.domain < 2147483648 = omega (arith, n, c.requires.small) in
    subst (λ (m : ℕ). length_in (value_at p c.args.vector.now m) < 2147483648) (sym c.first_slot-first.ensures)
    (array_short (domain_at p c.args.object.domain).class (width_at p c.args.object.domain) _ (ap is_array (sym c.class-class.ensures) ∙ e) r.within narrower)

pub returns-clause-are : goal.returns-clause-are
returns-clause-are c =
    let r = row (bare c.args.layout.now) c.args.vector.now c.args.object.domain c.args.object.number c.requires.well c.requires.domain c.requires.number in
    ap (λ (n : ℕ). range_with_len n c.extent-count.result) c.first_slot-first.ensures ∙ (ap (range_with_len (first_slot (bare c.args.layout.now) (object_of c.args.object))) (extent_is (bare c.args.layout.now) c.args.vector.now c.extent-count.result c.width-width.result _ c.first_slot-first.result _ c.class-class.result _ c.class-class.ensures c.width-width.ensures c.first_slot-first.ensures c.extent-count.ensures) ∙ r.are)

pub returns-clause-inside : goal.returns-clause-inside
returns-clause-inside c = λ j h.
    let r = row (bare c.args.layout.now) c.args.vector.now c.args.object.domain c.args.object.number c.requires.well c.requires.domain c.requires.number in
    let e = extent_is (bare c.args.layout.now) c.args.vector.now c.extent-count.result c.width-width.result _ c.first_slot-first.result _ c.class-class.result _ c.class-class.ensures c.width-width.ensures c.first_slot-first.ensures c.extent-count.ensures in
    subst (λ (n : ℕ). n + j < length (slots (bare c.args.layout.now))) (sym c.first_slot-first.ensures) (r.inside j (omega (arith, h, e, r.within)))
