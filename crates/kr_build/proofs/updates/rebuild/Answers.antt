use Rattle.std.proofs.Common.{◌<◌, ℕ, List, ap, sym, subst, length, ◌∙◌}
use Rattle.std.specs.Prelude.{map}
use Rattle.kr_heap.specs.Objects.{with_values}
use Rattle.kr_iso.specs.Objects.{object_of}
use Rattle.kr_value.specs.declared.object.Class.{Class}
use Rattle.kr_mean.specs.Heaps.{heap_object, slots_in, value_at, values_there}
use Rattle.kr_mean.specs.Problem.{slots}
use Rattle.kr_space_layout.specs.Bounds.{bare}
use Rattle.kr_build.proofs.Changed.{with_anew}
use Rattle.kr_build.proofs.updates.rebuild.Goals as goal

pub push_values-requires-clause-inside : goal.push_values-requires-clause-inside
push_values-requires-clause-inside c = λ j h.
    let r = c.kept-stretch.ensures.inside j h in
    subst (λ (n : ℕ). n < length (slots (bare c.args.layout.now))) (sym r.2) (c.slots_of.ensures.inside r.0 r.1)

pub returns : goal.returns
returns c =
    let b = bare c.args.layout.now in
    let v = c.args.vector.now in
    let f = value_at b v in
    let values = c.kept-stretch.ensures.are f
    ∙ (ap (λ (ss : List ℕ). values_there c.class-class.result (map f ss)) c.slots_of.ensures.are
    ∙ ap (λ (x : Class). values_there x (map f (slots_in b v (object_of c.args.object)))) c.class-class.ensures) in
    let new = with_anew c.args.heap.now c.truncate_values.new.self c.push_values.new.heap c.heap_number-number.result _ (heap_object b v (object_of c.args.object)).values c.truncate_values.ensures c.in_ok-push_values.ensures values in
    new ∙ ap (λ (n : ℕ). with_values c.args.heap.now n (heap_object b v (object_of c.args.object)).values) c.heap_number-number.ensures
