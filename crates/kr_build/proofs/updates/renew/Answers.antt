use Rattle.std.proofs.Common.{◌≡◌, ◌<◌, ℕ, Option, Some, length, get_or, ap, sym, subst, ◌∙◌}
use Rattle.kr_heap.specs.Objects.{with_value}
use Rattle.kr_value.specs.Heaps.{Heap}
use Rattle.kr_value.specs.declared.value.Value.{Value}
use Rattle.kr_mean.specs.Heaps.{heap_of, value_at}
use Rattle.kr_mean.specs.Places.{This, Parameter, At, place_of}
use Rattle.kr_value.specs.declared.place.SlotPlace as code
use Rattle.kr_mean.specs.Problem.{choices_at}
use Rattle.kr_mean.specs.Space.{no_choice}
use Rattle.kr_space_layout.specs.Bounds.{bare}
use Rattle.kr_build.proofs.Changed.{Changes, Writes, place_changes}
use Rattle.kr_build.proofs.Rows.{in_vector}
use Rattle.kr_build.proofs.updates.renew.Goals as goal

pub value-requires-clause-index : goal.value-requires-clause-index
value-requires-clause-index c =
    subst (λ (i : ℕ). i < length (choices_at (bare c.args.layout.now) c.args.slot)) (sym c.requires.index)
    (in_vector (bare c.args.layout.now) c.args.vector.now c.args.slot c.requires.vector c.requires.slot).index

pub returns-in-This : goal.returns-in-This
returns-in-This c =
    let b = bare c.args.layout.now in
    let u = c.args.vector.now in
    let k = c.requires.heap in
    let changed : Changes b k.old u c.args.slot This =
    subst (Changes b k.old u c.args.slot) (sym c.requires.place ∙ ap (λ (x : code.SlotPlace). place_of x) c.in-This.is) (place_changes b c.requires.well k.old u c.args.slot k.index k.changed c.requires.slot) in
    k.heap_is ∙ sym changed

pub returns-in-Parameter : goal.returns-in-Parameter
returns-in-Parameter c =
    let b = bare c.args.layout.now in
    let u = c.args.vector.now in
    let k = c.requires.heap in
    let changed : Changes b k.old u c.args.slot (Parameter c.in-Parameter.field-0) =
    subst (Changes b k.old u c.args.slot) (sym c.requires.place ∙ ap (λ (x : code.SlotPlace). place_of x) c.in-Parameter.is) (place_changes b c.requires.well k.old u c.args.slot k.index k.changed c.requires.slot) in
    k.heap_is ∙ sym changed

pub returns-in-Some : goal.returns-in-Some
returns-in-Some c =
    let b = bare c.args.layout.now in
    let u = c.args.vector.now in
    let s = c.args.slot in
    let k = c.requires.heap in
    let o = c.in-At.object in
    let j = c.in-Some.at in
    let changed : Changes b k.old u s (At o c.in-At.spot) =
    subst (Changes b k.old u s) (sym c.requires.place ∙ ap (λ (x : code.SlotPlace). place_of x) c.in-At.is) (place_changes b c.requires.well k.old u s k.index k.changed c.requires.slot) in
    let set : Writes (heap_of b k.old) (heap_of b u) o (Some j) (value_at b u s) =
    subst (λ (x : Option ℕ). Writes (heap_of b k.old) (heap_of b u) o x (value_at b u s)) (sym c.position.ensures ∙ c.in-Some.is) changed in
    let value : c.value.result ≡ value_at b u s = c.value.ensures ∙ ap (λ (i : ℕ). (get_or (choices_at b s) i no_choice).value) c.requires.index in
    c.write.ensures
    ∙ (ap (λ (x : Value). with_value c.args.heap.now o j x) value
    ∙ (ap (λ (h : Heap). with_value h o j (value_at b u s)) k.heap_is ∙ sym set))
