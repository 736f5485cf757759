-- A heap in which one object has other values.
use Rattle.std.proofs.Common.{◌≡◌, ℕ, ◌<◌, List, length, get_or, sym, ap, ◌∙◌}
use Rattle.std.specs.Prelude.{map, slice_set, Result, Ok, Err, OnErr}
use Rattle.std.proofs.lemmas.List.{map-set, get_or-map}
use Rattle.std.proofs.Math.Seq.{map-set_same}
use Rattle.kr_value.specs.declared.value.Value.{Value}
use Rattle.kr_value.specs.declared.object.Class.{Class}
use Rattle.kr_value.specs.Heaps.{HeapObject, object_in, no_object}
use Rattle.kr_heap.specs.declared.object.Object.{Object}
use Rattle.kr_heap.specs.Shown.{shown}
use Rattle.kr_heap.specs.Objects.{with_values}

-- the object at a number, as the meaning sees it
pub there : (objects : List Object) (o : ℕ) (row : Object) → o < length objects → row ≡ get_or objects o row → object_in (map shown objects) o ≡ shown row
there objects o row lt is = get_or-map shown objects o row no_object lt ∙ ap shown (sym is)

abbrev pub made : Class → List Value → HeapObject
made class values = record { class = class; values = values }

-- another object of the same class with these values replaces it
pub replaced : (objects : List Object) (o : ℕ) (row new : Object) (vs : List Value) → o < length objects → row ≡ get_or objects o row → new.class ≡ row.class → new.values ≡ vs → map shown (slice_set objects o new) ≡ with_values (map shown objects) o vs
replaced objects o row new vs lt is class values =
    map-set shown objects o new
    ∙ ap (λ (x : HeapObject). slice_set (map shown objects) o x)
    (ap (λ (c : Class). made c new.values) class
    ∙ ap (λ (us : List Value). made row.class us) values
    ∙ ap (λ (x : HeapObject). made x.class vs) (sym (there objects o row lt is)))

-- with values computed from the old ones
pub changed : (change : List Value → List Value) (objects : List Object) (o : ℕ) (row new : Object) → o < length objects → row ≡ get_or objects o row → new.class ≡ row.class → new.values ≡ change row.values → map shown (slice_set objects o new) ≡ with_values (map shown objects) o (change (object_in (map shown objects) o).values)
changed change objects o row new lt is class values =
    replaced objects o row new (change (object_in (map shown objects) o).values) lt is class (values ∙ ap (λ (x : HeapObject). change x.values) (sym (there objects o row lt is)))

-- with the old values
pub kept : (objects : List Object) (o : ℕ) (row new : Object) → row ≡ get_or objects o row → new.class ≡ row.class → new.values ≡ row.values → map shown (slice_set objects o new) ≡ map shown objects
kept objects o row new is class values =
    map-set_same shown objects o new row (ap (λ (c : Class). made c new.values) class ∙ ap (λ (us : List Value). made row.class us) values ∙ ap shown is)

pub on_err : {A E : Type 0} {P : Type 0} (r : Result A E) → P → OnErr r P
on_err (Ok a) p = tt
on_err (Err e) p = p
