-- The builders of rows can be printed.
use Rattle.std.proofs.Common.{◌≡◌, ℕ, ◌≤◌, ◌==◌, Bool, true, false, List, [], ◌∷◌, ◌++◌, length, get_or, refl, sym, subst, arith}
use Rattle.std.specs.Prelude.{ℤ, pos, map, flat_map, if◌then◌else◌}
use Rattle.std.specs.List.{AllByRecursion, position_or_len}
use Rattle.kr_mean.specs.Entries.{structure_of}
use Rattle.kr_mean.specs.Heaps.{value_at, walk}
use Rattle.kr_mean.specs.Places.{SlotPlace, This, Parameter, At}
use Rattle.kr_mean.specs.Problem.{Problem, slot_at}
use Rattle.kr_mean.specs.declared.row.Row.{Row}
use Rattle.kr_value.specs.declared.object.Class.{Class}
use Rattle.kr_value.specs.declared.object.Class.TheVariants as classes
use Rattle.kr_value.specs.declared.object.Spot.{Spot}
use Rattle.kr_value.specs.declared.object.Spot.TheVariants.{Field as FieldSpot, Length, Element}
use Rattle.kr_value.specs.declared.value.Value.{Value}
use Rattle.kr_value.specs.declared.value.Value.TheVariants.{Int, Bool as Truth, Null, Ref as Reference}
use Rattle.kr_emit_meaning.specs.Builders.{class_of_object, is_long_spot, objects_in}
use Rattle.kr_emit_laws.specs.Printable.{IsNumbered, IsPrintable, IsPrintableLine, IsWritten, IsWrittenOperand}
use Rattle.kr_emit_laws.specs.Syntax.{builder_of, operand_of, local_of, lengths_at, lengths_of, length_of, created_lines, creation_lines, set_lines, assignment_lines, lines_of}
use Rattle.kr_emit_laws.specs.Writable.{HasName, HasSpotName, HasTypeName, IsWritable, IsWrittenAt, IsWrittenValue}
use Rattle.kr_emit_laws.proofs.Comments.{plain_comment, plain_cut}

-- ---- lists

both_all : {X : Type 0} (P : X → Type 0) (xs ys : List X) → AllByRecursion P xs → AllByRecursion P ys → AllByRecursion P (xs ++ ys)
both_all P [] ys h k = k
both_all P (x ∷ xs) ys h k = (h.0, both_all P xs ys h.1 k)

all_each : {X Y : Type 0} (P : Y → Type 0) (f : X → List Y) (xs : List X) → ((x : X) → AllByRecursion P (f x)) → AllByRecursion P (flat_map f xs)
all_each P f [] h = tt
all_each P f (x ∷ xs) h = both_all P (f x) (flat_map f xs) (h x) (all_each P f xs h)

all_where : {X Y : Type 0} (Q : X → Type 0) (P : Y → Type 0) (f : X → List Y) (xs : List X) → AllByRecursion Q xs → ((x : X) → Q x → AllByRecursion P (f x)) → AllByRecursion P (flat_map f xs)
all_where Q P f [] a h = tt
all_where Q P f (x ∷ xs) a h = both_all P (f x) (flat_map f xs) (h x a.0) (all_where Q P f xs a.1 h)

first_of : (zs : List ℤ) → AllByRecursion (IsWritten false) zs → IsWritten false (get_or zs 0 (pos 0))
first_of [] h = omega arith
first_of (z ∷ zs) h = h.0

-- a position is at most the length
position_most : (x : ℕ) (xs : List ℕ) → position_or_len (λ m. m == x) xs ≤ length xs
position_most x [] = omega arith
position_most x (m ∷ xs) = go (m == x) refl (position_most x xs)
  where
    go : (b : Bool) → (m == x) ≡ b → position_or_len (λ (k : ℕ). k == x) xs ≤ length xs → position_or_len (λ (k : ℕ). k == x) (m ∷ xs) ≤ length (m ∷ xs)
    go true e h = rw e (omega arith)
    go false e h = rw e (omega (arith, h))

module _ (problem : Problem) (w : IsWritable problem) (structure : List (ℕ × Value)) (objects : List ℕ) (few : IsNumbered (length objects)) where
  -- of a pair the value is one that its place has
  abbrev IsPair : ℕ × Value → Type 0
  IsPair p = IsWrittenAt problem (slot_at problem p.0).place p.1

  numbered : (o : ℕ) → IsNumbered (local_of objects o)
  numbered o = omega (arith, position_most o objects, few)

  -- creations
  length_written : (o : ℕ) (v : Value) (place : SlotPlace) → IsWrittenAt problem place v → AllByRecursion (IsWritten false) (lengths_at o v place)
  length_written o (Int n) (At p Length) h = go (p == o)
    where
      go : (b : Bool) → AllByRecursion (IsWritten false) (if b then n ∷ [] else [])
      go true = (h, tt)
      go false = tt
  length_written o (Int n) (At p (FieldSpot f)) h = tt
  length_written o (Int n) (At p (Element i)) h = tt
  length_written o (Int n) This h = tt
  length_written o (Int n) (Parameter i) h = tt
  length_written o (Truth b) place h = tt
  length_written o Null place h = tt
  length_written o (Reference r) place h = tt

  lengths_written : (o : ℕ) → AllByRecursion IsPair structure → IsWritten false (length_of problem structure o)
  lengths_written o a =
      first_of (lengths_of problem structure o)
      (all_where IsPair (IsWritten false) (λ (p : ℕ × Value). lengths_at o p.1 (slot_at problem p.0).place) structure a (λ p h. length_written o p.1 (slot_at problem p.0).place h))

  created : (o : ℕ) (class : Class) → HasTypeName problem.program class → IsWritten false (length_of problem structure o) → AllByRecursion IsPrintableLine (created_lines problem.program (local_of objects o) (length_of problem structure o) class)
  created o (classes.Object c) h k = ((h, numbered o), tt)
  created o (classes.Array c) h k = ((h, numbered o, k), tt)
  created o classes.Set h k = tt
  created o classes.List h k = tt

  -- assignments
  operand : (is_long : Bool) (v : Value) → IsWrittenValue is_long v → IsWrittenOperand (operand_of objects is_long v)
  operand is_long (Int n) h = h
  operand is_long (Truth b) h = tt
  operand is_long Null h = tt
  operand is_long (Reference o) h = numbered o

  set : (o : ℕ) (class : Class) (v : Value) (spot : Spot) → HasSpotName problem.program class spot → IsWrittenValue (is_long_spot problem.program class spot) v → AllByRecursion IsPrintableLine (set_lines problem.program objects o class v spot)
  set o class v Length h k = tt
  set o class v (FieldSpot f) h k = ((numbered o, h, operand (is_long_spot problem.program class (FieldSpot f)) v k), tt)
  set o class v (Element i) h k = ((numbered o, h, operand (is_long_spot problem.program class (Element i)) v k), tt)

  assigned : (v : Value) (place : SlotPlace) → HasName problem place → IsWrittenAt problem place v → AllByRecursion IsPrintableLine (assignment_lines problem objects v place)
  assigned v This h k = tt
  assigned v (Parameter i) h k = tt
  assigned v (At o spot) h k = set o (class_of_object problem o) v spot h k

  lines_printable : AllByRecursion IsPair structure → AllByRecursion IsPrintableLine (lines_of problem structure objects)
  lines_printable a =
      both_all IsPrintableLine (flat_map (creation_lines problem structure objects) objects) (flat_map (λ (p : ℕ × Value). assignment_lines problem objects p.1 (slot_at problem p.0).place) structure)
      (all_each IsPrintableLine (creation_lines problem structure objects) objects (λ o. created o (class_of_object problem o) (w.classes o) (lengths_written o a)))
      (all_where IsPair IsPrintableLine (λ (p : ℕ × Value). assignment_lines problem objects p.1 (slot_at problem p.0).place) structure a (λ p h. assigned p.1 (slot_at problem p.0).place (w.names p.0) h))

pairs_written : (problem : Problem) (vector : List ℕ) → IsWritable problem → (ss : List ℕ)
    → AllByRecursion (λ (p : ℕ × Value). IsWrittenAt problem (slot_at problem p.0).place p.1) (map (λ (s : ℕ). (s, value_at problem vector s)) ss)
pairs_written problem vector w [] = tt
pairs_written problem vector w (s ∷ ss) = (w.values s (get_or vector s 0), pairs_written problem vector w ss)

pub printable : (problem : Problem) (row : Row) (vector : List ℕ) → IsWritable problem → row.structure ≡ structure_of problem vector → IsNumbered (length (objects_in row.structure)) → IsPrintable (builder_of problem row)
printable problem row vector w e few =
    let a : AllByRecursion (λ (p : ℕ × Value). IsWrittenAt problem (slot_at problem p.0).place p.1) row.structure =
    subst (AllByRecursion (λ (p : ℕ × Value). IsWrittenAt problem (slot_at problem p.0).place p.1)) (sym e) (pairs_written problem vector w (walk problem vector)) in
    record { key = plain_comment _ (plain_cut row.key); type = w.root; lines = lines_printable problem w row.structure (objects_in row.structure) few a }
