-- The lines of a row's builder fit the types of their locals, fields and elements.
use Rattle.std.proofs.Common.{◌≡◌, ℕ, zero, suc, ◌+◌, ◌<◌, ◌≤◌, ◌^◌, ◌⊎◌, inl, inr, Bool, true, ◌||◌, List, [], ◌∷◌, ◌++◌, length, get_or, Option, Some, refl, sym, ap, ◌∙◌, arith, subst, append_assoc}
use Rattle.std.specs.Prelude.{map, flat_map, filter, ℤ, pos, negsuc, nat_lt, not, ◌==◌, slice_get, if◌then◌else◌}
use Rattle.std.specs.List.{AllByRecursion, range_with_len}
use Rattle.std.proofs.lemmas.Bool.{cases_lt, eq-eqb, lt-ltb, ne_eqb}
use Rattle.std.proofs.lemmas.List.{append-nil, get_or_at, get_or_append_left, length-append, length-map, map-append}
use Rattle.kr_base.specs.Places.{nowhere}
use Rattle.kr_base.specs.declared.place.Place.{Place}
use Rattle.kr_ast.specs.Tree.{Tree}
use Rattle.kr_value.specs.declared.value.Value.{Value}
use Rattle.kr_value.specs.declared.value.Value.TheVariants.{Int, Bool as Truth, Null, Ref as Reference}
use Rattle.kr_value.specs.declared.object.Class as classes
use Rattle.kr_value.specs.declared.object.Class.TheVariants.{Object, Array, Set, List as ListClass}
use Rattle.kr_value.specs.declared.object.Spot.{Spot}
use Rattle.kr_value.specs.declared.object.Spot.TheVariants.{Field as FieldSpot, Element}
use Rattle.kr_classes_table.specs.Numbers.{Width, Bits32, Bits64, half}
use Rattle.kr_classes_table.specs.Table.{Class, Constructor, Field, Table, constructor_parameters, fields_of, is_assignable, is_below, is_subtype, is_widened}
use Rattle.kr_classes_table.specs.Table as tables
use Rattle.kr_classes_table.specs.Types.{JavaType, NumberType, BooleanType, NullType, VoidType, ClassType, ArrayType, SetType, ListType, InferredType, is_known}
use Rattle.kr_emit_meaning.specs.Buildable.{array_elements, is_built}
use Rattle.kr_emit_meaning.specs.Builders.{class_of_object, is_long, objects_in, referred}
use Rattle.kr_emit_laws.proofs.Structures.{all_valid, by_objects, met, named, objects_apart, objects_are, of_object, position_at, slot_walked}
use Rattle.kr_emit_laws.specs.BuilderTree.{builder_tree}
use Rattle.kr_emit_laws.specs.Syntax.{Boolean, CreatesArray, Line, SetsElement, SetsField, Whole, assignment_lines, builder_of, class_name, created_lines, creation_lines, element_name, length_of, lines_of, local_of, operand_of, set_lines}
use Rattle.kr_emit_laws.specs.Fitting.{BuilderFits, Fits, GoesInto, HasField, IsOperand, IsReturned, LinesFit, local_type, meant_type, types_after, width_of}
use Rattle.kr_laws_runs.proofs.Respects.{AllOf}
use Rattle.kr_laws_safety.specs.Domains.{class_type, object_types}
use Rattle.kr_laws_safety.specs.Fits.{IsOf, IsWithin, type_at}
use Rattle.kr_laws_types.proofs.Given.{variable_known}
use Rattle.kr_laws_pruning.proofs.Membership.{Has, has_append_right, has_map_from}
use Rattle.kr_laws_pruning.proofs.Numbering.{first_slot, get_map, object_at_number, width_at}
use Rattle.kr_laws_pruning.proofs.Places.{class_at, extent, extent_of, extent_within, kind}
use Rattle.kr_laws_pruning.proofs.Reached.{Apart, root_walked}
use Rattle.kr_laws_pruning.proofs.SlotForks.{all_append, all_has}
use Rattle.kr_laws_pruning.proofs.Walked.{Valid, all_flat}
use Rattle.kr_mean.specs.Entries.{structure_of}
use Rattle.kr_mean.specs.Heaps.{distinct, length_in, slots_in, value_at, walk}
use Rattle.kr_mean.specs.Places.{At}
use Rattle.kr_mean.specs.Problem.{DomainObject, Problem, domain_at, heap_number, slot_at}
use Rattle.kr_mean.specs.Program.{Program, program_of}
use Rattle.kr_mean.specs.Runs.{is_same_number, root_class}
use Rattle.kr_mean.specs.Space.{IsVector, space_of}
use Rattle.kr_mean.specs.WellFormed.{AreSpots}
use Rattle.kr_mean.specs.declared.row.Row.{Row}
use Rattle.kr_report.specs.Texts.{field_names}
use Rattle.kr_emit_laws.proofs.Beside.{IsBeside, array_type, e1, e3, elements_known, elements_mean, fields_long, named_elements, no_field, ready}
use Rattle.kr_emit_laws.proofs.Objects.{length_is}
use Rattle.kr_emit_laws.proofs.Values.{element_typed, field_typed, length_given, object_type, root_given, root_typed}
use Rattle.kr_emit_laws.proofs.Wider.{below_same, class_means, counted, named_same, plain, spot_found}
use Rattle.kr_emit_laws.specs.Laws.{with_builders}

-- ---- types of locals

-- the types of all locals, the newest first, where these are their types in order
record Knows (types : List JavaType) (known : List JavaType) : Type 0 where
  long : length types ≡ length known
  at : (i : ℕ) → i < length known → local_type types i ≡ Some (get_or known i VoidType)

knows_none : Knows [] []
knows_none = record { long = refl; at = λ i h. absurd (omega (arith, h)) }

knows_more : (types known : List JavaType) (t : JavaType) → Knows types known → Knows (t ∷ types) (known ++ t ∷ [])
knows_more types known t k = record {
  long = omega (arith, k.long, length-append known (t ∷ []));
  at = λ i h. go i (cases_lt i (length known)) (omega (arith, h, length-append known (t ∷ [])));
}
  where
    go : (i : ℕ) → (i < length known) ⊎ (length known ≤ i) → i < length known + 1 → local_type (t ∷ types) i ≡ Some (get_or (known ++ t ∷ []) i VoidType)
    go i (inl less) h =
        ap (λ (b : Bool). let o : Option JavaType = if b then Some t else local_type types i in o) (ne_eqb (length types) i (λ e. absurd (omega (arith, e, k.long, less))))
        ∙ (k.at i less ∙ ap (λ (u : JavaType). Some u) (sym (get_or_append_left known (t ∷ []) VoidType i less)))
    go i (inr le) h =
        let e : length known ≡ i = omega (arith, le, h) in
        ap (λ (b : Bool). let o : Option JavaType = if b then Some t else local_type types i in o) (eq-eqb (length types) i (k.long ∙ e))
        ∙ ap (λ (u : JavaType). Some u) (sym (get_or_at known t [] VoidType i e))

-- ---- lists of lines

-- a line that declares no local
abbrev Sets : Table → List JavaType → Line → Type 0
Sets u types line = Fits u types line × (types_after u types line ≡ types)

all_sets : (u : Table) (result : JavaType) (types : List JavaType) (lines : List Line) → AllOf (Sets u types) lines → IsReturned u types result → LinesFit u result types lines
all_sets u result types [] h r = r
all_sets u result types (line ∷ lines) h r = (h.0.0, subst (λ (ts : List JavaType). LinesFit u result ts lines) (sym h.0.1) (all_sets u result types lines h.1 r))

has_between : {A : Type 0} (x : A) (xs : List A) → Has x xs → (before : List A) × (after : List A) × (before ++ x ∷ after ≡ xs)
has_between x [] h = absurd h
has_between x (y ∷ ys) (inl e) = ([], ys, ap (λ (z : _). z ∷ ys) (sym e))
has_between x (y ∷ ys) (inr h) = let r = has_between x ys h in (y ∷ r.0, r.1, ap (λ (zs : List _). y ∷ zs) r.2)

-- ---- types

width_is : (w : Width) → width_of (is_long (NumberType w)) ≡ w
width_is Bits32 = refl
width_is Bits64 = refl

number_itself : (u : Table) (w : Width) → is_assignable u (NumberType w) (NumberType w) ≡ true
number_itself u Bits32 = refl
number_itself u Bits64 = refl

abbrev type_of_class : Problem → classes.Class → JavaType
type_of_class problem (Object c) = ClassType c
type_of_class problem (Array k) = ArrayType (array_elements problem.program k)
type_of_class problem class = VoidType

module _ (files : List Tree) (problem : Problem) (rows : List Row) (at : List ℕ → Place) (h : IsBeside files problem rows at) (n : ℕ) (row : Row) (v : List ℕ) (there : slice_get rows n ≡ Some row) (is : row.structure ≡ structure_of problem v) (iv : IsVector (space_of problem) v) (few_rows : n < 2 ^ 64) (few_objects : length (objects_in row.structure) < 2 ^ 64) where
  abbrev program : Program
  program = program_of (with_builders files (builder_tree at problem rows))

  abbrev u : Table
  u = program.table

  abbrev t : Table
  t = problem.program.table

  abbrev objects : List ℕ
  objects = objects_in (structure_of problem v)

  abbrev reached : List DomainObject
  reached = met problem h.formed v

  abbrev number : DomainObject → ℕ
  number o = heap_number problem o

  abbrev first : DomainObject → ℕ
  first o = first_slot problem o.domain o.number

  abbrev class_of : DomainObject → classes.Class
  class_of o = class_at problem h.formed o.domain

  abbrev type_made : DomainObject → JavaType
  type_made o = type_of_class problem (class_of o)

  -- ---- types in both tables

  subtype_same : (a b : JavaType) → is_subtype u a b ≡ is_subtype t a b
  subtype_same NullType b = refl
  subtype_same (ClassType c) (ClassType d) = below_same problem (e1 files problem rows at h) program h.wider h.typed c d
  subtype_same (SetType InferredType) (SetType b) = refl
  subtype_same (ListType InferredType) (ListType b) = refl
  subtype_same a b = refl

  assignable_same : (a b : JavaType) → is_assignable u a b ≡ is_assignable t a b
  assignable_same a b = ap (λ (x : Bool). is_widened a b || x) (subtype_same a b)

  -- the type of an object of a domain
  class_type_is : (o : DomainObject) → Valid problem o → class_type problem.program (class_of o) ≡ type_of_class problem (class_of o)
  class_type_is o a = go (class_of o) refl
    where
      go : (c : classes.Class) → class_of o ≡ c → class_type problem.program c ≡ type_of_class problem c
      go (Object c) e = refl
      go (Array k) e = array_type files problem rows at h n row v there is iv o.domain k a.0 e
      go Set e = refl
      go ListClass e = refl

  known_made : (o : DomainObject) → Valid problem o → is_known (type_of_class problem (class_of o)) ≡ true
  known_made o a = go (class_of o) refl
    where
      go : (c : classes.Class) → class_of o ≡ c → is_known (type_of_class problem c) ≡ true
      go (Object c) e = refl
      go (Array k) e = elements_known files problem rows at h n row v there is iv (array_elements problem.program k) (named_elements problem problem.domains o.domain k (e3 files problem rows at h) a.0 e)
      go Set e = refl
      go ListClass e = refl

  -- ---- objects and locals

  local_is : (before : List DomainObject) (o : DomainObject) (after : List DomainObject) → before ++ o ∷ after ≡ reached → local_of objects (number o) ≡ length before
  local_is before o after e =
      let s : map number before ++ number o ∷ map number after ≡ objects = sym (map-append number before (o ∷ after)) ∙ (ap (map number) e ∙ sym (objects_are problem h.formed v)) in
      let a : Apart (map number before ++ number o ∷ map number after) = subst Apart (sym s) (objects_apart (structure_of problem v)) in
      ap (λ (l : List ℕ). local_of l (number o)) (sym s) ∙ (position_at (map number before) (number o) (map number after) a ∙ length-map before number)

  class_is : (o : DomainObject) → Valid problem o → class_of_object problem (number o) ≡ class_of o
  class_is o a = ap (λ (x : DomainObject). (domain_at problem x.domain).class) (object_at_number problem o.domain o.number a.0 a.1).1

  local_typed : (types : List JavaType) → Knows types (map type_made reached) → (o : DomainObject) → Has o reached → local_type types (local_of objects (number o)) ≡ Some (type_of_class problem (class_of o))
  local_typed types knows o r =
      let split = has_between o reached r in
      let e : split.0 ++ o ∷ split.1 ≡ reached = split.2 in
      let inside : length split.0 < length (map type_made reached) = omega (arith, ap (λ (l : List DomainObject). length l) e, length-append split.0 (o ∷ split.1), length-map reached type_made) in
      let type : get_or (map type_made reached) (length split.0) VoidType ≡ type_made o =
      ap (λ (l : List JavaType). get_or l (length split.0) VoidType) (ap (map type_made) (sym e) ∙ map-append type_made split.0 (o ∷ split.1))
      ∙ get_or_at (map type_made split.0) (type_made o) (map type_made split.1) VoidType (length split.0) (length-map split.0 type_made) in
      ap (local_type types) (local_is split.0 o split.1 e) ∙ (knows.at (length split.0) inside ∙ ap (λ (x : JavaType). Some x) type)

  -- a reference to an object of the structure goes where its value may be
  record Refers (types : List JavaType) (m : ℕ) (a : JavaType) : Type 0 where
    type : JavaType
    local : local_type types (local_of objects m) ≡ Some type
    known : is_known type ≡ true
    assignable : is_assignable u type a ≡ true

  refers : (types : List JavaType) → Knows types (map type_made reached) → (m : ℕ) (a : JavaType) → Has m objects → is_assignable t (type_at (object_types problem) m) a ≡ true → Refers types m a
  refers types knows m a i assigned =
      let from = has_map_from number m reached (subst (λ (l : List ℕ). Has m l) (objects_are problem h.formed v) i) in
      let o : DomainObject = from.0 in
      let valid : Valid problem o = all_has (Valid problem) reached (all_valid problem h.formed v) o from.1 in
      let type : type_at (object_types problem) m ≡ type_of_class problem (class_of o) =
      ap (type_at (object_types problem)) (sym from.2) ∙ (object_type problem h.formed h.domains v iv o.domain o.number valid.0 valid.1 ∙ class_type_is o valid) in
      record {
        type = type_of_class problem (class_of o);
        local = ap (λ (x : ℕ). local_type types (local_of objects x)) (sym from.2) ∙ local_typed types knows o from.1;
        known = known_made o valid;
        assignable = assignable_same (type_of_class problem (class_of o)) a ∙ (ap (λ (x : JavaType). is_assignable t x a) (sym type) ∙ assigned);
      }

  -- ---- operands

  operand_fits : (types : List JavaType) → Knows types (map type_made reached) → (x : Value) (a : JavaType) → ((m : ℕ) → x ≡ Reference m → Has m objects) → IsOf t (object_types problem) a x → GoesInto u types (operand_of objects (is_long a) x) a
  operand_fits types knows (Int z) a among of = number_fits z of
    where
      operand : (w : Width) (z : ℤ) → IsWithin w z → IsOperand types (Whole (is_long (NumberType w)) z) (NumberType w)
      operand w (pos k) l = (ap (λ (x : Width). NumberType x) (sym (width_is w)), ap (λ (x : Width). nat_lt k (half x)) (width_is w) ∙ lt-ltb k (half w) l)
      operand w (negsuc k) l = ap (λ (x : Width). NumberType x) (sym (width_is w))

      number_fits : (z : ℤ) → (w : Width) × (a ≡ NumberType w) × IsWithin w z → GoesInto u types (Whole (is_long a) z) a
      number_fits z r = subst (λ (b : JavaType). GoesInto u types (Whole (is_long b) z) b) (sym r.1) (record { type = NumberType r.0; operand = operand r.0 z r.2; assignable = number_itself u r.0 })
  operand_fits types knows (Truth b) a among of = subst (λ (x : JavaType). GoesInto u types (Boolean b) x) (sym of) (record { type = BooleanType; operand = refl; assignable = refl })
  operand_fits types knows Null a among of = record { type = NullType; operand = refl; assignable = of }
  operand_fits types knows (Reference m) a among of = let r = refers types knows m a (among m refl) of.1 in record { type = r.type; operand = (r.local, r.known); assignable = r.assignable }

  -- what a slot of a reached object refers to is named
  among_at : (o : DomainObject) → Valid problem o → Has o reached → (j : ℕ) → j < extent problem h.formed v o.domain o.number → (m : ℕ) → value_at problem v (first o + j) ≡ Reference m → Has m objects
  among_at o a r j l m e = named problem h.formed v (first o + j) m (slot_walked problem h.formed v o a r j l) e

  -- ---- lines that set

  module _ (types : List JavaType) (knows : Knows types (map (λ (o : DomainObject). type_of_class problem (class_at problem h.formed o.domain)) reached)) where
    abbrev lines_at : DomainObject → classes.Class → ℕ → List Line
    lines_at o c j = assignment_lines problem objects (value_at problem v (first o + j)) (At (number o) (kind c j))

    line_is : (o : DomainObject) → Valid problem o → (spot : Spot) (x : Value) (c : classes.Class) → class_of o ≡ c → assignment_lines problem objects x (At (number o) spot) ≡ set_lines problem.program objects (number o) c x spot
    line_is o a spot x c e = ap (λ (k : classes.Class). set_lines problem.program objects (number o) k x spot) (class_is o a ∙ e)

    local_of_class : (o : DomainObject) → Has o reached → (c : classes.Class) → class_of o ≡ c → local_type types (local_of objects (number o)) ≡ Some (type_of_class problem c)
    local_of_class o r c e = local_typed types knows o r ∙ ap (λ (k : classes.Class). Some (type_of_class problem k)) e

    field_sets : (o : DomainObject) → Valid problem o → Has o reached → (c : ℕ) → class_of o ≡ Object c → (j : ℕ) → j < width_at problem o.domain → AllOf (Sets u types) (lines_at o (Object c) j)
    field_sets o a r c e j l =
        let x : Value = value_at problem v (first o + j) in
        let inside : j < length (fields_of t c) = omega (arith, l, fields_long files problem rows at h n row v there is iv o a c e) in
        let found = spot_found problem (e1 files problem rows at h) program h.wider h.typed h.rules h.whole no_field c j inside in
        let f : Field = found.0.field in
        let type : get_or (map (λ (g : Field). g.type) (fields_of t c)) j VoidType ≡ f.type = get_map (λ (g : Field). g.type) (fields_of t c) j no_field VoidType inside ∙ sym (ap (λ (g : Field). g.type) found.1) in
        let of : IsOf t (object_types problem) f.type x = subst (λ (b : JavaType). IsOf t (object_types problem) b x) type (field_typed problem h.formed h.domains v iv o.domain o.number c j a.0 a.1 e l) in
        let reaches : j < extent problem h.formed v o.domain o.number = subst (λ (k : classes.Class). j < extent_of k (width_at problem o.domain) (value_at problem v (first o))) (sym e) l in
        let name : List ℕ = get_or (field_names t (Object c)) j [] in
        let named_old : tables.field_named t c name ≡ Some f = sym (named_same problem (e1 files problem rows at h) program h.wider h.typed c name) ∙ found.0.named in
        let fits : GoesInto u types (operand_of objects (is_long f.type) x) f.type = operand_fits types knows x f.type (λ m q. among_at o a r j reaches m q) of in
        let field : HasField u types (local_of objects (number o)) name f = record {
          class = c;
          local = local_of_class o r (Object c) e;
          found = found.0.named;
          instance = found.0.instance;
          known = variable_known f.type (h.typed.fields c name f named_old).type;
        } in
        let line : AllOf (Sets u types) (SetsField (local_of objects (number o)) name (operand_of objects (is_long (get_or (map (λ (g : Field). g.type) (fields_of t c)) j VoidType)) x) ∷ []) =
        subst (λ (b : JavaType). AllOf (Sets u types) (SetsField (local_of objects (number o)) name (operand_of objects (is_long b) x) ∷ [])) (sym type) ((((f, field, fits), refl)), tt) in
        subst (λ (ls : List Line). AllOf (Sets u types) ls) (sym (line_is o a (FieldSpot j) x (Object c) e)) line

    element_sets : (o : DomainObject) → Valid problem o → Has o reached → (k : ℕ) → class_of o ≡ Array k → (j x : ℕ) → x ≡ suc j → j < length_in (value_at problem v (first o)) → AllOf (Sets u types) (lines_at o (Array k) x)
    element_sets o a r k e j x on l =
        let y : Value = value_at problem v (first o + x) in
        let el : JavaType = array_elements problem.program k in
        let of : IsOf t (object_types problem) el y = subst (λ (i : ℕ). IsOf t (object_types problem) el (value_at problem v (first o + i))) (sym on) (element_typed problem h.formed h.domains v iv o.domain o.number k j a.0 a.1 e l) in
        let limit : suc (length_in (value_at problem v (first o))) ≤ width_at problem o.domain = subst (λ (c : classes.Class). extent_of c (width_at problem o.domain) (value_at problem v (first o)) ≤ width_at problem o.domain) e (extent_within problem h.formed v o.domain o.number a.0 a.1) in
        let reaches : x < extent problem h.formed v o.domain o.number = subst (λ (c : classes.Class). x < extent_of c (width_at problem o.domain) (value_at problem v (first o))) (sym e) (omega (arith, l, on)) in
        let kind_is : kind (Array k) x ≡ Element j = ap (kind (Array k)) on in
        let known : is_known el ≡ true = elements_known files problem rows at h n row v there is iv el (named_elements problem problem.domains o.domain k (e3 files problem rows at h) a.0 e) in
        let small : nat_lt j (half Bits32) ≡ true = lt-ltb j 2147483648 (omega (arith, l, limit, h.short o.domain k a.0 e)) in
        let fits : GoesInto u types (operand_of objects (is_long el) y) el = operand_fits types knows y el (λ m q. among_at o a r x reaches m q) of in
        let line : AllOf (Sets u types) (SetsElement (local_of objects (number o)) j (operand_of objects (is_long el) y) ∷ []) = (((el, local_of_class o r (Array k) e, known, small, fits), refl), tt) in
        subst (λ (spot : Spot). AllOf (Sets u types) (assignment_lines problem objects y (At (number o) spot))) (sym kind_is)
        (subst (λ (ls : List Line). AllOf (Sets u types) ls) (sym (line_is o a (Element j) y (Array k) e)) line)

    fields_set : (o : DomainObject) → Valid problem o → Has o reached → (c : ℕ) → class_of o ≡ Object c → (j m : ℕ) → j + m ≤ width_at problem o.domain → AllOf (Sets u types) (flat_map (lines_at o (Object c)) (range_with_len j m))
    fields_set o a r c e j zero l = tt
    fields_set o a r c e j (suc m) l =
        all_append (Sets u types) (lines_at o (Object c) j) (flat_map (lines_at o (Object c)) (range_with_len (j + 1) m)) (field_sets o a r c e j (omega (arith, l))) (fields_set o a r c e (j + 1) m (omega (arith, l)))

    elements_set : (o : DomainObject) → Valid problem o → Has o reached → (k : ℕ) → class_of o ≡ Array k → (j x m : ℕ) → x ≡ suc j → j + m ≤ length_in (value_at problem v (first o)) → AllOf (Sets u types) (flat_map (lines_at o (Array k)) (range_with_len x m))
    elements_set o a r k e j x zero on l = tt
    elements_set o a r k e j x (suc m) on l =
        all_append (Sets u types) (lines_at o (Array k) x) (flat_map (lines_at o (Array k)) (range_with_len (x + 1) m)) (element_sets o a r k e j x on (omega (arith, l))) (elements_set o a r k e (suc j) (x + 1) m (omega (arith, on)) (omega (arith, l)))

    object_sets : (o : DomainObject) → Valid problem o → Has o reached → AllOf (Sets u types) (of_object problem h.formed v (assignment_lines problem objects) (λ x. refl) (λ x i. refl) o)
    object_sets o a r = go (class_of o) refl
      where
        go : (c : classes.Class) → class_of o ≡ c → AllOf (Sets u types) (flat_map (lines_at o c) (range_with_len 0 (extent_of c (width_at problem o.domain) (value_at problem v (first o)))))
        go (Object c) e = fields_set o a r c e 0 (width_at problem o.domain) (omega arith)
        go (Array k) e = elements_set o a r k e 0 1 (length_in (value_at problem v (first o))) refl (omega arith)
        go Set e = absurd (subst (λ (c : classes.Class). AreSpots c (domain_at problem o.domain).spots) e (h.formed.spots o.domain a.0))
        go ListClass e = absurd (subst (λ (c : classes.Class). AreSpots c (domain_at problem o.domain).spots) e (h.formed.spots o.domain a.0))

    structure_sets : AllOf (Sets u types) (flat_map (λ (p : ℕ × Value). assignment_lines problem objects p.1 (slot_at problem p.0).place) (structure_of problem v))
    structure_sets =
        subst (λ (ls : List Line). AllOf (Sets u types) ls) (sym (by_objects problem h.formed v (assignment_lines problem objects) (λ x. refl) (λ x i. refl)))
        (all_flat (Sets u types) (of_object problem h.formed v (assignment_lines problem objects) (λ x. refl) (λ x i. refl)) reached (each reached (all_valid problem h.formed v) (λ o i. i)))
      where
        each : (os : List DomainObject) → AllOf (Valid problem) os → ((o : DomainObject) → Has o os → Has o reached) → AllOf (λ (o : DomainObject). AllOf (Sets u types) (of_object problem h.formed v (assignment_lines problem objects) (λ x. refl) (λ x i. refl) o)) os
        each [] a r = tt
        each (o ∷ os) a r = (object_sets o a.0 (r o (inl refl)), each os a.1 (λ o i. r o (inr i)))

  -- ---- lines that create

  -- no constructor takes anything
  takes_none : (o : DomainObject) → Valid problem o → (c : ℕ) → class_of o ≡ Object c → constructor_parameters u c ≡ []
  takes_none o a c e =
      let built : is_built t c problem.domains ≡ true = counted t c problem.domains o.domain c a.0 e (omega (arith, a.1)) (ap (λ (b : Bool). b || tables.is_among c (tables.ancestors t c)) (eq-eqb c c refl)) in
      ap (λ (ks : List Constructor). flat_map (λ (k : Constructor). k.parameters) ks) (h.wider.constructors c ∙ (plain problem (e1 files problem rows at h) c built).0)

  creation_fits : (o : DomainObject) → Valid problem o → Has o reached → (types : List JavaType) → local_of objects (number o) ≡ length types → (result : JavaType) (rest : List Line) → LinesFit u result (type_of_class problem (class_of o) ∷ types) rest
      → LinesFit u result types (creation_lines problem (structure_of problem v) objects (number o) ++ rest)
  creation_fits o a r types local result rest later =
      subst (λ (c : classes.Class). LinesFit u result types (created_lines problem.program (local_of objects (number o)) (length_of problem (structure_of problem v) (number o)) c ++ rest)) (sym (class_is o a)) (go (class_of o) refl later)
    where
      go : (c : classes.Class) → class_of o ≡ c → LinesFit u result (type_of_class problem c ∷ types) rest → LinesFit u result types (created_lines problem.program (local_of objects (number o)) (length_of problem (structure_of problem v) (number o)) c ++ rest)
      go (Object c) e later =
          let means : meant_type u (class_name t.headings c) ≡ ClassType c = class_means t u c h.wider (h.objects o.domain c a.0 e) nowhere in
          ((local, record { class = c; named = means; plain = takes_none o a c e }), subst (λ (b : JavaType). LinesFit u result (b ∷ types) rest) (sym means) later)
      go (Array k) e later =
          let el : JavaType = array_elements problem.program k in
          let means : meant_type u (element_name t.headings el) ≡ el = elements_mean files problem rows at h n row v there is iv o.domain k a.0 e nowhere in
          let known : is_known el ≡ true = elements_known files problem rows at h n row v there is iv el (named_elements problem problem.domains o.domain k (e3 files problem rows at h) a.0 e) in
          let given = length_given problem h.formed h.domains v iv o.domain o.number k a.0 a.1 e in
          let limit : suc (length_in (value_at problem v (first o))) ≤ width_at problem o.domain = subst (λ (c : classes.Class). extent_of c (width_at problem o.domain) (value_at problem v (first o)) ≤ width_at problem o.domain) e (extent_within problem h.formed v o.domain o.number a.0 a.1) in
          let small : nat_lt given.0 (half Bits32) ≡ true = lt-ltb given.0 2147483648 (omega (arith, limit, ap length_in given.1, h.short o.domain k a.0 e)) in
          let length_is : length_of problem (structure_of problem v) (number o) ≡ pos given.0 = length_is program problem h.formed v (ready files problem rows at h n row v there is iv few_rows few_objects) at o a r k given.0 e given.1 in
          subst (λ (z : ℤ). LinesFit u result types (CreatesArray (element_name t.headings el) (local_of objects (number o)) z ∷ rest)) (sym length_is)
          ((local, ap is_known means ∙ known, small), subst (λ (b : JavaType). LinesFit u result (ArrayType b ∷ types) rest) (sym means) later)
      go Set e later = absurd (subst (λ (c : classes.Class). AreSpots c (domain_at problem o.domain).spots) e (h.formed.spots o.domain a.0))
      go ListClass e later = absurd (subst (λ (c : classes.Class). AreSpots c (domain_at problem o.domain).spots) e (h.formed.spots o.domain a.0))

  creations_fit : (before os : List DomainObject) → before ++ os ≡ reached → (types : List JavaType) → Knows types (map type_made before) → (result : JavaType) (rest : List Line) → ((types : List JavaType) → Knows types (map type_made reached) → LinesFit u result types rest)
      → LinesFit u result types (flat_map (creation_lines problem (structure_of problem v) objects) (map number os) ++ rest)
  creations_fit before [] e types knows result rest later = later types (subst (λ (os : List DomainObject). Knows types (map type_made os)) (sym (append-nil before) ∙ e) knows)
  creations_fit before (o ∷ os) e types knows result rest later =
      let r : Has o reached = subst (Has o) e (has_append_right o before (o ∷ os) (inl refl)) in
      let a : Valid problem o = all_has (Valid problem) reached (all_valid problem h.formed v) o r in
      let local : local_of objects (number o) ≡ length types = local_is before o os e ∙ (sym (length-map before type_made) ∙ sym knows.long) in
      let next : Knows (type_made o ∷ types) (map type_made (before ++ o ∷ [])) = subst (λ (ts : List JavaType). Knows (type_made o ∷ types) ts) (sym (map-append type_made before (o ∷ []))) (knows_more types (map type_made before) (type_made o) knows) in
      subst (λ (ls : List Line). LinesFit u result types ls) (sym (append_assoc (creation_lines problem (structure_of problem v) objects (number o)) (flat_map (creation_lines problem (structure_of problem v) objects) (map number os)) rest))
      (creation_fits o a r types local result (flat_map (creation_lines problem (structure_of problem v) objects) (map number os) ++ rest)
      (creations_fit (before ++ o ∷ []) os (append_assoc before (o ∷ []) os ∙ e) (type_made o ∷ types) next result rest later))

  -- ---- the root

  root_first : (m : ℕ) → value_at problem v 0 ≡ Reference m → local_of objects m ≡ 0
  unfolding walk
  root_first m e =
      let entry : ℕ → ℕ × Value = λ s. (s, value_at problem v s) in
      let p : ℕ = length problem.parameters in
      let later : List ℕ = flat_map (slots_in problem v) reached in
      let one : p + 1 ≡ suc p = omega arith in
      let split : structure_of problem v ≡ (0, value_at problem v 0) ∷ map entry (range_with_len 1 p ++ later) = ap (λ (k : ℕ). map entry (range_with_len 0 k ++ later)) one in
      let rooted : structure_of problem v ≡ (0, Reference m) ∷ map entry (range_with_len 1 p ++ later) = split ∙ ap (λ (x : Value). (0, x) ∷ map entry (range_with_len 1 p ++ later)) e in
      ap (λ (s : List (ℕ × Value)). local_of (objects_in s) m) rooted
      ∙ ap (λ (b : Bool). let k : ℕ = if not b then 1 + local_of (filter (λ y. not (m == y)) (distinct is_same_number (flat_map (λ (p : ℕ × Value). referred p.1) (map entry (range_with_len 1 p ++ later))))) m else 0 in k) (eq-eqb m m refl)

  result_is : meant_type u (class_name t.headings (root_class problem)) ≡ ClassType (root_class problem)
  result_is = class_means t u (root_class problem) h.wider (h.objects problem.root (root_class problem) h.formed.root h.domains.root) nowhere

  returns : (types : List JavaType) → Knows types (map type_made reached) → IsReturned u types (meant_type u (class_name t.headings (root_class problem)))
  returns types knows =
      let root = root_given problem h.formed h.domains v iv in
      let m : ℕ = root.0 in
      let among : Has m objects = named problem h.formed v 0 m (root_walked problem h.formed v 0 (omega arith)) root.1 in
      let r : Refers types m (ClassType (root_class problem)) = refers types knows m (ClassType (root_class problem)) among (root_typed problem h.formed h.domains v iv m root.1).1 in
      record {
        type = r.type;
        local = ap (local_type types) (sym (root_first m root.1)) ∙ r.local;
        known = r.known;
        assignable = ap (is_assignable u r.type) result_is ∙ r.assignable;
      }

  lines_fit : LinesFit u (meant_type u (class_name t.headings (root_class problem))) [] (lines_of problem (structure_of problem v) objects)
  lines_fit =
      let result : JavaType = meant_type u (class_name t.headings (root_class problem)) in
      let rest : List Line = flat_map (λ (p : ℕ × Value). assignment_lines problem objects p.1 (slot_at problem p.0).place) (structure_of problem v) in
      subst (λ (os : List ℕ). LinesFit u result [] (flat_map (creation_lines problem (structure_of problem v) objects) os ++ rest)) (sym (objects_are problem h.formed v))
      (creations_fit [] reached refl [] knows_none result rest (λ types knows. all_sets u result types rest (structure_sets types knows) (returns types knows)))

  pub builder_fits : length (builder_of problem row).lines ≤ 2 ^ 63 → BuilderFits u (builder_of problem row)
  builder_fits few = record {
    known = ap is_known result_is;
    few = few;
    lines = subst (λ (s : List (ℕ × Value)). LinesFit u (meant_type u (class_name t.headings (root_class problem))) [] (lines_of problem s (objects_in s))) (sym is) lines_fit;
  }

-- rows by their numbers
pub all_fit : (problem : Problem) (u : Table) (rows : List Row) → ((n : ℕ) (row : Row) → slice_get rows n ≡ Some row → BuilderFits u (builder_of problem row)) → AllByRecursion (BuilderFits u) (map (builder_of problem) rows)
all_fit problem u [] f = tt
all_fit problem u (row ∷ rows) f = (f 0 row refl, all_fit problem u rows (λ n r e. f (suc n) r e))
