-- The lines of a structure, object by object: each is created, and then its values are set.
use Rattle.std.proofs.Common.{◌≡◌, ℕ, zero, suc, ◌+◌, ◌*◌, ◌<◌, ◌≤◌, ◌^◌, inl, Bool, true, false, List, [], ◌∷◌, ◌++◌, length, get_or, Some, refl, sym, ap, ◌∙◌, arith, subst, append_assoc}
use Rattle.std.specs.Prelude.{map, flat_map, ℤ, pos, nat_lt, replicate, ◌==◌, if◌then◌else◌, slice_set}
use Rattle.std.specs.List.{range_with_len}
use Rattle.std.proofs.lemmas.Bool.{lt-ltb, le-ltb}
use Rattle.std.proofs.lemmas.List.{append-nil, get_or_at, length-append, length-map, length-replicate, map-append, length-set}
use Rattle.std.proofs.lemmas.List.Edits.{sets}
use Rattle.std.proofs.lemmas.List.FromFn.{length-map-range_with_len}
use Rattle.kr_base.specs.declared.place.Place.{Place}
use Rattle.kr_value.specs.declared.value.Value.{Value}
use Rattle.kr_value.specs.declared.value.Value.TheVariants.{Int, Bool as Truth, Null, Ref as Reference}
use Rattle.kr_value.specs.declared.object.Class.{Class}
use Rattle.kr_value.specs.declared.object.Class.TheVariants.{Object, Array, Set, List as ListClass}
use Rattle.kr_value.specs.declared.object.Spot.{Spot}
use Rattle.kr_value.specs.declared.object.Spot.TheVariants.{Field as FieldSpot, Length, Element}
use Rattle.kr_value.specs.Heaps.{HeapObject, object_in}
use Rattle.kr_classes_table.specs.Arrays.{array_number}
use Rattle.kr_classes_table.specs.Numbers.{Bits32, half, is_within}
use Rattle.kr_classes_table.specs.Table.{fields_of, line_of, type_named}
use Rattle.kr_classes_table.specs.Types.{JavaType, VoidType, ClassType, ArrayType, is_known}
use Rattle.kr_types_meaning.specs.Scopes.{Scope}
use Rattle.kr_mean.specs.Entries.{structure_of}
use Rattle.kr_mean.specs.Heaps.{length_in, value_at}
use Rattle.kr_mean.specs.Places.{SlotPlace, This, Parameter, At}
use Rattle.kr_mean.specs.Problem.{Problem, DomainObject, domain_at, heap_number, slot_at}
use Rattle.kr_mean.specs.Program.{Program, default_of, is_array_of}
use Rattle.kr_mean.specs.Steps.{put}
use Rattle.kr_mean.specs.WellFormed.{IsWellFormed}
use Rattle.kr_report.specs.Texts.{field_names}
use Rattle.kr_laws_runs.proofs.Respects.{AllOf}
use Rattle.kr_laws_pruning.proofs.Membership.{Has, has_append_right}
use Rattle.kr_laws_pruning.proofs.Numbering.{first_slot, width_at, count_at, object_at_number}
use Rattle.kr_laws_pruning.proofs.Places.{class_at, kind, extent, extent_of, extent_within}
use Rattle.kr_laws_pruning.proofs.Reached.{Apart}
use Rattle.kr_laws_pruning.proofs.SlotForks.{all_has}
use Rattle.kr_laws_pruning.proofs.Walked.{Valid}
use Rattle.kr_emit_meaning.specs.Buildable.{array_elements}
use Rattle.kr_emit_meaning.specs.Builders.{class_of_object, is_long_spot, objects_in}
use Rattle.kr_emit_laws.specs.BuilderTree.{type_tree}
use Rattle.kr_emit_laws.specs.Syntax.{Line, Operand, class_name, element_name, assignment_lines, created_lines, creation_lines, length_of, lengths_at, local_of, operand_of, set_lines, SetsElement, SetsField}
use Rattle.kr_emit_laws.specs.Built.{class_in, renamed}
use Rattle.kr_emit_laws.proofs.Bodies.{Runs, runs_both, runs_more, runs_none}
use Rattle.kr_emit_laws.proofs.Creations.{IsImplied, declared_on, object_filled, object_long}
use Rattle.kr_emit_laws.proofs.Goes.{Memory, with_heap}
use Rattle.kr_emit_laws.proofs.Heaps.{Fit, Made, all_set, fit_long, fit_more, here, object, put_here}
use Rattle.kr_emit_laws.proofs.Lines.{IsReady, IsSpotOf, IsWritten, operand_value, ready_more, runs_creates, runs_creates_array, runs_sets_element, runs_sets_field, width_by, with_object}
use Rattle.kr_emit_laws.proofs.Names.{local_name, with_typed}
use Rattle.kr_emit_laws.proofs.Structures.{all_valid, flat_each, met, named, objects_apart, objects_are, of_object, of_one, picked, position_at, position_within, slot_walked}

-- ---- what is needed of the program, and of the structure's vector

-- a class with objects: its names mean it, `new` only sets fields, and each field is found by its name
pub record IsClassBuilt (program : Program) (problem : Problem) (d c : ℕ) : Type 0 where
  pub means : (p : Place) → type_named program.table.headings (type_tree p (class_name problem.program.table.headings c)) ≡ ClassType c
  pub line : AllOf (IsImplied program c) (line_of program.table c)
  pub declared : declared_on program (line_of program.table c) ≡ length (fields_of program.table c)
  pub long : length (fields_of program.table c) ≡ width_at problem d
  pub spots : (j : ℕ) → j < width_at problem d → IsSpotOf program c (get_or (field_names problem.program.table (Object c)) j []) j

-- an array type: the names of its elements' type mean it, and the program numbers it
pub record IsArrayBuilt (program : Program) (problem : Problem) (d k : ℕ) : Type 0 where
  pub means : (p : Place) → type_named program.table.headings (type_tree p (element_name problem.program.table.headings (array_elements problem.program k))) ≡ array_elements problem.program k
  pub known : is_known (array_elements problem.program k) ≡ true
  pub number : ℕ
  pub numbered : array_number program.arrays (ArrayType (array_elements problem.program k)) ≡ Some number
  pub array : is_array_of program (array_elements problem.program k) (Array number) ≡ true
  pub class : class_in program problem.program (Array k) ≡ Array number
  pub few : width_at problem d ≤ 65

abbrev pub IsBuilt : Program → Problem → ℕ → Class → Type 0
IsBuilt program problem d (Object c) = IsClassBuilt program problem d c
IsBuilt program problem d (Array k) = IsArrayBuilt program problem d k
IsBuilt program problem d class = ⊥

-- the first of its slots whose values are kept
abbrev pub kept_from : Class → ℕ
kept_from (Array k) = 1
kept_from class = 0

-- Numbers are within the width of their spots, lengths are lengths, and there are not too many objects to number them.
pub record IsBuildable (program : Program) (problem : Problem) (w : IsWellFormed problem) (v : List ℕ) : Type 0 where
  pub classes : (o : DomainObject) → Valid problem o → Has o (met problem w v) → IsBuilt program problem o.domain (class_at problem w o.domain)
  pub numbers : (d k j : ℕ) → d < length problem.domains → k < count_at problem d → kept_from (class_at problem w d) ≤ j → j < extent problem w v d k → (z : ℤ) → value_at problem v (first_slot problem d k + j) ≡ Int z
      → is_within (width_by (is_long_spot problem.program (class_at problem w d) (kind (class_at problem w d) j))) z ≡ true
  pub lengths : (d k t : ℕ) → d < length problem.domains → k < count_at problem d → class_at problem w d ≡ Array t → (n : ℕ) × (value_at problem v (first_slot problem d k) ≡ Int (pos n))
  pub few : length (objects_in (structure_of problem v)) < 2 ^ 64

-- ---- what an object is when it has been created

abbrev pub made_by : Program → Problem → Class → ℕ → Value → Made
made_by program problem (Array k) n x = record { class = class_in program problem.program (Array k); size = length_in x; type = ArrayType (array_elements problem.program k) }
made_by program problem (Object c) n x = record { class = Object c; size = n; type = ClassType c }
made_by program problem class n x = record { class = class; size = n; type = VoidType }

module _ (program : Program) (problem : Problem) (w : IsWellFormed problem) (v : List ℕ) (h : IsBuildable program problem w v) (at : List ℕ → Place) where
  abbrev objects : List ℕ
  objects = objects_in (structure_of problem v)

  abbrev reached : List DomainObject
  reached = met problem w v

  abbrev number : DomainObject → ℕ
  number o = heap_number problem o

  abbrev class_at_object : DomainObject → Class
  class_at_object o = class_at problem w o.domain

  abbrev first : DomainObject → ℕ
  first o = first_slot problem o.domain o.number

  abbrev width : DomainObject → ℕ
  width o = width_at problem o.domain

  abbrev pub made : DomainObject → Made
  made o = made_by program problem (class_at_object o) (width o) (value_at problem v (first o))

  -- what an object's values are in the end
  abbrev pub news : DomainObject → List Value
  news o = map (λ j. renamed objects (value_at problem v (first o + j))) (range_with_len (kept_from (class_at_object o)) (made o).size)

  abbrev pub final : DomainObject → HeapObject
  final o = object (made o).class (news o)

  -- ---- places of objects

  abbrev Split : List DomainObject → DomainObject → List DomainObject → Type 0
  Split before o after = before ++ o ∷ after ≡ reached

  objects_split : (before : List DomainObject) (o : DomainObject) (after : List DomainObject) → Split before o after → map number before ++ number o ∷ map number after ≡ objects
  objects_split before o after e = sym (map-append number before (o ∷ after)) ∙ (ap (map number) e ∙ sym (objects_are problem w v))

  pub local_is : (before : List DomainObject) (o : DomainObject) (after : List DomainObject) → Split before o after → local_of objects (number o) ≡ length before
  local_is before o after e =
      let s = objects_split before o after e in
      let a : Apart (map number before ++ number o ∷ map number after) = subst Apart (sym s) (objects_apart (structure_of problem v)) in
      ap (λ (l : List ℕ). local_of l (number o)) (sym s) ∙ (position_at (map number before) (number o) (map number after) a ∙ length-map before number)

  reached_here : (before : List DomainObject) (o : DomainObject) (after : List DomainObject) → Split before o after → Has o reached
  reached_here before o after e = subst (Has o) e (has_append_right o before (o ∷ after) (inl refl))

  valid_here : (before : List DomainObject) (o : DomainObject) (after : List DomainObject) → Split before o after → Valid problem o
  valid_here before o after e = all_has (Valid problem) reached (all_valid problem w v) o (reached_here before o after e)

  built_here : (o : DomainObject) → Valid problem o → Has o reached → IsBuilt program problem o.domain (class_at_object o)
  built_here o a r = h.classes o a r

  pub class_is : (o : DomainObject) → Valid problem o → class_of_object problem (number o) ≡ class_at_object o
  class_is o a = ap (λ (x : DomainObject). (domain_at problem x.domain).class) (object_at_number problem o.domain o.number a.0 a.1).1

  objects_long : length objects ≡ length reached
  objects_long = ap (λ (l : List ℕ). length l) (objects_are problem w v) ∙ length-map reached number

  -- ---- lengths of arrays

  abbrev length_at_spot : Value → Spot → List ℤ
  length_at_spot (Int n) Length = n ∷ []
  length_at_spot x spot = []

  either : (b : Bool) → [] ≡ (let l : List ℤ = if b then [] else [] in l)
  either true = refl
  either false = refl

  length_picked : (n : ℕ) (x : Value) (p : SlotPlace) → lengths_at n x p ≡ picked problem w v length_at_spot n x p
  length_picked n (Int z) This = refl
  length_picked n (Int z) (Parameter i) = refl
  length_picked n (Int z) (At p Length) = refl
  length_picked n (Int z) (At p (FieldSpot f)) = either (p == n)
  length_picked n (Int z) (At p (Element i)) = either (p == n)
  length_picked n (Truth b) This = refl
  length_picked n (Truth b) (Parameter i) = refl
  length_picked n (Truth b) (At p spot) = either (p == n)
  length_picked n Null This = refl
  length_picked n Null (Parameter i) = refl
  length_picked n Null (At p spot) = either (p == n)
  length_picked n (Reference r) This = refl
  length_picked n (Reference r) (Parameter i) = refl
  length_picked n (Reference r) (At p spot) = either (p == n)

  pub length_is : (o : DomainObject) → Valid problem o → Has o reached → (t n : ℕ) → class_at_object o ≡ Array t → value_at problem v (first o) ≡ Int (pos n) → length_of problem (structure_of problem v) (number o) ≡ pos n
  length_is o a r t n e is =
      ap (λ (l : List ℤ). get_or l 0 (pos 0)) (flat_each (λ (p : ℕ × Value). lengths_at (number o) p.1 (slot_at problem p.0).place) (λ (p : ℕ × Value). picked problem w v length_at_spot (number o) p.1 (slot_at problem p.0).place) (structure_of problem v) (λ p. length_picked (number o) p.1 (slot_at problem p.0).place)
      ∙ of_one problem w v length_at_spot o a r)
      ∙ subst (λ (c : Class). get_or (flat_map (λ j. length_at_spot (value_at problem v (first o + j)) (kind c j)) (range_with_len 0 (extent_of c (width o) (value_at problem v (first o))))) 0 (pos 0) ≡ pos n) (sym e)
      (ap (λ (x : Value). get_or (length_at_spot x Length ++ flat_map (λ j. length_at_spot (value_at problem v (first o + j)) (kind (Array t) j)) (range_with_len 1 (length_in (value_at problem v (first o))))) 0 (pos 0)) (ap (value_at problem v) zero_more ∙ is))
    where
      zero_more : first o + 0 ≡ first o
      zero_more = omega arith

  -- ---- creations

  record StepAt (o : DomainObject) (c : Class) (types : List JavaType) (s : Scope) (m : Memory) : Type 0 where
    x : HeapObject
    class : x.class ≡ (made_by program problem c (width o) (value_at problem v (first o))).class
    long : length x.values ≡ (made_by program problem c (width o) (value_at problem v (first o))).size
    runs : Runs program at (created_lines problem.program (length types) (length_of problem (structure_of problem v) (number o)) c) s m (with_typed s (made_by program problem c (width o) (value_at problem v (first o))).type (local_name (length types))) (with_object x m)
        (3 + 2 * (made_by program problem c (width o) (value_at problem v (first o))).size)

  create_as : (o : DomainObject) → Valid problem o → Has o reached → (types : List JavaType) (s : Scope) (m : Memory) → IsReady program types s m → length m.heap ≡ length types → (c : Class) → class_at_object o ≡ c → IsBuilt program problem o.domain c → StepAt o c types s m
  create_as o a r types s m ready e (Object c) is b = record {
    x = object (Object c) (object_filled program c b.line m.heap).values;
    class = refl;
    long = object_long program c b.line m.heap ∙ b.long;
    runs = runs_more program at (3 + 2 * width o) (omega (arith, b.declared, b.long)) (runs_creates program at types s m ready (class_name problem.program.table.headings c) c b.means b.line e);
  }
  create_as o a r types s m ready e (Array k) is b =
      let l = h.lengths o.domain o.number k a.0 a.1 is in
      let n : ℕ = l.0 in
      let sized : length_in (value_at problem v (first o)) ≡ n = ap length_in l.1 in
      let inside : suc (length_in (value_at problem v (first o))) ≤ width o = subst (λ (c : Class). extent_of c (width o) (value_at problem v (first o)) ≤ width o) is (extent_within problem w v o.domain o.number a.0 a.1) in
      let few : nat_lt 64 n ≡ false = le-ltb 64 n (omega (arith, inside, sized, b.few)) in
      let small : nat_lt n (half Bits32) ≡ true = lt-ltb n 2147483648 (omega (arith, inside, sized, b.few)) in
      let t : JavaType = array_elements problem.program k in
      let x : HeapObject = object (Array b.number) (replicate n (default_of t)) in
      record {
        x = x;
        class = sym b.class;
        long = length-replicate n (default_of t) ∙ sym sized;
        runs =
            runs_more program at (3 + 2 * length_in (value_at problem v (first o))) (omega arith)
            (subst (λ (z : ℤ). Runs program at (created_lines problem.program (length types) z (Array k)) s m (with_typed s (ArrayType t) (local_name (length types))) (with_object x m) 3) (sym (length_is o a r k n is l.1))
            (runs_creates_array program at types s m ready (element_name problem.program.table.headings t) t n b.number b.means b.numbered few small e));
      }
  create_as o a r types s m ready e Set is b = absurd b
  create_as o a r types s m ready e ListClass is b = absurd b

  abbrev type_made : DomainObject → JavaType
  type_made o = (made o).type

  abbrev lines_created : DomainObject → List Line
  lines_created o = creation_lines problem (structure_of problem v) objects (number o)

  abbrev pub creation_cost : List DomainObject → ℕ
  creation_cost [] = 0
  creation_cost (o ∷ os) = 3 + 2 * (made o).size + creation_cost os

  pub record Created (os : List DomainObject) (s : Scope) (m : Memory) : Type 0 where
    pub scope : Scope
    pub memory : Memory
    pub ready : IsReady program (map (λ (o : DomainObject). (made o).type) reached) scope memory
    pub fit : Fit memory.heap (map made reached)
    pub this_value : memory.this_value ≡ m.this_value
    pub runs : Runs program at (flat_map (creation_lines problem (structure_of problem v) objects) (map number os)) s m scope memory (creation_cost os)

  pub create_all : (before os : List DomainObject) → before ++ os ≡ reached → (s : Scope) (m : Memory) → IsReady program (map (λ (o : DomainObject). (made o).type) before) s m → Fit m.heap (map made before) → Created os s m
  create_all before [] e s m ready fit =
      let all : before ≡ reached = sym (append-nil before) ∙ e in
      record {
        scope = s;
        memory = m;
        ready = subst (λ (os : List DomainObject). IsReady program (map type_made os) s m) all ready;
        fit = subst (λ (os : List DomainObject). Fit m.heap (map made os)) all fit;
        this_value = refl;
        runs = runs_none program at s m;
      }
  create_all before (o ∷ os) e s m ready fit =
      let a : Valid problem o = valid_here before o os e in
      let types : List JavaType = map type_made before in
      let many : length types ≡ length before = length-map before type_made in
      let heap_long : length m.heap ≡ length types = fit_long m.heap (map made before) fit ∙ (length-map before made ∙ sym many) in
      let few : length types < 2 ^ 64 = omega (arith, h.few, objects_long, ap (λ (l : List DomainObject). length l) e, length-append before (o ∷ os), many) in
      let step : StepAt o (class_at_object o) types s m = create_as o a (reached_here before o os e) types s m ready heap_long (class_at_object o) refl (built_here o a (reached_here before o os e)) in
      let s' : Scope = with_typed s (made o).type (local_name (length types)) in
      let m' : Memory = with_object step.x m in
      let ready' : IsReady program (map type_made (before ++ o ∷ [])) s' m' =
      subst (λ (ts : List JavaType). IsReady program ts s' m') (sym (map-append type_made before (o ∷ []))) (ready_more program at types s m ready (made o).type step.x heap_long few) in
      let fit' : Fit m'.heap (map made (before ++ o ∷ [])) = subst (Fit m'.heap) (sym (map-append made before (o ∷ []))) (fit_more m.heap (map made before) step.x (made o) fit step.class step.long) in
      let rest : Created os s' m' = create_all (before ++ o ∷ []) os (append_assoc before (o ∷ []) os ∙ e) s' m' ready' fit' in
      let lines : created_lines problem.program (length types) (length_of problem (structure_of problem v) (number o)) (class_at_object o) ≡ lines_created o =
      ap (λ (c : Class). created_lines problem.program (length types) (length_of problem (structure_of problem v) (number o)) c) (sym (class_is o a))
      ∙ ap (λ (i : ℕ). created_lines problem.program i (length_of problem (structure_of problem v) (number o)) (class_of_object problem (number o))) (many ∙ sym (local_is before o os e)) in
      record {
        scope = rest.scope;
        memory = rest.memory;
        ready = rest.ready;
        fit = rest.fit;
        this_value = rest.this_value;
        runs = runs_both program at (subst (λ (ls : List Line). Runs program at ls s m s' m' (3 + 2 * (made o).size)) lines step.runs) rest.runs;
      }

  -- ---- assignments

  abbrev pub set_cost : List DomainObject → ℕ
  set_cost [] = 0
  set_cost (o ∷ os) = 6 * extent problem w v o.domain o.number + set_cost os

  set_value : (b : Bool) (x : Value) → operand_value (operand_of objects b x) ≡ renamed objects x
  set_value b (Int z) = refl
  set_value b (Truth t) = refl
  set_value b Null = refl
  set_value b (Reference n) = refl

  written_at : (o : DomainObject) → Valid problem o → Has o reached → (j : ℕ) (b : Bool) → j < extent problem w v o.domain o.number → ((z : ℤ) → value_at problem v (first o + j) ≡ Int z → is_within (width_by b) z ≡ true)
      → IsWritten (length reached) (operand_of objects b (value_at problem v (first o + j)))
  written_at o a r j b l numbers = go (value_at problem v (first o + j)) refl
    where
      go : (x : Value) → value_at problem v (first o + j) ≡ x → IsWritten (length reached) (operand_of objects b x)
      go (Int z) e = numbers z e
      go (Truth t) e = tt
      go Null e = tt
      go (Reference n) e = omega (arith, position_within objects n (named problem w v (first o + j) n (slot_walked problem w v o a r j l) e), objects_long)

  module _ (types : List JavaType) (s : Scope) (m : Memory) (types_are : types ≡ map (λ (o : DomainObject). (made o).type) reached) (ready : IsReady program types s m) where
    abbrev types_long : length types ≡ length reached
    types_long = ap (λ (l : List JavaType). length l) types_are ∙ length-map reached type_made

    ready_with : (heap : List HeapObject) → IsReady program types s (with_heap heap m)
    ready_with heap = record { scope = ready.scope; locals = ready.locals }

    -- one object, between those that have their values and those that don't
    module _ (before : List DomainObject) (o : DomainObject) (after : List DomainObject) (e : before ++ o ∷ after ≡ reached) (done rest : List HeapObject) (many : length done ≡ length before) where
      a : Valid problem o
      a = valid_here before o after e

      r : Has o reached
      r = reached_here before o after e

      i : ℕ
      i = length done

      local_done : local_of objects (number o) ≡ length done
      local_done = local_is before o after e ∙ sym many

      inside : length done < length types
      inside = omega (arith, types_long, many, ap (λ (l : List DomainObject). length l) e, length-append before (o ∷ after))

      type_here : get_or types (length done) VoidType ≡ (made o).type
      type_here =
          ap (λ (ts : List JavaType). get_or ts (length done) VoidType) (types_are ∙ (ap (map type_made) (sym e) ∙ map-append type_made before (o ∷ after)))
          ∙ get_or_at (map type_made before) (made o).type (map type_made after) VoidType (length done) (length-map before type_made ∙ sym many)

      abbrev with_values : Class → List Value → Memory
      with_values class values = with_heap (done ++ object class values ∷ rest) m

      abbrev new_at : ℕ → Value
      new_at j = renamed objects (value_at problem v (first o + j))

      abbrev lines_at : Class → ℕ → List Line
      lines_at c j = assignment_lines problem objects (value_at problem v (first o + j)) (At (number o) (kind c j))

      -- the line of a spot, by the object's local and class
      line_is : (spot : Spot) (x : Value) (c : Class) → class_at_object o ≡ c → assignment_lines problem objects x (At (number o) spot) ≡ set_lines problem.program objects (number o) c x spot
      line_is spot x c is = ap (λ (k : Class). set_lines problem.program objects (number o) k x spot) (class_is o a ∙ is)

      put_new : (class : Class) (values : List Value) (j : ℕ) (x y : Value) → x ≡ y → with_heap (put (done ++ object class values ∷ rest) (length done) j x) m ≡ with_values class (slice_set values j y)
      put_new class values j x y q =
          ap (λ (z : Value). with_heap (put (done ++ object class values ∷ rest) (length done) j z) m) q
          ∙ ap (λ (heap : List HeapObject). with_heap heap m) (put_here done rest class values (length done) j y refl)

      set_fields : (c : ℕ) → class_at_object o ≡ Object c → IsClassBuilt program problem o.domain c → (j n : ℕ) (values : List Value) → j + n ≡ width o
          → Runs program at (flat_map (lines_at (Object c)) (range_with_len j n)) s (with_values (Object c) values) s (with_values (Object c) (sets values j (map new_at (range_with_len j n)))) (6 * n)
      set_fields c is b j zero values all = runs_none program at s (with_values (Object c) values)
      set_fields c is b j (suc n) values all =
          let x : Value = value_at problem v (first o + j) in
          let long : Bool = is_long_spot problem.program (Object c) (FieldSpot j) in
          let operand : Operand = operand_of objects long x in
          let below : j < width o = omega (arith, all) in
          let reaches : j < extent problem w v o.domain o.number = subst (λ (k : Class). j < extent_of k (width o) (value_at problem v (first o))) (sym is) below in
          let start : Memory = with_values (Object c) values in
          let next : List Value = slice_set values j (new_at j) in
          let written : IsWritten (length types) operand =
          subst (λ (k : ℕ). IsWritten k operand) (sym types_long) (written_at o a r j long reaches (λ z q. subst (λ (k : Class). is_within (width_by (is_long_spot problem.program k (kind k j))) z ≡ true) is (h.numbers o.domain o.number j a.0 a.1 (subst (λ (k : Class). kept_from k ≤ j) (sym is) (omega arith)) reaches z q))) in
          let typed : get_or types (length done) VoidType ≡ ClassType c = type_here ∙ ap (λ (k : Class). (made_by program problem k (width o) (value_at problem v (first o))).type) is in
          let one : Runs program at (set_lines problem.program objects (number o) (Object c) x (FieldSpot j)) s start s (with_heap (put start.heap (length done) j (operand_value operand)) m) 5 =
          subst (λ (k : ℕ). Runs program at (SetsField k (get_or (field_names problem.program.table (Object c)) j []) operand ∷ []) s start s (with_heap (put start.heap (length done) j (operand_value operand)) m) 5) (sym local_done)
          (runs_sets_field program at types s start (ready_with start.heap) (length done) c (get_or (field_names problem.program.table (Object c)) j []) j operand inside typed (b.spots j below) (ap (λ (y : HeapObject). y.class) (here done rest (object (Object c) values) (length done) refl)) written) in
          let set : Runs program at (lines_at (Object c) j) s start s (with_values (Object c) next) 5 =
          subst (λ (ls : List Line). Runs program at ls s start s (with_values (Object c) next) 5) (sym (line_is (FieldSpot j) x (Object c) is))
          (subst (λ (end : Memory). Runs program at (set_lines problem.program objects (number o) (Object c) x (FieldSpot j)) s start s end 5) (put_new (Object c) values j (operand_value operand) (new_at j) (set_value long x)) one) in
          let on : j + 1 ≡ suc j = omega arith in
          let later = set_fields c is b (j + 1) n next (omega (arith, all)) in
          runs_more program at (6 * suc n) (omega arith)
          (runs_both program at set
          (subst (λ (k : ℕ). Runs program at (flat_map (lines_at (Object c)) (range_with_len (j + 1) n)) s (with_values (Object c) next) s (with_values (Object c) (sets next k (map new_at (range_with_len (j + 1) n)))) (6 * n)) on later))

      set_elements : (t : ℕ) → class_at_object o ≡ Array t → (b : IsArrayBuilt program problem o.domain t) → (j x n : ℕ) (values : List Value) → x ≡ suc j → j + n ≡ length_in (value_at problem v (first o)) → length values ≡ length_in (value_at problem v (first o))
          → Runs program at (flat_map (lines_at (Array t)) (range_with_len x n)) s (with_values (Array b.number) values) s (with_values (Array b.number) (sets values j (map new_at (range_with_len x n)))) (6 * n)
      set_elements t is b j x zero values at_x all sized = runs_none program at s (with_values (Array b.number) values)
      set_elements t is b j x (suc n) values at_x all sized =
          let y : Value = value_at problem v (first o + x) in
          let type : JavaType = array_elements problem.program t in
          let long : Bool = is_long_spot problem.program (Array t) (Element j) in
          let operand : Operand = operand_of objects long y in
          let limit : suc (length_in (value_at problem v (first o))) ≤ width o = subst (λ (c : Class). extent_of c (width o) (value_at problem v (first o)) ≤ width o) is (extent_within problem w v o.domain o.number a.0 a.1) in
          let below : x < width o = omega (arith, all, at_x, limit) in
          let reaches : x < extent problem w v o.domain o.number = subst (λ (k : Class). x < extent_of k (width o) (value_at problem v (first o))) (sym is) (omega (arith, all, at_x)) in
          let start : Memory = with_values (Array b.number) values in
          let next : List Value = slice_set values j (new_at x) in
          let kind_is : kind (Array t) x ≡ Element j = ap (kind (Array t)) at_x in
          let numbers : (z : ℤ) → value_at problem v (first o + x) ≡ Int z → is_within (width_by long) z ≡ true =
          λ z q. subst (λ (spot : Spot). is_within (width_by (is_long_spot problem.program (Array t) spot)) z ≡ true) kind_is (subst (λ (k : Class). is_within (width_by (is_long_spot problem.program k (kind k x))) z ≡ true) is (h.numbers o.domain o.number x a.0 a.1 (subst (λ (k : Class). kept_from k ≤ x) (sym is) (omega (arith, at_x))) reaches z q)) in
          let written : IsWritten (length types) operand = subst (λ (k : ℕ). IsWritten k operand) (sym types_long) (written_at o a r x long reaches numbers) in
          let typed : get_or types (length done) VoidType ≡ ArrayType type = type_here ∙ ap (λ (k : Class). (made_by program problem k (width o) (value_at problem v (first o))).type) is in
          let found : object_in start.heap (length done) ≡ object (Array b.number) values = here done rest (object (Array b.number) values) (length done) refl in
          let array : is_array_of program type (object_in start.heap (length done)).class ≡ true = ap (λ (y : HeapObject). is_array_of program type y.class) found ∙ b.array in
          let there : nat_lt j (length (object_in start.heap (length done)).values) ≡ true = ap (λ (y : HeapObject). nat_lt j (length y.values)) found ∙ lt-ltb j (length values) (omega (arith, sized, all)) in
          let small : nat_lt j (half Bits32) ≡ true = lt-ltb j 2147483648 (omega (arith, all, limit, b.few)) in
          let one : Runs program at (set_lines problem.program objects (number o) (Array t) y (Element j)) s start s (with_heap (put start.heap (length done) j (operand_value operand)) m) 6 =
          subst (λ (k : ℕ). Runs program at (SetsElement k j operand ∷ []) s start s (with_heap (put start.heap (length done) j (operand_value operand)) m) 6) (sym local_done)
          (runs_sets_element program at types s start (ready_with start.heap) (length done) j type operand inside typed b.known array there small written) in
          let set : Runs program at (lines_at (Array t) x) s start s (with_values (Array b.number) next) 6 =
          subst (λ (spot : Spot). Runs program at (assignment_lines problem objects y (At (number o) spot)) s start s (with_values (Array b.number) next) 6) (sym kind_is)
          (subst (λ (ls : List Line). Runs program at ls s start s (with_values (Array b.number) next) 6) (sym (line_is (Element j) y (Array t) is))
          (subst (λ (end : Memory). Runs program at (set_lines problem.program objects (number o) (Array t) y (Element j)) s start s end 6) (put_new (Array b.number) values j (operand_value operand) (new_at x) (set_value long y)) one)) in
          runs_more program at (6 * suc n) (omega arith)
          (runs_both program at set (set_elements t is b (suc j) (x + 1) n next (omega (arith, at_x)) (omega (arith, all)) (length-set values j (new_at x) ∙ sized)))

      -- all of an object's lines
      pub set_object : (c : Class) → class_at_object o ≡ c → IsBuilt program problem o.domain c → (x : HeapObject) → x.class ≡ (made_by program problem c (width o) (value_at problem v (first o))).class
          → length x.values ≡ (made_by program problem c (width o) (value_at problem v (first o))).size
          → Runs program at (flat_map (lines_at c) (range_with_len 0 (extent_of c (width o) (value_at problem v (first o))))) s (with_heap (done ++ x ∷ rest) m) s
          (with_values (made_by program problem c (width o) (value_at problem v (first o))).class (map new_at (range_with_len (kept_from c) (made_by program problem c (width o) (value_at problem v (first o))).size)))
          (6 * extent_of c (width o) (value_at problem v (first o)))
      set_object (Object c) is b x class long =
          let ws : List Value = map new_at (range_with_len 0 (width o)) in
          subst (λ (k : Class). Runs program at (flat_map (lines_at (Object c)) (range_with_len 0 (width o))) s (with_values k x.values) s (with_values (Object c) ws) (6 * width o)) (sym class)
          (subst (λ (vs : List Value). Runs program at (flat_map (lines_at (Object c)) (range_with_len 0 (width o))) s (with_values (Object c) x.values) s (with_values (Object c) vs) (6 * width o)) (all_set x.values ws (length-map-range_with_len new_at 0 (width o) ∙ sym long))
          (set_fields c is b 0 (width o) x.values (omega arith)))
      set_object (Array t) is b x class long =
          let n : ℕ = length_in (value_at problem v (first o)) in
          let ws : List Value = map new_at (range_with_len 1 n) in
          let k : Class = class_in program problem.program (Array t) in
          let lines : List Line = flat_map (lines_at (Array t)) (range_with_len 1 n) in
          runs_more program at (6 * suc n) (omega arith)
          (subst (λ (y : Class). Runs program at lines s (with_values y x.values) s (with_values k ws) (6 * n)) (sym class)
          (subst (λ (y : Class). Runs program at lines s (with_values y x.values) s (with_values y ws) (6 * n)) (sym b.class)
          (subst (λ (vs : List Value). Runs program at lines s (with_values (Array b.number) x.values) s (with_values (Array b.number) vs) (6 * n)) (all_set x.values ws (length-map-range_with_len new_at 1 n ∙ sym long))
          (set_elements t is b 0 1 n x.values refl (omega arith) long))))
      set_object Set is b x class long = absurd b
      set_object ListClass is b x class long = absurd b

    abbrev lines_set : DomainObject → List Line
    lines_set o = of_object problem w v (assignment_lines problem objects) (λ x. refl) (λ x i. refl) o

    pub set_all : (before os : List DomainObject) → before ++ os ≡ reached → (rest : List HeapObject) → Fit rest (map made os)
        → Runs program at (flat_map (of_object problem w v (assignment_lines problem objects) (λ x. refl) (λ x i. refl)) os) s (with_heap (map final before ++ rest) m) s (with_heap (map final reached) m) (set_cost os)
    set_all before [] e [] fit =
        let all : map final before ++ [] ≡ map final reached = append-nil (map final before) ∙ ap (map final) (sym (append-nil before) ∙ e) in
        subst (λ (heap : List HeapObject). Runs program at [] s (with_heap (map final before ++ []) m) s (with_heap heap m) 0) all (runs_none program at s (with_heap (map final before ++ []) m))
    set_all before [] e (x ∷ rest) fit = absurd fit
    set_all before (o ∷ os) e [] fit = absurd fit
    set_all before (o ∷ os) e (x ∷ rest) fit =
        let on : map final before ++ final o ∷ rest ≡ map final (before ++ o ∷ []) ++ rest = sym (append_assoc (map final before) (final o ∷ []) rest) ∙ ap (λ (l : List HeapObject). l ++ rest) (sym (map-append final before (o ∷ []))) in
        let one : Runs program at (lines_set o) s (with_heap (map final before ++ x ∷ rest) m) s (with_heap (map final before ++ final o ∷ rest) m) (6 * extent problem w v o.domain o.number) =
        set_object before o os e (map final before) rest (length-map before final) (class_at_object o) refl (built_here o (valid_here before o os e) (reached_here before o os e)) x fit.0 fit.1 in
        let later = set_all (before ++ o ∷ []) os (append_assoc before (o ∷ []) os ∙ e) rest fit.2 in
        runs_both program at one
        (subst (λ (heap : List HeapObject). Runs program at (flat_map lines_set os) s (with_heap heap m) s (with_heap (map final reached) m) (set_cost os)) (sym on) later)
