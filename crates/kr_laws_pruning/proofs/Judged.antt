-- The predicate's runs on two vectors, the second under other names as far as they agree.
use Rattle.std.proofs.Common.{◌≡◌, ℕ, zero, suc, ◌+◌, ◌<◌, ◌≤◌, ◌⊎◌, inl, inr, Bool, true, false, List, [], ◌∷◌, ◌++◌, length, get_or, Result, Ok, Err, Option, Some, None, refl, sym, ap, ◌∙◌, arith, subst}
use Rattle.std.specs.Prelude.{map, flat_map, find, option_to_list, codes, bytes_eq, if◌then◌else◌}
use Rattle.std.specs.List.{range_with_len}
use Rattle.std.proofs.lemmas.List.{append-nil, get_or_past}
use Rattle.std.proofs.lemmas.Bool.{cases_lt}
use Rattle.std.proofs.lemmas.Slice.Eq.{bytes_eq-Decides}
use Rattle.kr_ast.specs.Tree as trees
use Rattle.kr_ast.specs.Tree.{Tree}
use Rattle.kr_value.specs.declared.value.Value.{Value}
use Rattle.kr_value.specs.declared.value.Value.TheVariants.{Int, Bool as Truth, Null, Ref as Reference}
use Rattle.kr_value.specs.declared.object.Class.{Class}
use Rattle.kr_value.specs.declared.object.Class.TheVariants.{Object, Array, Set, List as ListClass}
use Rattle.kr_value.specs.declared.object.Spot.{Spot}
use Rattle.kr_value.specs.declared.object.Spot.TheVariants.{Field, Length, Element}
use Rattle.kr_value.specs.Heaps.{HeapObject, object_in, has_spot_of, has_spot, value_of_spot}
use Rattle.kr_classes_table.specs.Types.{JavaType}
use Rattle.kr_classes_table.specs.Table.{Field as FieldOf, Method, line_of, own_methods, method_named, is_below}
use Rattle.kr_types_meaning.specs.Scopes.{Scope}
use Rattle.kr_types_meaning.specs.Typing.{judged}
use Rattle.kr_mean.specs.declared.kind.Stop.{Stop}
use Rattle.kr_mean.specs.declared.kind.Stop.TheVariants.{OutOfFuel}
use Rattle.kr_mean.specs.Program.{Program, field_position, spot_of_field, is_array_of, overriding, class_scope}
use Rattle.kr_mean.specs.Problem.{Problem, ClassDomain, Choice, Objects, domain_at, all_objects, heap_number, object_choice, item_choices, choices_in, no_objects}
use Rattle.kr_mean.specs.Places.{SlotPlace, This, Parameter, At}
use Rattle.kr_mean.specs.Collections.{is_collection}
use Rattle.kr_mean.specs.Space.{space_of, IsVector, IsRenaming, no_choice}
use Rattle.kr_mean.specs.Heaps.{length_in, heap_of, value_at, choice_at}
use Rattle.kr_mean.specs.Steps.{Local, State, Outcome, Run, stop, bind, class_of}
use Rattle.kr_mean.specs.Meaning.{Target, LocalTarget, OwnField, FieldOf as FieldTarget, ElementOf, NoTarget, parts_within, called, run_chosen, run_method, eval, value}
use Rattle.kr_mean.specs.Code.{Node, code, code_of_method, code_run}
use Rattle.kr_mean.specs.Purity.{IsOneOf, written_by, writes_to, may_touch, rep_ok_method, tested, conditions_after, contract_of, roots, IsPredicateCode, root, run, IsCounted, IsFinitized, IsPure}
use Rattle.kr_laws_pruning.specs.Laws.{ended}
use Rattle.kr_mean.specs.Runs.{End, class_number, root_class, requires_of, rep_ok, where_true, hold_all, parameters_from, start, end_of, outcome_of, end_on, slots_for, read_slots}
use Rattle.kr_mean.specs.WellFormed.{IsWellFormed, AreSpots}
use Rattle.kr_laws_pruning.proofs.Numbering.{object, count_at, width_at, parameters, first_slot, parameter_slot, object_slot, object_at_number, number_of_object}
use Rattle.kr_laws_pruning.proofs.Spaces.{objects_long, objects_get}
use Rattle.kr_laws_pruning.proofs.Places.{spot_slots, spot_none, this_slots, parameter_slots_are, kind, class_at, extent_of, extent, extent_within, heap_long, heap_class, heap_width, heap_field, heap_past, heap_length, heap_element}
use Rattle.kr_laws_pruning.proofs.Walked.{length_renamed}
use Rattle.kr_laws_pruning.proofs.Named.{name_in, heap_name, heap_name_at, heap_name_fixes, heap_name_within, heap_name_apart, on, on_this, on_parameter, on_spot, AgreeAt, choice_renamed}
use Rattle.kr_laws_runs.proofs.Respects.{Same, Each, AllOf, all_front, all_back, all_parts, MayWrite, IsCode}
use Rattle.kr_laws_pruning.proofs.Goes.{Forked, renamed_value, renamed_place, KnownValue, Knows, KnownPlace, Setting, Related, LocalLike, HeapLike, Like, SaidLike, Reaches, Meets, Goes, bind_meets, collects, value_goes, method_goes}
use Rattle.kr_laws_pruning.proofs.SlotForks.{SlotForks, slots_then, slots_same, slots_map}

pub all_one : {X : Type 0} (P : X → Type 0) (xs : List X) → ((x : X) → IsOneOf x xs → P x) → AllOf P xs
all_one P [] f = tt
all_one P (x ∷ xs) f = (f x (inl refl), all_one P xs (λ y h. f y (inr h)))

one_of : (domains : List ClassDomain) (d : ℕ) → d < length domains → IsOneOf (get_or domains d no_objects) domains
one_of [] d h = absurd (omega (arith, h))
one_of (x ∷ xs) zero h = inl refl
one_of (x ∷ xs) (suc d) h = inr (one_of xs d (omega (arith, h)))

-- ---- code

abbrev pub Untouched : Problem → FieldOf → Type 0
Untouched problem f = (class : Class) (k : ℕ) → IsFinitized problem class → spot_of_field problem.program f class ≡ Some k → ⊥

abbrev pub Unput : Problem → JavaType → Type 0
Unput problem t = (class : Class) → IsFinitized problem class → is_array_of problem.program t class ≡ true → ⊥

-- a node touches the places that it writes
touches : (program : Program) (s : Scope) (t : Tree) (class : Class) → writes_to program (written_by s t) class ≡ true → may_touch program s t class ≡ true
touches program s (trees.ObjectCreation p t es) class h = absurd (no_target class h)
  where
    no_target : (class : Class) → writes_to program NoTarget class ≡ true → ⊥
    no_target (Object c) h = absurd (cc (h))
    no_target (Array t) h = absurd (cc (h))
    no_target Set h = absurd (cc (h))
    no_target ListClass h = absurd (cc (h))
touches program s (trees.ArrayCreation p t e) class h = absurd (no_target class h)
  where
    no_target : (class : Class) → writes_to program NoTarget class ≡ true → ⊥
    no_target (Object c) h = absurd (cc (h))
    no_target (Array t) h = absurd (cc (h))
    no_target Set h = absurd (cc (h))
    no_target ListClass h = absurd (cc (h))
touches program s _ class h = h

-- an object that has a field is of a class at or below the declaring one
field_touched : (program : Program) (f : FieldOf) (class : Class) (k : ℕ) → spot_of_field program f class ≡ Some k → (writes_to program (OwnField f) class ≡ true) × ((e : Tree) → writes_to program (FieldTarget e f) class ≡ true)
field_touched program f (Array t) k e = absurd (cc (e))
field_touched program f Set k e = absurd (cc (e))
field_touched program f ListClass k e = absurd (cc (e))
field_touched program f (Object c) k e = go (is_below program.table c f.class) refl e
  where
    go : (b : Bool) → is_below program.table c f.class ≡ b → (if b then field_position program c f.name else None) ≡ Some k → (is_below program.table c f.class ≡ true) × ((e : Tree) → is_below program.table c f.class ≡ true)
    go true d h = (d, λ e. d)
    go false d h = absurd (cc (h))

writes_code : (problem : Problem) → IsPure problem → (node : Node) → IsPredicateCode problem node → MayWrite (Untouched problem) (Unput problem) (written_by node.scope node.tree)
writes_code problem pure node q = go (written_by node.scope node.tree) (λ class h. touches problem.program node.scope node.tree class h)
  where
    go : (t : Target) → ((class : Class) → writes_to problem.program t class ≡ true → may_touch problem.program node.scope node.tree class ≡ true) → MayWrite (Untouched problem) (Unput problem) t
    go (LocalTarget k) f = tt
    go NoTarget f = tt
    go (OwnField g) f = λ class k finitized e. pure node (q, (class, f class (field_touched problem.program g class k e).0, finitized))
    go (FieldTarget a g) f = λ class k finitized e. pure node (q, (class, f class ((field_touched problem.program g class k e).1 a), finitized))
    go (ElementOf a i t) f = λ class finitized e. pure node (q, (class, f class e, finitized))

pub predicate_code : (problem : Problem) → IsPure problem → IsCode problem.program (Untouched problem) (Unput problem) (IsPredicateCode problem)
predicate_code problem pure = record {
  runs = λ node q. all_one (IsPredicateCode problem) (code_run problem.program node) (λ x i. run node q i);
  writes = writes_code problem pure;
}

roots_code : (problem : Problem) → AllOf (IsPredicateCode problem) (roots problem)
roots_code problem = all_one (IsPredicateCode problem) (roots problem) (λ node h. root h)

rep_ok_code : (problem : Problem) → AllOf (λ m. AllOf (IsPredicateCode problem) (code_of_method problem.program m)) (rep_ok_method problem)
rep_ok_code problem =
    all_parts (IsPredicateCode problem) (code_of_method problem.program) (rep_ok_method problem) (all_front (IsPredicateCode problem) (flat_map (code_of_method problem.program) (rep_ok_method problem)) (flat_map (λ (e : Node). code e.scope e.tree) (contract_of problem)) (roots_code problem))

abbrev pub NodeCoded : Problem → Node → Type 0
NodeCoded problem e = AllOf (IsPredicateCode problem) (code e.scope e.tree)

requires_code : (problem : Problem) → AllOf (NodeCoded problem) (flat_map (requires_of problem.program) (tested problem))
requires_code problem =
    all_front (NodeCoded problem) (flat_map (requires_of problem.program) (tested problem)) (flat_map (conditions_after problem.program) (tested problem))
    (all_parts (IsPredicateCode problem) (λ (e : Node). code e.scope e.tree) (contract_of problem) (all_back (IsPredicateCode problem) (flat_map (code_of_method problem.program) (rep_ok_method problem)) (flat_map (λ (e : Node). code e.scope e.tree) (contract_of problem)) (roots_code problem)))

-- ---- `this.repOk()`

-- with enough fuel to enter both nodes, the method that the root's class has is called
rep_ok_runs : (program : Program) (c k : ℕ) (this_value : Value) (locals : List Local) (heap : List HeapObject) (candidates : ℕ)
    → value program (class_scope program c) rep_ok (record { this_value = this_value; locals = locals; result = None; olds = []; thrown = None; heap = heap; candidates = candidates; fuel = suc (suc k) })
    ≡ called program (parts_within program (suc k)) (codes "repOk") this_value [] (method_named program.table c (codes "repOk")) (record { this_value = this_value; locals = locals; result = None; olds = []; thrown = None; heap = heap; candidates = candidates; fuel = k })
unfolding value eval bind judged
rep_ok_runs program c k this_value locals heap candidates = refl

rep_ok_spent : (program : Program) (c : ℕ) (s : State) → s.fuel ≡ 0 → value program (class_scope program c) rep_ok s ≡ stop OutOfFuel s
unfolding value eval bind
rep_ok_spent program c s e = rw e refl

rep_ok_spent_inside : (program : Program) (c : ℕ) (this_value : Value) (locals : List Local) (heap : List HeapObject) (candidates : ℕ)
    → value program (class_scope program c) rep_ok (record { this_value = this_value; locals = locals; result = None; olds = []; thrown = None; heap = heap; candidates = candidates; fuel = 1 })
    ≡ stop OutOfFuel (record { this_value = this_value; locals = locals; result = None; olds = []; thrown = None; heap = heap; candidates = candidates; fuel = 0 })
unfolding value eval bind judged
rep_ok_spent_inside program c this_value locals heap candidates = refl

-- of an object whose class is the root's the method is the root's own
found_name : (ms : List Method) (n : List ℕ) (m : Method) → find (λ x. bytes_eq x.name n) ms ≡ Some m → m.name ≡ n
found_name [] n m e = absurd (cc (e))
found_name (x ∷ ms) n m e = go (bytes_eq x.name n) refl e (λ f. found_name ms n m f)
  where
    go : (b : Bool) → bytes_eq x.name n ≡ b → (if b then Some x else find (λ x. bytes_eq x.name n) ms) ≡ Some m → (find (λ x. bytes_eq x.name n) ms ≡ Some m → m.name ≡ n) → m.name ≡ n
    go true d f next = let q : x ≡ m = cc (f) in subst (λ (y : Method). y.name ≡ n) q ((bytes_eq-Decides x.name n).0 d)
    go false d f next = next f

own_method : (program : Program) (c : ℕ) (n : List ℕ) (m : Method) (class : Class) → class_number class ≡ c → method_named program.table c n ≡ Some m → (x : Option Method) → overriding program m class ≡ x → (x ≡ None) ⊎ (x ≡ Some m)
own_method program c n m (Array t) z e x f = inl (sym f)
own_method program c n m Set z e x f = inl (sym f)
own_method program c n m ListClass z e x f = inl (sym f)
own_method program c n m (Object d) z e x f = go (is_below program.table d m.class) f
  where
    name : m.name ≡ n
    name = found_name (flat_map (own_methods program.table) (line_of program.table c)) n m e

    same : method_named program.table d m.name ≡ Some m
    same = ap (λ (k : ℕ). method_named program.table k m.name) z ∙ (ap (method_named program.table c) name ∙ e)

    go : (b : Bool) → (if b then method_named program.table d m.name else None) ≡ x → (x ≡ None) ⊎ (x ≡ Some m)
    go true h = inr (sym h ∙ same)
    go false h = inl (sym h)

-- `this` is an object of the root
pub record IsRootObject (problem : Problem) (v : List ℕ) : Type 0 where
  pub number_in : get_or v 0 0 < count_at problem problem.root
  pub choice : choice_at problem v 0 ≡ object_choice problem (object problem.root (get_or v 0 0))

pub root_object : (problem : Problem) (v : List ℕ) → IsVector (space_of problem) v → IsRootObject problem v
unfolding space_of
root_object problem v iv =
    let e : choices_in problem (Objects problem.root ∷ []) ≡ item_choices problem (Objects problem.root) = append-nil (item_choices problem (Objects problem.root)) in
    let h : get_or v 0 0 < count_at problem problem.root = subst (λ (m : ℕ). get_or v 0 0 < m) (ap (λ (x : List Choice). length x) e ∙ objects_long problem problem.root) (iv.within 0 (omega arith)) in
    record { number_in = h; choice = ap (λ (x : List Choice). get_or x (get_or v 0 0) no_choice) e ∙ objects_get problem problem.root (get_or v 0 0) h }

module _ (problem : Problem) (w : IsWellFormed problem) (pure : IsPure problem) (name : ℕ → ℕ → ℕ) (n : IsRenaming (space_of problem) name) (v u : List ℕ) (iv : IsVector (space_of problem) v) (KO : ℕ → Type 0) where
  abbrev N : ℕ
  N = length (all_objects problem)

  abbrev pub Known : ℕ → Type 0
  Known o = (o < N) × KO o

  abbrev pub nm : ℕ → ℕ
  nm x = heap_name problem w name n x

  abbrev pub AgreeOnPlace : SlotPlace → Type 0
  AgreeOnPlace p = AllOf (AgreeAt problem w name n v u) (slots_for problem p)

  -- known places hold known values
  pub record IsClosed : Type 0 where
    pub this : KnownValue N Known (value_at problem v 0)
    pub parameter : (i : ℕ) → i < parameters problem → KnownValue N Known (value_at problem v (i + 1))
    pub slot : (d k j : ℕ) → d < length problem.domains → k < count_at problem d → j < extent problem w v d k → KO (heap_number problem (object d k)) → KnownValue N Known (value_at problem v (first_slot problem d k + j))

  module _ (closed : IsClosed) where
    abbrev AtObject : (ℕ → Type 0) → Type 0
    AtObject P = (d k : ℕ) → d < length problem.domains → k < count_at problem d → P (heap_number problem (object d k))

    -- a property of each object is one of each number
    at_objects : (P : ℕ → Type 0) → AtObject P → (o : ℕ) → o < N → P o
    at_objects P f o h = let r = number_of_object problem o h in subst P (sym r.is) (f r.domain r.number r.domain_in r.number_in)

    classes : (o : ℕ) → o < N → (object_in (heap_of problem u) (nm o)).class ≡ (object_in (heap_of problem v) o).class
    classes = at_objects (λ o. (object_in (heap_of problem u) (nm o)).class ≡ (object_in (heap_of problem v) o).class) (λ d k a b.
        ap (λ (x : ℕ). (object_in (heap_of problem u) x).class) (heap_name_at problem w name n d k a b) ∙ (heap_class problem w u d (name d k) a (name_in problem w name n d k b) ∙ sym (heap_class problem w v d k a b)))

    finitized : (d k : ℕ) → d < length problem.domains → k < count_at problem d → IsFinitized problem (domain_at problem d).class
    finitized d k a b = (domain_at problem d, one_of problem.domains d a, refl, counts (domain_at problem d).class)
      where
        counts : (c : Class) → IsCounted c (domain_at problem d).count
        counts (Object c) = omega (arith, b)
        counts (Array t) = tt
        counts Set = tt
        counts ListClass = tt

    counted : (o : ℕ) → o < N → IsFinitized problem (object_in (heap_of problem v) o).class
    counted = at_objects (λ o. IsFinitized problem (object_in (heap_of problem v) o).class) (λ d k a b. subst (λ (c : Class). IsFinitized problem c) (sym (heap_class problem w v d k a b)) (finitized d k a b))

    -- a slot that agrees has the same value, up to names
    slot_value : (d k j : ℕ) → d < length problem.domains → k < count_at problem d → j < width_at problem d → AgreeOnPlace (At (heap_number problem (object d k)) (kind (class_at problem w d) j)) → value_at problem u (first_slot problem d (name d k) + j) ≡ renamed_value nm (value_at problem v (first_slot problem d k + j))
    slot_value d k j a b c agree =
        let at : AgreeAt problem w name n v u (first_slot problem d k + j) = (subst (λ (x : List ℕ). AllOf (AgreeAt problem w name n v u) x) (spot_slots problem w d k j a b c) agree).0 in
        ap (λ (x : ℕ). value_at problem u x) (sym (on_spot problem w name n d k j a b c)) ∙ (choice_renamed problem w name n v u (first_slot problem d k + j) (object_slot problem d k j a b c).0 at).value

    abbrev here : ℕ → HeapObject
    here o = object_in (heap_of problem v) o

    abbrev there : ℕ → HeapObject
    there o = object_in (heap_of problem u) (nm o)

    abbrev size_of : ℕ → ℕ → ℕ
    size_of d k = length (here (heap_number problem (object d k))).values

    -- the objects of classes and of arrays
    by_class : (P : ℕ → Type 0) (spot : Spot) → ((d k c : ℕ) → d < length problem.domains → k < count_at problem d → class_at problem w d ≡ Object c → has_spot_of (Object c) (size_of d k) spot ≡ true → P (heap_number problem (object d k))) → ((d k t : ℕ) → d < length problem.domains → k < count_at problem d → class_at problem w d ≡ Array t → has_spot_of (Array t) (size_of d k) spot ≡ true → P (heap_number problem (object d k))) → (o : ℕ) → o < N → has_spot (here o) spot ≡ true → P o
    by_class P spot f g o h e = at_objects (λ o. has_spot (here o) spot ≡ true → P o) (λ d k a b e. go d k a b (class_at problem w d) refl (sym (ap (λ (c : Class). has_spot_of c (size_of d k) spot) (heap_class problem w v d k a b)) ∙ e)) o h e
      where
        go : (d k : ℕ) → d < length problem.domains → k < count_at problem d → (c : Class) → class_at problem w d ≡ c → has_spot_of (class_at problem w d) (size_of d k) spot ≡ true → P (heap_number problem (object d k))
        go d k a b (Object c) q e = f d k c a b q (ap (λ (c : Class). has_spot_of c (size_of d k) spot) (sym q) ∙ e)
        go d k a b (Array t) q e = g d k t a b q (ap (λ (c : Class). has_spot_of c (size_of d k) spot) (sym q) ∙ e)
        go d k a b Set q e = absurd (subst (λ (x : Class). AreSpots x (domain_at problem d).spots) q (w.spots d a))
        go d k a b ListClass q e = absurd (subst (λ (x : Class). AreSpots x (domain_at problem d).spots) q (w.spots d a))

    fields_agree : (o f : ℕ) → o < N → has_spot (here o) (Field f) ≡ true → AgreeOnPlace (At o (Field f)) → value_of_spot (there o) (Field f) ≡ renamed_value nm (value_of_spot (here o) (Field f))
    fields_agree o f = by_class (λ o. AgreeOnPlace (At o (Field f)) → value_of_spot (there o) (Field f) ≡ renamed_value nm (value_of_spot (here o) (Field f))) (Field f) (λ d k c a b q e. go d k c a b q (cases_lt f (width_at problem d))) (λ d k t a b q e. absurd (cc (e))) o
      where
        go : (d k c : ℕ) → d < length problem.domains → k < count_at problem d → class_at problem w d ≡ Object c → (f < width_at problem d) ⊎ (width_at problem d ≤ f) → AgreeOnPlace (At (heap_number problem (object d k)) (Field f)) → value_of_spot (there (heap_number problem (object d k))) (Field f) ≡ renamed_value nm (value_of_spot (here (heap_number problem (object d k))) (Field f))
        go d k c a b q (inr le) agree = rw (heap_name_at problem w name n d k a b, heap_past problem w u d (name d k) c f a (name_in problem w name n d k b) q le, heap_past problem w v d k c f a b q le) refl
        go d k c a b q (inl lt) agree =
            ap (λ (x : ℕ). value_of_spot (object_in (heap_of problem u) x) (Field f)) (heap_name_at problem w name n d k a b)
            ∙ (heap_field problem w u d (name d k) c f a (name_in problem w name n d k b) q lt
            ∙ (slot_value d k f a b lt (subst (λ (s : Spot). AgreeOnPlace (At (heap_number problem (object d k)) s)) (sym (ap (λ (x : Class). kind x f) q)) agree) ∙ ap (renamed_value nm) (sym (heap_field problem w v d k c f a b q lt))))

    fields_known : (o f : ℕ) → o < N → Known o → has_spot (here o) (Field f) ≡ true → KnownValue N Known (value_of_spot (here o) (Field f))
    fields_known o f h known e = by_class (λ o. Known o → KnownValue N Known (value_of_spot (here o) (Field f))) (Field f) (λ d k c a b q e. go d k c a b q (cases_lt f (width_at problem d))) (λ d k t a b q e. absurd (cc (e))) o h e known
      where
        go : (d k c : ℕ) → d < length problem.domains → k < count_at problem d → class_at problem w d ≡ Object c → (f < width_at problem d) ⊎ (width_at problem d ≤ f) → Known (heap_number problem (object d k)) → KnownValue N Known (value_of_spot (here (heap_number problem (object d k))) (Field f))
        go d k c a b q (inr le) known = subst (KnownValue N Known) (sym (heap_past problem w v d k c f a b q le)) tt
        go d k c a b q (inl lt) known = subst (KnownValue N Known) (sym (heap_field problem w v d k c f a b q lt)) (closed.slot d k f a b (subst (λ (x : Class). f < extent_of x (width_at problem d) (value_at problem v (first_slot problem d k))) (sym q) lt) known.1)

    -- the first slot of an array
    array_first : (d k t : ℕ) → d < length problem.domains → k < count_at problem d → class_at problem w d ≡ Array t → length_in (value_at problem v (first_slot problem d k)) < width_at problem d
    array_first d k t a b q = subst (λ (x : Class). extent_of x (width_at problem d) (value_at problem v (first_slot problem d k)) ≤ width_at problem d) q (extent_within problem w v d k a b)

    lengths_agree : (o : ℕ) → o < N → has_spot (here o) Length ≡ true → AgreeOnPlace (At o Length) → length (there o).values ≡ length (here o).values
    lengths_agree o = by_class (λ o. AgreeOnPlace (At o Length) → length (there o).values ≡ length (here o).values) Length (λ d k c a b q e. absurd (cc (e))) (λ d k t a b q e. go d k t a b q) o
      where
        go : (d k t : ℕ) → d < length problem.domains → k < count_at problem d → class_at problem w d ≡ Array t → AgreeOnPlace (At (heap_number problem (object d k)) Length) → length (there (heap_number problem (object d k))).values ≡ length (here (heap_number problem (object d k))).values
        go d k t a b q agree =
            let same = slot_value d k 0 a b (omega (arith, array_first d k t a b q)) (subst (λ (s : Spot). AgreeOnPlace (At (heap_number problem (object d k)) s)) (sym (ap (λ (x : Class). kind x 0) q)) agree) in
            let z : first_slot problem d k + 0 ≡ first_slot problem d k = omega arith in
            let z' : first_slot problem d (name d k) + 0 ≡ first_slot problem d (name d k) = omega arith in
            ap (λ (x : ℕ). length (object_in (heap_of problem u) x).values) (heap_name_at problem w name n d k a b)
            ∙ (heap_length problem w u d (name d k) t a (name_in problem w name n d k b) q
            ∙ (ap (λ (x : ℕ). length_in (value_at problem u x)) (sym z')
            ∙ (ap length_in same ∙ (length_renamed problem w name n (value_at problem v (first_slot problem d k + 0)) ∙ (ap (λ (x : ℕ). length_in (value_at problem v x)) z ∙ sym (heap_length problem w v d k t a b q))))))

    elements_agree : (o i : ℕ) → o < N → has_spot (here o) Length ≡ true → length (there o).values ≡ length (here o).values → i < length (here o).values → AgreeOnPlace (At o (Element i)) → value_of_spot (there o) (Element i) ≡ renamed_value nm (value_of_spot (here o) (Element i))
    elements_agree o i = by_class (λ o. length (there o).values ≡ length (here o).values → i < length (here o).values → AgreeOnPlace (At o (Element i)) → value_of_spot (there o) (Element i) ≡ renamed_value nm (value_of_spot (here o) (Element i))) Length (λ d k c a b q e. absurd (cc (e))) (λ d k t a b q e. go d k t a b q) o
      where
        go : (d k t : ℕ) → d < length problem.domains → k < count_at problem d → class_at problem w d ≡ Array t → length (there (heap_number problem (object d k))).values ≡ length (here (heap_number problem (object d k))).values → i < length (here (heap_number problem (object d k))).values → AgreeOnPlace (At (heap_number problem (object d k)) (Element i)) → value_of_spot (there (heap_number problem (object d k))) (Element i) ≡ renamed_value nm (value_of_spot (here (heap_number problem (object d k))) (Element i))
        go d k t a b q same l agree =
            let small : i < length_in (value_at problem v (first_slot problem d k)) = omega (arith, l, heap_length problem w v d k t a b q) in
            let long : length (there (heap_number problem (object d k))).values ≡ length_in (value_at problem u (first_slot problem d (name d k))) = ap (λ (x : ℕ). length (object_in (heap_of problem u) x).values) (heap_name_at problem w name n d k a b) ∙ heap_length problem w u d (name d k) t a (name_in problem w name n d k b) q in
            let small' : i < length_in (value_at problem u (first_slot problem d (name d k))) = omega (arith, l, same, long) in
            ap (λ (x : ℕ). value_of_spot (object_in (heap_of problem u) x) (Element i)) (heap_name_at problem w name n d k a b)
            ∙ (heap_element problem w u d (name d k) t i a (name_in problem w name n d k b) q small'
            ∙ (slot_value d k (suc i) a b (omega (arith, small, array_first d k t a b q)) (subst (λ (s : Spot). AgreeOnPlace (At (heap_number problem (object d k)) s)) (sym (ap (λ (x : Class). kind x (suc i)) q)) agree)
            ∙ ap (renamed_value nm) (sym (heap_element problem w v d k t i a b q small))))

    elements_known : (o i : ℕ) → o < N → Known o → has_spot (here o) Length ≡ true → i < length (here o).values → KnownValue N Known (value_of_spot (here o) (Element i))
    elements_known o i h known e l = by_class (λ o. Known o → i < length (here o).values → KnownValue N Known (value_of_spot (here o) (Element i))) Length (λ d k c a b q e. absurd (cc (e))) (λ d k t a b q e. go d k t a b q) o h e known l
      where
        go : (d k t : ℕ) → d < length problem.domains → k < count_at problem d → class_at problem w d ≡ Array t → Known (heap_number problem (object d k)) → i < length (here (heap_number problem (object d k))).values → KnownValue N Known (value_of_spot (here (heap_number problem (object d k))) (Element i))
        go d k t a b q known l =
            let small : i < length_in (value_at problem v (first_slot problem d k)) = omega (arith, l, heap_length problem w v d k t a b q) in
            subst (KnownValue N Known) (sym (heap_element problem w v d k t i a b q small)) (closed.slot d k (suc i) a b (subst (λ (x : Class). suc i < extent_of x (width_at problem d) (value_at problem v (first_slot problem d k))) (sym q) (omega (arith, small))) known.1)

    -- an object has as many fields under other names
    fields_same : (o f : ℕ) → o < N → has_spot (there o) (Field f) ≡ has_spot (here o) (Field f)
    fields_same o f = at_objects (λ o. has_spot (there o) (Field f) ≡ has_spot (here o) (Field f)) (λ d k a b. go d k a b (class_at problem w d) refl) o
      where
        at_class : (d k : ℕ) → d < length problem.domains → k < count_at problem d → (c : Class) → class_at problem w d ≡ c → has_spot (here (heap_number problem (object d k))) (Field f) ≡ has_spot_of c (size_of d k) (Field f)
        at_class d k a b c q = ap (λ (x : Class). has_spot_of x (size_of d k) (Field f)) (heap_class problem w v d k a b ∙ q)

        there_at : (d k : ℕ) → d < length problem.domains → k < count_at problem d → (c : Class) → class_at problem w d ≡ c → has_spot (there (heap_number problem (object d k))) (Field f) ≡ has_spot_of c (length (object_in (heap_of problem u) (heap_number problem (object d (name d k)))).values) (Field f)
        there_at d k a b c q = ap (λ (x : ℕ). has_spot (object_in (heap_of problem u) x) (Field f)) (heap_name_at problem w name n d k a b) ∙ ap (λ (x : Class). has_spot_of x (length (object_in (heap_of problem u) (heap_number problem (object d (name d k)))).values) (Field f)) (heap_class problem w u d (name d k) a (name_in problem w name n d k b) ∙ q)

        go : (d k : ℕ) → d < length problem.domains → k < count_at problem d → (c : Class) → class_at problem w d ≡ c → has_spot (there (heap_number problem (object d k))) (Field f) ≡ has_spot (here (heap_number problem (object d k))) (Field f)
        go d k a b (Object c) q =
            there_at d k a b (Object c) q
            ∙ (ap (λ (m : ℕ). has_spot_of (Object c) m (Field f)) (heap_width problem w u d (name d k) c a (name_in problem w name n d k b) q ∙ sym (heap_width problem w v d k c a b q))
            ∙ sym (at_class d k a b (Object c) q))
        go d k a b (Array t) q = there_at d k a b (Array t) q ∙ sym (at_class d k a b (Array t) q)
        go d k a b Set q = there_at d k a b Set q ∙ sym (at_class d k a b Set q)
        go d k a b ListClass q = there_at d k a b ListClass q ∙ sym (at_class d k a b ListClass q)

    plain : (o : ℕ) → o < N → is_collection (here o).class ≡ false
    plain = at_objects (λ o. is_collection (here o).class ≡ false) (λ d k a b. ap is_collection (heap_class problem w v d k a b) ∙ go d a (class_at problem w d) refl)
      where
        go : (d : ℕ) → d < length problem.domains → (c : Class) → class_at problem w d ≡ c → is_collection (class_at problem w d) ≡ false
        go d a (Object c) q = ap is_collection q
        go d a (Array t) q = ap is_collection q
        go d a Set q = absurd (subst (λ (x : Class). AreSpots x (domain_at problem d).spots) q (w.spots d a))
        go d a ListClass q = absurd (subst (λ (x : Class). AreSpots x (domain_at problem d).spots) q (w.spots d a))

    -- of what the run makes all is known
    abbrev KnownThere : ℕ → Type 0
    KnownThere o = o < N → Known o

    knows : (x : Value) → KnownValue N Known x → Knows KnownThere x
    knows (Int i) h = tt
    knows (Truth b) h = tt
    knows Null h = tt
    knows (Reference o) h = h

    abbrev setting : Setting
    setting = record {
      candidates = N;
      total = N;
      parameters = parameters problem;
      left = heap_of problem v;
      right = heap_of problem u;
      name = nm;
      Known = KnownThere;
      Agree = AgreeOnPlace;
      Counted = IsFinitized problem;
      enough = omega arith;
      fresh = λ o le lt. absurd (omega (arith, le, lt));
      apart = heap_name_apart problem w name n;
      within = heap_name_within problem w name n;
      fixes = heap_name_fixes problem w name n;
      classes = classes;
      plain = plain;
      counted = counted;
      fields_same = fields_same;
      fields_agree = λ o f h k e a. fields_agree o f h e a;
      fields_known = λ o f h k e. knows _ (fields_known o f h (k h) e);
      lengths_agree = λ o h k e a. lengths_agree o h e a;
      elements_agree = λ o i h k e same l a. elements_agree o i h e same l a;
      elements_known = λ o i h k e l. knows _ (elements_known o i h (k h) e l);
    }

    abbrev Rel : Value → Value → Type 0
    Rel x y = Related problem.program setting x y

    -- ---- the conditions

    wheres : (x y : Value) (m m' : Run Bool) → Rel x y → Goes problem.program setting Same m m' → Goes problem.program setting Same (where_true x m) (where_true y m')
    wheres (Int i) y m m' r p = rw r.0 (record { by = λ s s' l. (refl, l) })
    wheres (Truth true) y m m' r p = rw r.0 p
    wheres (Truth false) y m m' r p = rw r.0 (record { by = λ s s' l. (refl, l) })
    wheres Null y m m' r p = rw r.0 (record { by = λ s s' l. (refl, l) })
    wheres (Reference o) y m m' r p = rw r.0 (record { by = λ s s' l. (refl, l) })

    holds : (es : List Node) → AllOf (NodeCoded problem) es → Goes problem.program setting Same (hold_all problem.program es) (hold_all problem.program es)
    holds [] h = record { by = λ s s' l. (refl, l) }
    holds (e ∷ es) h = record {
      by = λ s s' l. bind_meets problem.program setting Rel Same (value problem.program e.scope e.tree) (value problem.program e.scope e.tree) _ _ s s' ((value_goes problem.program setting (IsPredicateCode problem) (predicate_code problem pure) e.scope e.tree h.0).by s s' l) (λ x y r. wheres x y _ _ r (holds es h.1));
    }

    -- ---- the start

    parameters_like : (i m : ℕ) → i + m ≤ parameters problem → Each (LocalLike problem.program setting) (parameters_from i (map (λ j. value_at problem v (j + 1)) (range_with_len i m))) (parameters_from i (map (λ j. value_at problem u (j + 1)) (range_with_len i m)))
    parameters_like i zero h = tt
    parameters_like i (suc m) h = ((refl, (refl, omega (arith, h), related)), parameters_like (i + 1) m (omega (arith, h)))
      where
        lt : i < parameters problem
        lt = omega (arith, h)

        related : AgreeOnPlace (Parameter i) → Rel (value_at problem v (i + 1)) (value_at problem u (i + 1))
        related agree =
            let at : AgreeAt problem w name n v u (i + 1) = (subst (λ (y : List ℕ). AllOf (AgreeAt problem w name n v u) y) (parameter_slots_are problem w i lt) agree).0 in
            let c = choice_renamed problem w name n v u (i + 1) (parameter_slot problem i lt).0 at in
            (ap (λ (y : ℕ). value_at problem u y) (sym (on_parameter problem w name n i lt)) ∙ c.value, knows _ (closed.parameter i lt))

    heaps_like : HeapLike problem.program setting (heap_of problem v) (heap_of problem u)
    heaps_like = record {
      long = omega (arith, heap_long problem w v);
      same = heap_long problem w u ∙ sym (heap_long problem w v);
      left = λ o h. refl;
      right = λ o h. refl;
      made = λ o h known.
          let e : object_in (heap_of problem v) o ≡ Rattle.kr_value.specs.Heaps.no_object = get_or_past (heap_of problem v) o Rattle.kr_value.specs.Heaps.no_object (omega (arith, heap_long problem w v, h)) in
          let e' : object_in (heap_of problem u) o ≡ Rattle.kr_value.specs.Heaps.no_object = get_or_past (heap_of problem u) o Rattle.kr_value.specs.Heaps.no_object (omega (arith, heap_long problem w u, h)) in
          rw (e, e') (refl, tt);
    }

    this_related : AgreeOnPlace This → Rel (value_at problem v 0) (value_at problem u 0)
    this_related agree =
        let at : AgreeAt problem w name n v u 0 = (subst (λ (y : List ℕ). AllOf (AgreeAt problem w name n v u) y) (this_slots problem w) agree).0 in
        (ap (λ (y : ℕ). value_at problem u y) (sym (on_this problem w name n)) ∙ (choice_renamed problem w name n v u 0 (omega arith) at).value, knows _ closed.this)

    starts_like : AgreeOnPlace This → Like problem.program setting (start problem v) (start problem u)
    starts_like agree = record {
      this_value = this_related agree;
      locals = parameters_like 0 (parameters problem) (omega arith);
      result = tt;
      olds = tt;
      thrown = tt;
      heap = heaps_like;
      candidates = refl;
      candidates' = refl;
      fuel = refl;
    }

    abbrev own : Option Method
    own = method_named problem.program.table (root_class problem) (codes "repOk")

    abbrev IsRootClass : Class → Class → Type 0
    IsRootClass c d = (c ≡ (domain_at problem problem.root).class) × (d ≡ c)

    run_own : (k : ℕ) (m : Method) → own ≡ Some m → (x y : Value) → Rel x y → (z : Option Method) → (z ≡ None) ⊎ (z ≡ Some m) → Goes problem.program setting Rel (run_method problem.program (parts_within problem.program k) x [] z) (run_method problem.program (parts_within problem.program k) y [] z)
    run_own k m e x y r z (inl f) = rw f (record { by = λ s s' l. (refl, l) })
    run_own k m e x y r z (inr f) =
        rw f (method_goes problem.program setting (IsPredicateCode problem) (predicate_code problem pure) k x y [] [] (Some m) (subst (λ (o : Option Method). AllOf (λ m. AllOf (IsPredicateCode problem) (code_of_method problem.program m)) (option_to_list o)) e (rep_ok_code problem)) r tt)

    chosen_goes : (k : ℕ) (m : Method) → own ≡ Some m → (x y : Value) → Rel x y → (c d : Class) → IsRootClass c d → Goes problem.program setting Rel (run_chosen problem.program (parts_within problem.program k) m x [] c) (run_chosen problem.program (parts_within problem.program k) m y [] d)
    chosen_goes k m e x y r c d h = rw h.1 (go m.is_static)
      where
        nulls : Rel Null Null
        nulls = (refl, tt)

        at_root : class_number c ≡ root_class problem
        at_root = ap class_number h.0

        go : (b : Bool) → Goes problem.program setting Rel (if b then run_method problem.program (parts_within problem.program k) Null [] (Some m) else run_method problem.program (parts_within problem.program k) x [] (overriding problem.program m c)) (if b then run_method problem.program (parts_within problem.program k) Null [] (Some m) else run_method problem.program (parts_within problem.program k) y [] (overriding problem.program m c))
        go true = run_own k m e Null Null nulls (Some m) (inr refl)
        go false = run_own k m e x y r (overriding problem.program m c) (own_method problem.program (root_class problem) (codes "repOk") m c at_root e (overriding problem.program m c) refl)

    -- the call of the root's method on an object of the root
    called_meets : (k : ℕ) (o : ℕ) (s s' : State) → Like problem.program setting s s' → Rel (Reference o) (Reference (nm o)) → (object_in s.heap o).class ≡ (domain_at problem problem.root).class → (object_in s'.heap (nm o)).class ≡ (object_in s.heap o).class
        → (x : Option Method) → own ≡ x → Meets problem.program setting Rel (called problem.program (parts_within problem.program k) (codes "repOk") (Reference o) [] x s) (called problem.program (parts_within problem.program k) (codes "repOk") (Reference (nm o)) [] x s')
    unfolding bind
    called_meets k o s s' l r c d None e = (collects problem.program setting (codes "repOk") (Reference o) (Reference (nm o)) [] [] r tt).by s s' l
    called_meets k o s s' l r c d (Some m) e =
        bind_meets problem.program setting IsRootClass Rel (class_of (Reference o)) (class_of (Reference (nm o))) _ _ s s' (((c, d), l)) (λ a b h. chosen_goes k m e (Reference o) (Reference (nm o)) r a b h)

    -- `this.repOk()` from the start
    rep_ok_meets : (fuel : ℕ) → AgreeOnPlace This → Meets problem.program setting Rel (value problem.program (class_scope problem.program (root_class problem)) rep_ok (record (start problem v) { fuel = fuel })) (value problem.program (class_scope problem.program (root_class problem)) rep_ok (record (start problem u) { fuel = fuel }))
    rep_ok_meets zero agree =
        let l = starts_like agree in
        rw (rep_ok_spent problem.program (root_class problem) (record (start problem v) { fuel = 0 }) refl, rep_ok_spent problem.program (root_class problem) (record (start problem u) { fuel = 0 }) refl)
        (refl, record { this_value = l.this_value; locals = l.locals; result = tt; olds = tt; thrown = tt; heap = l.heap; candidates = refl; candidates' = refl; fuel = refl })
    rep_ok_meets (suc zero) agree =
        let l = starts_like agree in
        let s = start problem v in
        let t = start problem u in
        rw (rep_ok_spent_inside problem.program (root_class problem) s.this_value s.locals s.heap s.candidates, rep_ok_spent_inside problem.program (root_class problem) t.this_value t.locals t.heap t.candidates)
        (refl, record { this_value = l.this_value; locals = l.locals; result = tt; olds = tt; thrown = tt; heap = l.heap; candidates = refl; candidates' = refl; fuel = refl })
    rep_ok_meets (suc (suc k)) agree =
        let l = starts_like agree in
        let s = start problem v in
        let t = start problem u in
        let r = root_object problem v iv in
        let o = heap_number problem (object problem.root (get_or v 0 0)) in
        let e : value_at problem v 0 ≡ Reference o = ap (λ (c : Choice). c.value) r.choice in
        let e' : value_at problem u 0 ≡ Reference (nm o) = l.this_value.0 ∙ ap (renamed_value nm) e in
        let class : (object_in (heap_of problem v) o).class ≡ (domain_at problem problem.root).class = heap_class problem w v problem.root (get_or v 0 0) w.root r.number_in in
        let class' : (object_in (heap_of problem u) (nm o)).class ≡ (object_in (heap_of problem v) o).class = classes o (object_at_number problem problem.root (get_or v 0 0) w.root r.number_in).0 in
        let related : Rel (Reference o) (Reference (nm o)) = subst (λ (x : Value). Rel x (Reference (nm o))) e (subst (λ (y : Value). Rel (value_at problem v 0) y) e' l.this_value) in
        let s2 : State = record { this_value = s.this_value; locals = s.locals; result = None; olds = []; thrown = None; heap = s.heap; candidates = s.candidates; fuel = k } in
        let t2 : State = record { this_value = t.this_value; locals = t.locals; result = None; olds = []; thrown = None; heap = t.heap; candidates = t.candidates; fuel = k } in
        let inside : Like problem.program setting s2 t2 = record { this_value = l.this_value; locals = l.locals; result = tt; olds = tt; thrown = tt; heap = l.heap; candidates = refl; candidates' = refl; fuel = refl } in
        let body = called_meets (suc k) o s2 t2 inside related class class' own refl in
        let left_is : value problem.program (class_scope problem.program (root_class problem)) rep_ok (record (start problem v) { fuel = suc (suc k) }) ≡ called problem.program (parts_within problem.program (suc k)) (codes "repOk") (Reference o) [] own s2 =
        rep_ok_runs problem.program (root_class problem) k s.this_value s.locals s.heap s.candidates ∙ ap (λ (x : Value). called problem.program (parts_within problem.program (suc k)) (codes "repOk") x [] own s2) e in
        let right_is : value problem.program (class_scope problem.program (root_class problem)) rep_ok (record (start problem u) { fuel = suc (suc k) }) ≡ called problem.program (parts_within problem.program (suc k)) (codes "repOk") (Reference (nm o)) [] own t2 =
        rep_ok_runs problem.program (root_class problem) k t.this_value t.locals t.heap t.candidates ∙ ap (λ (x : Value). called problem.program (parts_within problem.program (suc k)) (codes "repOk") x [] own t2) e' in
        subst (λ (x : Outcome Value). Meets problem.program setting Rel x (value problem.program (class_scope problem.program (root_class problem)) rep_ok (record (start problem u) { fuel = suc (suc k) }))) (sym left_is)
        (subst (λ (y : Outcome Value). Meets problem.program setting Rel (called problem.program (parts_within problem.program (suc k)) (codes "repOk") (Reference o) [] own s2) y) (sym right_is) body)

    outcomes_meet : Meets problem.program setting Same (outcome_of problem v) (outcome_of problem u)
    outcomes_meet =
        (refl, tt, λ agree. bind_meets problem.program setting Rel Same (value problem.program (class_scope problem.program (root_class problem)) rep_ok) (value problem.program (class_scope problem.program (root_class problem)) rep_ok) _ _ (start problem v) (start problem u) (rep_ok_meets problem.fuel agree) (λ x y r. wheres x y _ _ r (holds (flat_map (requires_of problem.program) (tested problem)) (requires_code problem))))

    said_same : (r r' : Result Bool Stop) → SaidLike problem.program setting Same r r' → end_of r' ≡ end_of r
    said_same (Ok a) (Ok b) e = ap (λ (x : Bool). end_of (Ok x)) e
    said_same (Err a) (Err b) e = ap (λ (x : Stop). end_of (Err x)) e
    said_same (Ok a) (Err b) e = absurd e
    said_same (Err a) (Ok b) e = absurd e

    -- ---- slots for places

    module _ (K : ℕ → Type 0) (known_this : K 0) (known_parameter : (i : ℕ) → i < parameters problem → K (i + 1)) (known_slot : (d k j : ℕ) → d < length problem.domains → k < count_at problem d → j < extent problem w v d k → KO (heap_number problem (object d k)) → K (first_slot problem d k + j)) where
      record PlaceSlots (p : SlotPlace) : Type 0 where
        renamed : slots_for problem (renamed_place nm p) ≡ map (on problem w name n) (slots_for problem p)
        known : AllOf K (slots_for problem p)

      one_slot : (d k j : ℕ) → d < length problem.domains → k < count_at problem d → j < extent problem w v d k → KO (heap_number problem (object d k)) → PlaceSlots (At (heap_number problem (object d k)) (kind (class_at problem w d) j))
      one_slot d k j a b c known =
          let lt : j < width_at problem d = omega (arith, c, extent_within problem w v d k a b) in
          record {
            renamed = ap (λ (x : ℕ). slots_for problem (At x (kind (class_at problem w d) j))) (heap_name_at problem w name n d k a b)
                ∙ (spot_slots problem w d (name d k) j a (name_in problem w name n d k b) lt ∙ (ap (λ (x : ℕ). x ∷ []) (sym (on_spot problem w name n d k j a b lt)) ∙ sym (ap (map (on problem w name n)) (spot_slots problem w d k j a b lt))));
            known = subst (AllOf K) (sym (spot_slots problem w d k j a b lt)) (known_slot d k j a b c known, tt);
          }

      no_slot_there : (d k : ℕ) (spot : Spot) → d < length problem.domains → k < count_at problem d → ((j : ℕ) → j < width_at problem d → kind (class_at problem w d) j ≡ spot → ⊥) → PlaceSlots (At (heap_number problem (object d k)) spot)
      no_slot_there d k spot a b never = record {
        renamed = ap (λ (x : ℕ). slots_for problem (At x spot)) (heap_name_at problem w name n d k a b)
            ∙ (spot_none problem w d (name d k) spot a (name_in problem w name n d k b) never ∙ sym (ap (map (on problem w name n)) (spot_none problem w d k spot a b never)));
        known = subst (AllOf K) (sym (spot_none problem w d k spot a b never)) tt;
      }

      place_slots : (p : SlotPlace) → KnownPlace N (parameters problem) KnownThere (heap_of problem v) p → PlaceSlots p
      place_slots This h = record {
        renamed = this_slots problem w ∙ (ap (λ (x : ℕ). x ∷ []) (sym (on_this problem w name n)) ∙ sym (ap (map (on problem w name n)) (this_slots problem w)));
        known = subst (AllOf K) (sym (this_slots problem w)) (known_this, tt);
      }
      place_slots (Parameter i) h = record {
        renamed = parameter_slots_are problem w i h ∙ (ap (λ (x : ℕ). x ∷ []) (sym (on_parameter problem w name n i h)) ∙ sym (ap (map (on problem w name n)) (parameter_slots_are problem w i h)));
        known = subst (AllOf K) (sym (parameter_slots_are problem w i h)) (known_parameter i h, tt);
      }
      place_slots (At o (Field f)) h = at_objects (λ o. KO o → PlaceSlots (At o (Field f))) (λ d k a b. go d k a b (class_at problem w d) refl (cases_lt f (width_at problem d))) o h.0 (h.1 h.0).1
        where
          go : (d k : ℕ) → d < length problem.domains → k < count_at problem d → (c : Class) → class_at problem w d ≡ c → (f < width_at problem d) ⊎ (width_at problem d ≤ f) → KO (heap_number problem (object d k)) → PlaceSlots (At (heap_number problem (object d k)) (Field f))
          go d k a b Set q c known = absurd (subst (λ (x : Class). AreSpots x (domain_at problem d).spots) q (w.spots d a))
          go d k a b ListClass q c known = absurd (subst (λ (x : Class). AreSpots x (domain_at problem d).spots) q (w.spots d a))
          go d k a b (Object c) q (inl lt) known = subst (λ (s : Spot). PlaceSlots (At (heap_number problem (object d k)) s)) (ap (λ (x : Class). kind x f) q) (one_slot d k f a b (subst (λ (x : Class). f < extent_of x (width_at problem d) (value_at problem v (first_slot problem d k))) (sym q) lt) known)
          go d k a b (Object c) q (inr le) known = no_slot_there d k (Field f) a b (λ j l e. not_past j l (field_is j (sym (ap (λ (x : Class). kind x j) q) ∙ e)))
            where
              field_is : (j : ℕ) → Field j ≡ Field f → j ≡ f
              field_is j e = cc (e)

              not_past : (j : ℕ) → j < width_at problem d → j ≡ f → ⊥
              not_past j l e = absurd (omega (arith, l, e, le))
          go d k a b (Array t) q c known = no_slot_there d k (Field f) a b (λ j l e. no_field j (sym (ap (λ (x : Class). kind x j) q) ∙ e))
            where
              no_field : (j : ℕ) → kind (Array t) j ≡ Field f → ⊥
              no_field zero e = absurd (cc (e))
              no_field (suc j) e = absurd (cc (e))
      place_slots (At o Length) h = at_objects (λ o. KO o → PlaceSlots (At o Length)) (λ d k a b. go d k a b (class_at problem w d) refl) o h.0 (h.1 h.0).1
        where
          go : (d k : ℕ) → d < length problem.domains → k < count_at problem d → (c : Class) → class_at problem w d ≡ c → KO (heap_number problem (object d k)) → PlaceSlots (At (heap_number problem (object d k)) Length)
          go d k a b (Array t) q known = subst (λ (s : Spot). PlaceSlots (At (heap_number problem (object d k)) s)) (ap (λ (x : Class). kind x 0) q) (one_slot d k 0 a b (subst (λ (x : Class). 0 < extent_of x (width_at problem d) (value_at problem v (first_slot problem d k))) (sym q) (omega arith)) known)
          go d k a b Set q known = absurd (subst (λ (x : Class). AreSpots x (domain_at problem d).spots) q (w.spots d a))
          go d k a b ListClass q known = absurd (subst (λ (x : Class). AreSpots x (domain_at problem d).spots) q (w.spots d a))
          go d k a b (Object c) q known = no_slot_there d k Length a b (λ j l e. absurd (cc (ap (λ (x : Class). kind x j) q, e)))
      place_slots (At o (Element i)) h = at_objects (λ o. KO o → i < length (here o).values → PlaceSlots (At o (Element i))) (λ d k a b. go d k a b (class_at problem w d) refl) o h.0 (h.1 h.0).1 h.2
        where
          go : (d k : ℕ) → d < length problem.domains → k < count_at problem d → (c : Class) → class_at problem w d ≡ c → KO (heap_number problem (object d k)) → i < length (here (heap_number problem (object d k))).values → PlaceSlots (At (heap_number problem (object d k)) (Element i))
          go d k a b (Array t) q known l = subst (λ (s : Spot). PlaceSlots (At (heap_number problem (object d k)) s)) (ap (λ (x : Class). kind x (suc i)) q) (one_slot d k (suc i) a b (subst (λ (x : Class). suc i < extent_of x (width_at problem d) (value_at problem v (first_slot problem d k))) (sym q) (omega (arith, l, heap_length problem w v d k t a b q))) known)
          go d k a b Set q known l = absurd (subst (λ (x : Class). AreSpots x (domain_at problem d).spots) q (w.spots d a))
          go d k a b ListClass q known l = absurd (subst (λ (x : Class). AreSpots x (domain_at problem d).spots) q (w.spots d a))
          go d k a b (Object c) q known l = no_slot_there d k (Element i) a b (λ j l e. absurd (cc (ap (λ (x : Class). kind x j) q, e)))

      places_fork : (X : Type 0) (ps qs : List SlotPlace) → Forked (renamed_place nm) (KnownPlace N (parameters problem) KnownThere (heap_of problem v)) AgreeOnPlace X ps qs → SlotForks (on problem w name n) K (AgreeAt problem w name n v u) X (flat_map (slots_for problem) ps) (flat_map (slots_for problem) qs)
      places_fork X [] [] f = f
      places_fork X [] (q ∷ qs) f = absurd f
      places_fork X (p ∷ ps) [] f = absurd f
      places_fork X (p ∷ ps) (q ∷ qs) f =
          let r = place_slots p f.1 in
          let A = AgreeAt problem w name n v u in
          subst (λ (x : List ℕ). SlotForks (on problem w name n) K A X (slots_for problem p ++ flat_map (slots_for problem) ps) (x ++ flat_map (slots_for problem) qs)) (sym (ap (slots_for problem) f.0 ∙ r.renamed))
          (slots_then (on problem w name n) A K (AllOf A (slots_for problem p)) X (slots_for problem p) (map (on problem w name n) (slots_for problem p)) (flat_map (slots_for problem) ps) (flat_map (slots_for problem) qs) (slots_same (on problem w name n) A K (slots_for problem p) r.known) (λ agree. places_fork X ps qs (f.2 agree)))

      abbrev paired : End → ℕ → End × ℕ
      paired e n = (e, n)

      same_ended : (e e' : End) (n n' : ℕ) → e' ≡ e → n' ≡ n → paired e' n' ≡ paired e n
      same_ended e e' n n' p q = ap (λ (x : End). paired x n') p ∙ ap (paired e) q

      -- the slots that are read fork, and where the two vectors agree on them the runs end the same and leave the same fuel
      pub reads_fork : SlotForks (on problem w name n) K (AgreeAt problem w name n v u) (ended problem u ≡ ended problem v) (read_slots problem v) (read_slots problem u)
      unfolding read_slots end_on
      reads_fork =
          let o = outcome_of problem v in
          let o' = outcome_of problem u in
          slots_map (on problem w name n) (AgreeAt problem w name n v u) K (Reaches problem.program setting Same o o') (ended problem u ≡ ended problem v) (flat_map (slots_for problem) o.reads) (flat_map (slots_for problem) o'.reads)
          (places_fork (Reaches problem.program setting Same o o') o.reads o'.reads outcomes_meet) (λ r. same_ended (end_of o.said) (end_of o'.said) o.after.fuel o'.after.fuel (said_same o.said o'.said r.0) r.1.fuel)
