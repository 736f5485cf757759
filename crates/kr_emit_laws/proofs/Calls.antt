-- A call of a builder: it creates the structure's objects, sets their values, and gives the root.
use Rattle.std.proofs.Common.{◌≡◌, ℕ, zero, suc, ◌+◌, ◌*◌, ◌-◌, ◌<◌, ◌≤◌, Bool, true, false, List, [], ◌∷◌, ◌++◌, length, get_or, Option, Some, refl, sym, ap, ◌∙◌, arith, subst, inl, inr}
use Rattle.std.specs.Prelude.{map, flat_map, filter, codes, decimal, nat_eq, not, if◌then◌else◌}
use Rattle.std.specs.List.{range_with_len}
use Rattle.std.proofs.lemmas.List.{append-nil, length-append, length-map}
use Rattle.std.proofs.lemmas.List.Concat.{flat_map_single}
use Rattle.std.proofs.lemmas.List.FromFn.{length-range_with_len}
use Rattle.kr_base.specs.declared.place.Place.{Place}
use Rattle.kr_ast.specs.Tree.{Tree}
use Rattle.kr_value.specs.declared.value.Value.{Value}
use Rattle.kr_value.specs.declared.value.Value.TheVariants.{Int, Bool as Truth, Null, Ref as Reference}
use Rattle.kr_value.specs.declared.object.Class.{Class}
use Rattle.kr_value.specs.declared.object.Class.TheVariants.{Object, Array, Set, List as ListClass}
use Rattle.kr_value.specs.declared.object.Spot.{Spot}
use Rattle.kr_value.specs.Heaps.{HeapObject}
use Rattle.kr_classes_table.specs.Table.{Method, Parameter, items}
use Rattle.kr_classes_table.specs.Types.{JavaType, VoidType, is_void}
use Rattle.kr_classes_table.specs.Constants.{field_meant}
use Rattle.kr_types_meaning.specs.Scopes.{Scope, method_meant}
use Rattle.kr_mean.specs.declared.flow.Flow.TheVariants.{Gave}
use Rattle.kr_mean.specs.Entries.{structure_of}
use Rattle.kr_mean.specs.Heaps.{distinct, length_in, root_slots, slots_in, value_at, walk}
use Rattle.kr_mean.specs.Meaning.{all, own_call, returned, run_body, run_method, unbounded, value}
use Rattle.kr_mean.specs.Places.{SlotPlace, This, Parameter as ParameterPlace, At}
use Rattle.kr_mean.specs.Problem.{Problem, DomainObject, all_objects, heap_number, slot_at}
use Rattle.kr_mean.specs.Program.{Program, class_scope, method_scope, overriding, with_parameters}
use Rattle.kr_mean.specs.Runs.{is_same_number}
use Rattle.kr_mean.specs.Steps.{Local, Outcome, Run, ◌>>=◌, get_this, local_at, class_of}
use Rattle.kr_mean.specs.WellFormed.{IsWellFormed}
use Rattle.kr_laws_pruning.proofs.Membership.{Has}
use Rattle.kr_laws_pruning.proofs.Numbering.{first_slot, width_at}
use Rattle.kr_laws_pruning.proofs.Places.{class_at, extent, extent_of, kind, slots_in_are}
use Rattle.kr_laws_pruning.proofs.Reached.{root_walked}
use Rattle.kr_laws_pruning.proofs.Walked.{Valid, walked}
use Rattle.kr_laws_runs.proofs.Respects.{AllOf}
use Rattle.kr_emit_meaning.specs.Builders.{class_of_object, objects_in, referred}
use Rattle.kr_emit_laws.specs.BuilderTree.{body_tree}
use Rattle.kr_emit_laws.specs.Syntax.{Line, assignment_lines, creation_lines, lines_of}
use Rattle.kr_emit_laws.specs.Built.{Builds, built_heap, built_object, call_of, call_scope, class_in, enough, renamed, value_at_spot, value_of_object, values_of_object}
use Rattle.kr_emit_laws.proofs.Bodies.{Runs, goes_return, runs_both}
use Rattle.kr_emit_laws.proofs.Goes.{Goes, Left, Memory, goes_give, goes_more, goes_node, goes_then, goes_within, state, with_heap}
use Rattle.kr_emit_laws.proofs.Lines.{IsReady}
use Rattle.kr_emit_laws.proofs.Names.{Knows, knows_none, local_name, ref_at}
use Rattle.kr_emit_laws.proofs.Objects.{Created, IsBuildable, create_all, creation_cost, final, kept_from, made, made_by, set_all, set_cost, class_is}
use Rattle.kr_emit_laws.proofs.Structures.{all_valid, by_objects, flat_each, met, named, objects_are, of_one, picked, position_within}
use Rattle.kr_emit_laws.proofs.Heaps.{object}

-- the method of a builder, which `bN()` means in the class of this number
pub record IsBuilder (program : Program) (c n : ℕ) (at : List ℕ → Place) (lines : List Line) : Type 0 where
  pub method : Method
  pub meant : method_meant (call_scope program c) (codes "b" ++ decimal n) ≡ Some method
  pub static : method.is_static ≡ true
  pub parameters : method.parameters ≡ []
  pub result : is_void method.result ≡ false
  pub front : List ℕ
  pub body : method.body ≡ items (body_tree at front lines)

-- ---- a list has at least as many as are distinct

filter_fewer : {A : Type 0} (p : A → Bool) (xs : List A) → length (filter p xs) ≤ length xs
filter_fewer p [] = omega arith
filter_fewer p (x ∷ xs) = go (p x) (filter_fewer p xs)
  where
    go : (b : Bool) → length (filter p xs) ≤ length xs → length (let l : List _ = if b then x ∷ filter p xs else filter p xs in l) ≤ suc (length xs)
    go true r = omega (arith, r)
    go false r = omega (arith, r)

distinct_fewer : {A : Type 0} (same : A → A → Bool) (xs : List A) → length (distinct same xs) ≤ length xs
distinct_fewer same [] = omega arith
distinct_fewer same (x ∷ xs) = omega (arith, filter_fewer (λ y. not (same x y)) (distinct same xs), distinct_fewer same xs)

one_each : (x : Value) → length (referred x) ≤ 1
one_each (Reference n) = omega arith
one_each (Int n) = omega arith
one_each (Truth b) = omega arith
one_each Null = omega arith

referred_fewer : (structure : List (ℕ × Value)) → length (flat_map (λ (p : ℕ × Value). referred p.1) structure) ≤ length structure
referred_fewer [] = omega arith
referred_fewer (p ∷ ps) = omega (arith, one_each p.1, referred_fewer ps, length-append (referred p.1) (flat_map (λ (q : ℕ × Value). referred q.1) ps))

-- a structure names no more objects than it has entries
pub objects_fewer : (structure : List (ℕ × Value)) → length (objects_in structure) ≤ length structure
objects_fewer structure = omega (arith, distinct_fewer is_same_number (flat_map (λ (p : ℕ × Value). referred p.1) structure), referred_fewer structure)

-- what an instance method's call would do
abbrev instance_call : Program → List Value → Method → Run Value
instance_call program arguments m = do
  o ← get_this
  class ← class_of o
  run_method program (unbounded program) o arguments (overriding program m class)

module _ (program : Program) (problem : Problem) (w : IsWellFormed problem) (v : List ℕ) (h : IsBuildable program problem w v) (at : List ℕ → Place) where
  abbrev structure : List (ℕ × Value)
  structure = structure_of problem v

  abbrev objects : List ℕ
  objects = objects_in structure

  abbrev reached : List DomainObject
  reached = met problem w v

  abbrev number : DomainObject → ℕ
  number o = heap_number problem o

  abbrev first : DomainObject → ℕ
  first o = first_slot problem o.domain o.number

  abbrev width : DomainObject → ℕ
  width o = width_at problem o.domain

  -- ---- the heap

  picked_is : (n : ℕ) (x : Value) (p : SlotPlace) → value_of_object n x p ≡ picked problem w v value_at_spot n x p
  picked_is n x This = refl
  picked_is n x (ParameterPlace i) = refl
  picked_is n x (At p spot) = refl

  abbrev kept : DomainObject → Class → List Value
  kept o c = flat_map (λ j. value_at_spot (value_at problem v (first o + j)) (kind c j)) (range_with_len 0 (extent_of c (width o) (value_at problem v (first o))))

  elements_kept : (o : DomainObject) (t j x n : ℕ) → x ≡ suc j → flat_map (λ i. value_at_spot (value_at problem v (first o + i)) (kind (Array t) i)) (range_with_len x n) ≡ map (λ i. value_at problem v (first o + i)) (range_with_len x n)
  elements_kept o t j x zero e = refl
  elements_kept o t j x (suc n) e =
      ap (λ (spot : Spot). value_at_spot (value_at problem v (first o + x)) spot ++ flat_map (λ i. value_at_spot (value_at problem v (first o + i)) (kind (Array t) i)) (range_with_len (x + 1) n)) (ap (kind (Array t)) e)
      ∙ ap (λ (vs : List Value). value_at problem v (first o + x) ∷ vs) (elements_kept o t (suc j) (x + 1) n (omega (arith, e)))

  kept_are : (o : DomainObject) (c : Class) → kept o c ≡ map (λ j. value_at problem v (first o + j)) (range_with_len (kept_from c) (made_by program problem c (width o) (value_at problem v (first o))).size)
  kept_are o (Object c) = flat_map_single (λ j. value_at problem v (first o + j)) (range_with_len 0 (width o))
  kept_are o (Array t) = elements_kept o t 0 1 (length_in (value_at problem v (first o))) refl
  kept_are o Set = flat_map_single (λ j. value_at problem v (first o + j)) (range_with_len 0 (width o))
  kept_are o ListClass = flat_map_single (λ j. value_at problem v (first o + j)) (range_with_len 0 (width o))

  map_twice : {A B C : Type 0} (f : B → C) (g : A → B) (xs : List A) → map f (map g xs) ≡ map (λ x. f (g x)) xs
  map_twice f g [] = refl
  map_twice f g (x ∷ xs) = ap (λ (ys : List _). f (g x) ∷ ys) (map_twice f g xs)

  class_built : (o : DomainObject) (c : Class) → class_in program problem.program c ≡ (made_by program problem c (width o) (value_at problem v (first o))).class
  class_built o (Object c) = refl
  class_built o (Array t) = refl
  class_built o Set = refl
  class_built o ListClass = refl

  object_built : (o : DomainObject) → Valid problem o → Has o reached → built_object program problem structure (number o) ≡ final program problem w v h at o
  object_built o a r =
      let values : values_of_object problem structure (number o) ≡ map (λ j. value_at problem v (first o + j)) (range_with_len (kept_from (class_at problem w o.domain)) (made program problem w v h at o).size) =
      flat_each (λ (p : ℕ × Value). value_of_object (number o) p.1 (slot_at problem p.0).place) (λ (p : ℕ × Value). picked problem w v value_at_spot (number o) p.1 (slot_at problem p.0).place) structure (λ p. picked_is (number o) p.1 (slot_at problem p.0).place)
      ∙ (of_one problem w v value_at_spot o a r ∙ kept_are o (class_at problem w o.domain)) in
      let class : class_in program problem.program (class_of_object problem (number o)) ≡ (made program problem w v h at o).class =
      ap (class_in program problem.program) (class_is program problem w v h at o a) ∙ class_built o (class_at problem w o.domain) in
      ap (λ (c : Class). object c (map (renamed objects) (values_of_object problem structure (number o)))) class
      ∙ ap (λ (vs : List Value). object (made program problem w v h at o).class vs)
      (ap (map (renamed objects)) values ∙ map_twice (renamed objects) (λ j. value_at problem v (first o + j)) (range_with_len (kept_from (class_at problem w o.domain)) (made program problem w v h at o).size))

  heap_built : map (final program problem w v h at) reached ≡ built_heap program problem structure
  heap_built = sym (ap (map (built_object program problem structure)) (objects_are problem w v) ∙ go reached (all_valid problem w v) (λ o i. i))
    where
      go : (os : List DomainObject) → AllOf (Valid problem) os → ((o : DomainObject) → Has o os → Has o reached) → map (built_object program problem structure) (map number os) ≡ map (final program problem w v h at) os
      go [] a r = refl
      go (o ∷ os) a r =
          ap (λ (x : HeapObject). x ∷ map (built_object program problem structure) (map number os)) (object_built o a.0 (r o (inl refl)))
          ∙ ap (λ (xs : List HeapObject). final program problem w v h at o ∷ xs) (go os a.1 (λ o i. r o (inr i)))

  -- ---- the fuel

  size_fits : (o : DomainObject) (c : Class) → (made_by program problem c (width o) (value_at problem v (first o))).size ≤ extent_of c (width o) (value_at problem v (first o))
  size_fits o (Object c) = omega arith
  size_fits o (Array t) = omega arith
  size_fits o Set = omega arith
  size_fits o ListClass = omega arith

  abbrev extents : List DomainObject → ℕ
  extents [] = 0
  extents (o ∷ os) = extent problem w v o.domain o.number + extents os

  creation_fits : (os : List DomainObject) → creation_cost program problem w v h at os ≤ 3 * length os + 2 * extents os
  creation_fits [] = omega arith
  creation_fits (o ∷ os) = omega (arith, size_fits o (class_at problem w o.domain), creation_fits os)

  slots_long : (os : List DomainObject) → AllOf (Valid problem) os → length (flat_map (slots_in problem v) os) ≡ extents os
  slots_long [] a = refl
  slots_long (o ∷ os) a = omega (arith, length-append (slots_in problem v o) (flat_map (slots_in problem v) os), slots_long os a.1, ap (λ (l : List ℕ). length l) (slots_in_are problem w v o.domain o.number a.0.0 a.0.1), length-range_with_len (first_slot problem o.domain o.number) (extent problem w v o.domain o.number))

  structure_long : extents reached ≤ length structure
  unfolding walk
  structure_long =
      let entries : length structure ≡ length (walked problem v (length (all_objects problem))) = length-map (walked problem v (length (all_objects problem))) (λ (s : ℕ). (s, value_at problem v s)) in
      let parts : length (walked problem v (length (all_objects problem))) ≡ length (root_slots problem) + length (flat_map (slots_in problem v) reached) = length-append (root_slots problem) (flat_map (slots_in problem v) reached) in
      omega (arith, slots_long reached (all_valid problem w v), entries, parts)

  reached_few : length reached ≤ length structure
  reached_few = omega (arith, objects_fewer structure, ap (λ (l : List ℕ). length l) (objects_are problem w v), length-map reached number)

  setting_fits : (os : List DomainObject) → set_cost program problem w v h at os ≤ 6 * extents os
  setting_fits [] = omega arith
  setting_fits (o ∷ os) = omega (arith, setting_fits os)

  -- ---- the call

  module _ (c n : ℕ) (builder : IsBuilder program c n at (lines_of problem structure objects)) (root : ℕ) (is_root : value_at problem v 0 ≡ Reference root) where
    abbrev start : Memory
    start = record { this_value = Null; locals = []; heap = [] }

    abbrev scope : Scope
    scope = method_scope program builder.method

    abbrev types : List JavaType
    types = map (λ (o : DomainObject). (made program problem w v h at o).type) reached

    ready : IsReady program [] scope start
    ready = record {
      scope = record {
        table = refl;
        knows = subst (λ (ps : List Parameter). Knows [] (with_parameters ps (record (class_scope program builder.method.class) { is_static = builder.method.is_static; result = builder.method.result })).locals) (sym builder.parameters) knows_none;
      };
      locals = refl;
    }

    created : Created program problem w v h at reached scope start
    created = create_all program problem w v h at [] reached refl scope start ready tt

    goes_body : (x : Created program problem w v h at reached scope start) → Goes (all (unbounded program) scope builder.method.body) start (Gave (Reference 0)) (with_heap (map (final program problem w v h at) reached) x.memory) (creation_cost program problem w v h at reached + set_cost program problem w v h at reached + 2)
    goes_body x =
        let end : Memory = with_heap (map (final program problem w v h at) reached) x.memory in
        let first_lines : List Line = flat_map (creation_lines problem structure objects) objects in
        let last_lines : List Line = flat_map (λ (p : ℕ × Value). assignment_lines problem objects p.1 (slot_at problem p.0).place) structure in
        let makes : Runs program at first_lines scope start x.scope x.memory (creation_cost program problem w v h at reached) =
        subst (λ (l : List ℕ). Runs program at (flat_map (creation_lines problem structure objects) l) scope start x.scope x.memory (creation_cost program problem w v h at reached)) (sym (objects_are problem w v)) x.runs in
        let sets : Runs program at last_lines x.scope x.memory x.scope end (set_cost program problem w v h at reached) =
        subst (λ (ls : List Line). Runs program at ls x.scope x.memory x.scope end (set_cost program problem w v h at reached)) (sym (by_objects problem w v (assignment_lines problem objects) (λ x. refl) (λ x i. refl)))
        (set_all program problem w v h at types x.scope x.memory refl x.ready [] reached refl x.memory.heap x.fit) in
        let inside : 0 < length types = omega (arith, position_within objects root (named problem w v 0 root (root_walked problem w v 0 (omega arith)) is_root), ap (λ (l : List ℕ). length l) (objects_are problem w v), length-map reached number, length-map reached (λ (o : DomainObject). (made program problem w v h at o).type)) in
        let returns : (front : List ℕ) → Goes (all (unbounded program) x.scope (items (body_tree at front []))) end (Gave (Reference 0)) end 2 =
        λ front. goes_return program at front x.scope end (get_or types 0 VoidType) (Reference 0) (x.ready.scope.knows.named 0 inside (field_meant x.scope.table x.scope.class (local_name 0))) (ap (λ (ls : List Local). local_at ls 0) x.ready.locals ∙ ref_at (length types) 0 inside) in
        subst (λ (b : List Tree). Goes (all (unbounded program) scope b) start (Gave (Reference 0)) end (creation_cost program problem w v h at reached + set_cost program problem w v h at reached + 2))
        (ap (λ (ls : List Line). items (body_tree at builder.front ls)) (append-nil (lines_of problem structure objects)) ∙ sym builder.body)
        ((runs_both program at makes sets).by builder.front [] (Gave (Reference 0)) end 2 returns)

    goes_call : (x : Created program problem w v h at reached scope start) → Goes (value program (call_scope program c) (call_of n)) start (Reference 0) (with_heap (map (final program problem w v h at) reached) start) (creation_cost program problem w v h at reached + set_cost program problem w v h at reached + 3)
    goes_call x =
        let k : Method = builder.method in
        let cost : ℕ = creation_cost program problem w v h at reached + set_cost program problem w v h at reached + 2 in
        let set : Memory = with_heap (map (final program problem w v h at) reached) x.memory in
        let end : Memory = with_heap (map (final program problem w v h at) reached) start in
        let gives : Goes (returned (is_void k.result) (Gave (Reference 0))) set (Reference 0) set 0 = subst (λ (b : Bool). Goes (returned b (Gave (Reference 0))) set (Reference 0) set 0) (sym builder.result) (goes_give (Reference 0) set) in
        let body : Goes (run_body program (unbounded program) k) start (Reference 0) set cost = goes_more cost (omega arith) (goes_then (λ flow. returned (is_void k.result) flow) (goes_body x) gives) in
        let none : nat_eq 0 (length k.parameters) ≡ true = ap (λ (ps : List Parameter). nat_eq 0 (length ps)) builder.parameters in
        let method : Goes (run_method program (unbounded program) Null [] (Some k)) start (Reference 0) end cost = goes_within start set Null (length k.parameters) [] none body in
        let own : Goes (own_call program (unbounded program) [] (Some k)) start (Reference 0) end cost =
        subst (λ (b : Bool). Goes (let run : Run Value = if b then run_method program (unbounded program) Null [] (Some k) else instance_call program [] k in run) start (Reference 0) end cost) (sym builder.static) method in
        goes_more (creation_cost program problem w v h at reached + set_cost program problem w v h at reached + 3) (omega arith)
        (goes_node program (call_scope program c) (call_of n)
        (goes_then (λ vs. own_call program (unbounded program) vs (method_meant (call_scope program c) (codes "b" ++ decimal n))) (goes_give [] start)
        (subst (λ (o : Option Method). Goes (own_call program (unbounded program) [] o) start (Reference 0) end cost) (sym builder.meant) own)))

    enough_is : creation_cost program problem w v h at reached + set_cost program problem w v h at reached + 3 ≤ enough structure
    enough_is = omega (arith, creation_fits reached, setting_fits reached, structure_long, reached_few)

    pub builds : Builds program c n problem structure
    builds = record {
      root = λ fuel le.
          let x : Left (value program (call_scope program c) (call_of n) (state start fuel)) (Reference 0) (with_heap (map (final program problem w v h at) reached) start) (fuel - (creation_cost program problem w v h at reached + set_cost program problem w v h at reached + 3)) = (goes_call created).by fuel (omega (arith, le, enough_is)) in
          ap (λ (o : Outcome Value). o.said) x.is;
      heap = λ fuel le.
          let x : Left (value program (call_scope program c) (call_of n) (state start fuel)) (Reference 0) (with_heap (map (final program problem w v h at) reached) start) (fuel - (creation_cost program problem w v h at reached + set_cost program problem w v h at reached + 3)) = (goes_call created).by fuel (omega (arith, le, enough_is)) in
          ap (λ (o : Outcome Value). o.after.heap) x.is ∙ heap_built;
    }
