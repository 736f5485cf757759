-- Builders beside the sources: each row's builder builds its structure.
use Rattle.std.proofs.Common.{◌≡◌, ℕ, zero, suc, ◌<◌, ◌≤◌, ◌^◌, Bool, true, false, List, [], ◌∷◌, ◌++◌, length, get_or, Option, Some, None, refl, sym, ap, ◌∙◌, inl, inr, arith, subst}
use Rattle.std.specs.Prelude.{map, flat_map, ℤ, slice_get, if◌then◌else◌, MatchOption, codes}
use Rattle.std.specs.List.{position_or_len}
use Rattle.std.proofs.lemmas.List.{length-map}
use Rattle.kr_base.proofs.ListLemmas.{append_is_nil}
use Rattle.kr_base.specs.declared.place.Place.{Place}
use Rattle.kr_base.specs.declared.refusal.Fault.{Fault as FaultOf}
use Rattle.kr_ast.specs.Tree.{Tree, Nil}
use Rattle.kr_value.specs.declared.value.Value.{Value}
use Rattle.kr_value.specs.declared.object.Class as classes
use Rattle.kr_value.specs.declared.object.Class.TheVariants.{Object, Array, Set, List as ListClass}
use Rattle.kr_classes_table.proofs.Least.{is_least}
use Rattle.kr_classes_table.specs.Ancestors.{IsWhole}
use Rattle.kr_classes_table.specs.Arrays.{is_listed}
use Rattle.kr_classes_table.specs.Numbers.{Bits32, Bits64}
use Rattle.kr_classes_table.specs.Rules.{Fault, least}
use Rattle.kr_classes_table.specs.Table.{Class, Field, Heading, Table, fields_of, headings_of, items, methods_in, table_of, type_named}
use Rattle.kr_classes_table.specs.Types.{JavaType, NumberType, BooleanType, NullType, VoidType, ClassType, ArrayType, SetType, ListType, InferredType, UnknownType, AppliedType, is_known, is_same, is_void}
use Rattle.kr_classes_table.specs.Table as tables
use Rattle.kr_base.specs.Places.{nowhere}
use Rattle.kr_fin.proofs.Leasts.{least_of_all}
use Rattle.kr_fin.specs.Least as by
use Rattle.kr_mean.specs.Entries.{structure_of}
use Rattle.kr_mean.specs.Problem.{ClassDomain, Domain, DomainObject, Problem, Spotted, domain_at, heap_number, no_objects, slot_at}
use Rattle.kr_mean.specs.Program.{Program, program_of}
use Rattle.kr_mean.specs.Runs.{root_class}
use Rattle.kr_mean.specs.Space.{IsVector, space_of}
use Rattle.kr_mean.specs.WellFormed.{AreSpots, IsWellFormed}
use Rattle.kr_mean.specs.declared.row.Row.{Row}
use Rattle.kr_laws_safety.specs.Domains.{AreDomainsOf, AreElementsOf, AreSpotsOf, HaveDomainsTypes, domains_of}
use Rattle.kr_laws_safety.specs.Typed.{IsTypedProgram}
use Rattle.kr_laws_never_stuck.proofs.Unbroken.{Unbroken}
use Rattle.kr_laws_pruning.proofs.Membership.{Has, has_append_left, has_map}
use Rattle.kr_laws_pruning.proofs.Numbering.{get_map, object_at_number, width_at}
use Rattle.kr_laws_pruning.proofs.Places.{class_at}
use Rattle.kr_laws_pruning.proofs.Reached.{has_flat}
use Rattle.kr_laws_pruning.proofs.Walked.{Valid}
use Rattle.kr_emit_meaning.specs.Buildable.{BuildFault, E1, E2, E3, array_elements, build_fault, construction_at, element_of, elements_at, elements_fault, first_of, is_named, name_at, rank_of}
use Rattle.kr_emit_meaning.specs.Builders.{class_of_object, objects_in}
use Rattle.kr_emit_meaning.specs.declared.refusal.ElementRule.{ElementRule}
use Rattle.kr_emit_laws.specs.BuilderTree.{builder_tree, methods_tree, type_tree}
use Rattle.kr_emit_laws.specs.Syntax.{Builder, CreatesArray, Line, assignment_lines, builder_of, builders_of, class_name, created_lines, creation_lines, element_name, length_of, lines_of, local_of}
use Rattle.kr_emit_laws.specs.Built.{Builds}
use Rattle.kr_emit_laws.specs.Laws.{with_builders}
use Rattle.kr_emit_laws.proofs.Arrays.{array_listed, number_is, type_there}
use Rattle.kr_emit_laws.proofs.Calls.{IsBuilder, builds}
use Rattle.kr_emit_laws.proofs.Fields.{declared_all}
use Rattle.kr_emit_laws.proofs.Methods.{builder_of_class, no_builder}
use Rattle.kr_emit_laws.proofs.Objects.{IsArrayBuilt, IsBuildable, IsBuilt, IsClassBuilt}
use Rattle.kr_emit_laws.proofs.Structures.{met, objects_are}
use Rattle.kr_emit_laws.proofs.Values.{length_given, numbers_within, root_given}
use Rattle.kr_emit_laws.proofs.Wider.{IsNumbered, IsWider, class_means, fields_same, implied_line, spot_named}
use Rattle.kr_emit_meaning.specs.declared.refusal.ElementRule.TheVariants.{Elements}

-- ---- what a writable problem has

pub first_none : (a b : Option BuildFault) → first_of a b ≡ None → (a ≡ None) × (b ≡ None)
first_none None b e = (refl, e)
first_none (Some x) b e = absurd (cc (e))

pub construction_none : (o : Option Fault) → construction_at o ≡ None → o ≡ None
construction_none None e = refl
construction_none (Some f) e = absurd (cc (e))

elements_none : (o : Option (FaultOf ElementRule)) → elements_at o ≡ None → o ≡ None
elements_none None e = refl
elements_none (Some f) e = absurd (cc (e))

no_elements : (fs : List (FaultOf ElementRule)) → by.least rank_of fs ≡ None → fs ≡ []
no_elements fs e = subst (λ (o : Option (FaultOf ElementRule)). MatchOption o (fs ≡ []) (by.IsLeast rank_of fs)) e (least_of_all rank_of fs)

pub no_faults : (problem : Problem) → build_fault problem ≡ None → (E1 problem ≡ []) × (E3 problem ≡ [])
unfolding build_fault
no_faults problem e =
    let first = first_none (construction_at (least (E1 problem))) (first_of (name_at (least (E2 problem))) (elements_at (by.least rank_of (E3 problem)))) e in
    let rest = first_none (name_at (least (E2 problem))) (elements_at (by.least rank_of (E3 problem))) first.1 in
    ((is_least (E1 problem)).none (construction_none (least (E1 problem)) first.0), no_elements (E3 problem) (elements_none (by.least rank_of (E3 problem)) rest.1))

pub named_elements : (problem : Problem) (ds : List ClassDomain) (i k : ℕ) → flat_map (λ (d : ClassDomain). elements_fault problem.program d.name d.class) ds ≡ [] → i < length ds → (get_or ds i no_objects).class ≡ Array k → is_named (array_elements problem.program k) ≡ true
named_elements problem [] i k e l is = absurd (omega (arith, l))
named_elements problem (d ∷ ds) zero k e l is =
    go (is_named (array_elements problem.program k)) refl
    (ap (elements_fault problem.program d.name) (sym is) ∙ (append_is_nil (elements_fault problem.program d.name d.class) (flat_map (λ (d : ClassDomain). elements_fault problem.program d.name d.class) ds) e).0)
  where
    go : (b : Bool) → is_named (array_elements problem.program k) ≡ b → elements_fault problem.program d.name (Array k) ≡ [] → b ≡ true
    go true q r = refl
    go false q r = absurd (cc (r, ap (λ (b : Bool). let l : List (FaultOf ElementRule) = if b then [] else record { rule = Elements; item = codes "arrays." ++ d.name } ∷ [] in l) q))
named_elements problem (d ∷ ds) (suc i) k e l is =
    named_elements problem ds i k (append_is_nil (elements_fault problem.program d.name d.class) (flat_map (λ (d : ClassDomain). elements_fault problem.program d.name d.class) ds) e).1 (omega (arith, l)) is

-- ---- lists

domains_long : (problem : Problem) (ts : List JavaType) (ds : List Domain) → AreDomainsOf problem ts ds → length ts ≡ length ds
domains_long problem [] [] h = refl
domains_long problem [] (d ∷ ds) h = absurd h
domains_long problem (t ∷ ts) [] h = absurd h
domains_long problem (t ∷ ts) (d ∷ ds) h = ap suc (domains_long problem ts ds h.1)

row_has : (rows : List Row) (n : ℕ) (row : Row) → slice_get rows n ≡ Some row → Has row rows × (n < length rows) × (get_or rows n row ≡ row)
row_has [] n row e = absurd (cc (e))
row_has (r ∷ rows) zero row e = let q : r ≡ row = cc (e) in (inl q, omega arith, q)
row_has (r ∷ rows) (suc n) row e = let x = row_has rows n row e in (inr x.0, omega (arith, x.1), x.2)

pub no_field : Field
no_field = record { class = 0; name = []; place = nowhere; is_static = false; is_final = false; type = VoidType; initial = Nil }

-- ---- the sources, the problem, and the builders' class after the classes of the sources

pub record IsBeside (files : List Tree) (problem : Problem) (rows : List Row) (at : List ℕ → Place) : Type 0 where
  pub formed : IsWellFormed problem
  pub domains : HaveDomainsTypes problem
  pub typed : IsTypedProgram problem.program
  pub rules : Unbroken problem.program.table
  pub whole : IsWhole problem.program.table
  pub buildable : build_fault problem ≡ None
  -- classes of objects and of arrays' elements
  pub objects : (d c : ℕ) → d < length problem.domains → (domain_at problem d).class ≡ Object c → IsNumbered problem.program.table c
  pub elements : (d k c : ℕ) → d < length problem.domains → (domain_at problem d).class ≡ Array k → array_elements problem.program k ≡ ClassType c → IsNumbered problem.program.table c
  pub short : (d k : ℕ) → d < length problem.domains → (domain_at problem d).class ≡ Array k → width_at problem d ≤ 65
  -- the program of the sources and the builders
  pub wider : IsWider problem.program.table (program_of (with_builders files (builder_tree at problem rows))).table
  pub headings : headings_of (with_builders files (builder_tree at problem rows)) ≡ (program_of (with_builders files (builder_tree at problem rows))).table.headings
  pub number : ℕ
  pub class : Class
  pub here : tables.class_at (program_of (with_builders files (builder_tree at problem rows))).table.classes number ≡ Some class
  pub super : class.super ≡ None
  pub front : List ℕ
  pub methods : class.methods ≡ flat_map (methods_in (program_of (with_builders files (builder_tree at problem rows))).table.headings number) (items (methods_tree at front 0 (builders_of problem rows)))

module _ (files : List Tree) (problem : Problem) (rows : List Row) (at : List ℕ → Place) (h : IsBeside files problem rows at) where
  abbrev program : Program
  program = program_of (with_builders files (builder_tree at problem rows))

  abbrev old : Table
  old = problem.program.table

  pub e1 : E1 problem ≡ []
  e1 = (no_faults problem h.buildable).0

  pub e3 : E3 problem ≡ []
  e3 = (no_faults problem h.buildable).1

  module _ (n : ℕ) (row : Row) (v : List ℕ) (there : slice_get rows n ≡ Some row) (is : row.structure ≡ structure_of problem v) (iv : IsVector (space_of problem) v) where
    abbrev w : IsWellFormed problem
    w = h.formed

    pub fields_long : (o : DomainObject) → Valid problem o → (c : ℕ) → class_at problem h.formed o.domain ≡ Object c → length (fields_of old c) ≡ width_at problem o.domain
    fields_long o a c e =
        let spots : AreDomainsOf problem (map (λ (f : Field). f.type) (fields_of old c)) (domains_of (domain_at problem o.domain).spots) = subst (λ (x : classes.Class). AreSpotsOf problem x (domain_at problem o.domain).spots) e (h.domains.spots o.domain a.0) in
        sym (length-map (fields_of old c) (λ (f : Field). f.type)) ∙ (domains_long problem (map (λ (f : Field). f.type) (fields_of old c)) (domains_of (domain_at problem o.domain).spots) spots ∙ length-map (domain_at problem o.domain).spots (λ (s : Spotted). s.domain))

    class_built : (o : DomainObject) → Valid problem o → (c : ℕ) → class_at problem h.formed o.domain ≡ Object c → IsClassBuilt program problem o.domain c
    class_built o a c e =
        let long : length (fields_of old c) ≡ width_at problem o.domain = fields_long o a c e in
        record {
          means = class_means old program.table c h.wider (h.objects o.domain c a.0 e);
          line = implied_line problem e1 program h.wider h.typed o.domain c a.0 e (omega (arith, a.1));
          declared = declared_all program c;
          long = ap (λ (fs : List Field). length fs) (fields_same problem e1 program h.wider h.typed c) ∙ long;
          spots = λ j l. spot_named problem e1 program h.wider h.typed h.rules h.whole no_field c j (omega (arith, l, long));
        }

    -- the elements of an array type
    pub elements_mean : (d k : ℕ) → d < length problem.domains → class_at problem h.formed d ≡ Array k → (p : Place) → type_named program.table.headings (type_tree p (element_name old.headings (array_elements problem.program k))) ≡ array_elements problem.program k
    elements_mean d k l e p = go (array_elements problem.program k) refl (named_elements problem problem.domains d k e3 l e)
      where
        go : (t : JavaType) → array_elements problem.program k ≡ t → is_named t ≡ true → type_named program.table.headings (type_tree p (element_name old.headings t)) ≡ t
        go (NumberType Bits32) q i = refl
        go (NumberType Bits64) q i = refl
        go BooleanType q i = refl
        go (ClassType c) q i = class_means old program.table c h.wider (h.elements d k c l e q) p
        go NullType q i = absurd (cc (i))
        go VoidType q i = absurd (cc (i))
        go (ArrayType t) q i = absurd (cc (i))
        go (SetType t) q i = absurd (cc (i))
        go (ListType t) q i = absurd (cc (i))
        go InferredType q i = absurd (cc (i))
        go (UnknownType x y) q i = absurd (cc (i))
        go (AppliedType x y) q i = absurd (cc (i))

    pub elements_known : (t : JavaType) → is_named t ≡ true → is_known t ≡ true
    elements_known (NumberType x) i = refl
    elements_known BooleanType i = refl
    elements_known (ClassType c) i = refl
    elements_known NullType i = absurd (cc (i))
    elements_known VoidType i = absurd (cc (i))
    elements_known (ArrayType t) i = absurd (cc (i))
    elements_known (SetType t) i = absurd (cc (i))
    elements_known (ListType t) i = absurd (cc (i))
    elements_known InferredType i = absurd (cc (i))
    elements_known (UnknownType x y) i = absurd (cc (i))
    elements_known (AppliedType x y) i = absurd (cc (i))

    pub array_type : (d k : ℕ) → d < length problem.domains → class_at problem h.formed d ≡ Array k → get_or problem.program.arrays k VoidType ≡ ArrayType (array_elements problem.program k)
    array_type d k l e = go (get_or problem.program.arrays k VoidType) (subst (λ (c : classes.Class). AreSpotsOf problem c (domain_at problem d).spots) e (h.domains.spots d l))
      where
        go : (u : JavaType) → AreElementsOf problem u (domain_at problem d).spots → u ≡ ArrayType (element_of u)
        go (ArrayType u) i = refl
        go (NumberType x) i = absurd i
        go BooleanType i = absurd i
        go NullType i = absurd i
        go VoidType i = absurd i
        go (ClassType c) i = absurd i
        go (SetType u) i = absurd i
        go (ListType u) i = absurd i
        go InferredType i = absurd i
        go (UnknownType x y) i = absurd i
        go (AppliedType x y) i = absurd i

    -- the line that creates an array
    created_line : (o : DomainObject) → Valid problem o → Has o (met problem h.formed v) → (k : ℕ) → class_at problem h.formed o.domain ≡ Array k
        → (i : ℕ) × (size : ℤ) × Has (CreatesArray (element_name old.headings (array_elements problem.program k)) i size) (builder_of problem row).lines
    created_line o a r k e =
        let structure = row.structure in
        let objects : List ℕ = objects_in structure in
        let x : ℕ = heap_number problem o in
        let i : ℕ = local_of objects x in
        let size : ℤ = length_of problem structure x in
        let class : class_of_object problem x ≡ Array k = ap (λ (o : DomainObject). (domain_at problem o.domain).class) (object_at_number problem o.domain o.number a.0 a.1).1 ∙ e in
        let among : Has x objects = subst (λ (l : List ℕ). Has x l) (sym (ap objects_in is ∙ objects_are problem h.formed v)) (has_map (heap_number problem) o (met problem h.formed v) r) in
        let line : Has (CreatesArray (element_name old.headings (array_elements problem.program k)) i size) (creation_lines problem structure objects x) =
        subst (λ (c : classes.Class). Has (CreatesArray (element_name old.headings (array_elements problem.program k)) i size) (created_lines problem.program i size c)) (sym class) (inl refl) in
        (i, size, has_append_left _ (flat_map (creation_lines problem structure objects) objects) (flat_map (λ (p : ℕ × Value). assignment_lines problem objects p.1 (slot_at problem p.0).place) structure) (has_flat (creation_lines problem structure objects) _ x objects among line))

    array_built : (o : DomainObject) → Valid problem o → Has o (met problem h.formed v) → (k : ℕ) → class_at problem h.formed o.domain ≡ Array k → IsArrayBuilt program problem o.domain k
    array_built o a r k e =
        let t : JavaType = array_elements problem.program k in
        let line = created_line o a r k e in
        let listed : is_listed (ArrayType t) program.arrays ≡ true =
        array_listed program.table.headings (element_name old.headings t) t (elements_mean o.domain k a.0 e) at files (builders_of problem rows) (builder_of problem row) line.0 line.1 h.headings (has_map (builder_of problem) row rows (row_has rows n row there).0) line.2 in
        record {
          means = elements_mean o.domain k a.0 e;
          known = elements_known t (named_elements problem problem.domains o.domain k e3 a.0 e);
          number = position_or_len (λ u. is_same u (ArrayType t)) program.arrays;
          numbered = number_is program.arrays (ArrayType t) listed;
          array = type_there program.arrays (ArrayType t) listed;
          class = ap (λ (u : JavaType). Array (position_or_len (λ x. is_same x u) program.arrays)) (array_type o.domain k a.0 e);
          few = h.short o.domain k a.0 e;
        }

    all_built : (o : DomainObject) → Valid problem o → Has o (met problem h.formed v) → IsBuilt program problem o.domain (class_at problem h.formed o.domain)
    all_built o a r = go (class_at problem h.formed o.domain) refl
      where
        go : (c : classes.Class) → class_at problem h.formed o.domain ≡ c → IsBuilt program problem o.domain c
        go (Object c) e = class_built o a c e
        go (Array k) e = array_built o a r k e
        go Set e = absurd (subst (λ (c : classes.Class). AreSpots c (domain_at problem o.domain).spots) e (h.formed.spots o.domain a.0))
        go ListClass e = absurd (subst (λ (c : classes.Class). AreSpots c (domain_at problem o.domain).spots) e (h.formed.spots o.domain a.0))

    -- fewer rows and objects than an index of 64 bits counts
    module _ (few_rows : n < 2 ^ 64) (few_objects : length (objects_in row.structure) < 2 ^ 64) where
      pub ready : IsBuildable program problem h.formed v
      ready = record {
        classes = all_built;
        numbers = numbers_within problem h.formed h.domains v iv;
        lengths = length_given problem h.formed h.domains v iv;
        few = subst (λ (s : List (ℕ × Value)). length (objects_in s) < 2 ^ 64) is few_objects;
      }

      root_means : (p : Place) → is_void (type_named program.table.headings (type_tree p (class_name old.headings (root_class problem)))) ≡ false
      root_means p = ap is_void (class_means old program.table (root_class problem) h.wider (h.objects problem.root (root_class problem) h.formed.root h.domains.root) p)

      pub row_built : Builds program h.number n problem row.structure
      row_built =
          let x = row_has rows n row there in
          let b : get_or (builders_of problem rows) n no_builder ≡ builder_of problem row = get_map (builder_of problem) rows n row no_builder x.1 ∙ ap (builder_of problem) x.2 in
          let builder =
          builder_of_class program h.number h.class at h.front (builders_of problem rows) n h.here h.super h.methods (omega (arith, x.1, length-map rows (builder_of problem))) few_rows
          (λ p. ap (λ (y : Builder). is_void (type_named program.table.headings (type_tree p y.type))) b ∙ root_means p) in
          let lines : (get_or (builders_of problem rows) n no_builder).lines ≡ lines_of problem (structure_of problem v) (objects_in (structure_of problem v)) =
          ap (λ (y : Builder). y.lines) b ∙ ap (λ (s : List (ℕ × Value)). lines_of problem s (objects_in s)) is in
          let root = root_given problem h.formed h.domains v iv in
          subst (λ (s : List (ℕ × Value)). Builds program h.number n problem s) (sym is)
          (builds program problem h.formed v ready at h.number n (subst (λ (ls : List Line). IsBuilder program h.number n at ls) lines builder) root.0 root.1)
