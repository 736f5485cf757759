-- Classes with objects, in a program that has one class more than that of the problem.
use Rattle.std.proofs.Common.{◌≡◌, ℕ, zero, suc, ◌+◌, ◌<◌, ◌≤◌, ◌⊎◌, inl, inr, Bool, true, false, ◌||◌, List, [], ◌∷◌, ◌++◌, length, get_or, Option, Some, None, refl, sym, ap, ◌∙◌, arith, subst}
use Rattle.std.specs.Prelude.{flat_map, find, reverse, bytes_eq, nat_lt, not, ◌&&◌, option_and_then, option_to_list, if◌then◌else◌}
use Rattle.std.specs.List.{range_with_len}
use Rattle.std.proofs.lemmas.Bool.{cases_lt, lt-ltb, eq-eqb}
use Rattle.kr_base.proofs.ListLemmas.{append_is_nil}
use Rattle.kr_base.specs.declared.place.Place.{Place}
use Rattle.kr_value.specs.declared.object.Class.TheVariants.{Object}
use Rattle.kr_classes_table.proofs.Tables.{unbroken as not_broken}
use Rattle.kr_classes_table.proofs.Tables.{past}
use Rattle.kr_classes_table.specs.Ancestors.{IsWhole}
use Rattle.kr_classes_table.specs.Rules.{Fault}
use Rattle.kr_classes_table.specs.Table.{Class, Constructor, Field, Heading, Table, class_at, field_named, fields_of, is_among, is_below, is_instance, is_number, line_of, number_of, outer_of, own_fields, type_named, class_or}
use Rattle.kr_classes_table.specs.Types.{ClassType, UnknownType}
use Rattle.kr_mean.specs.Problem.{ClassDomain, Problem, domain_at, no_objects}
use Rattle.kr_mean.specs.Program.{Program, class_scope, declared_fields, field_position, first, position_from, spot_of_field}
use Rattle.kr_mean.specs.Purity.{IsOneOf}
use Rattle.kr_report.specs.Texts.{field_names}
use Rattle.kr_laws_runs.proofs.Respects.{AllOf}
use Rattle.kr_laws_pruning.proofs.Numbering.{get_map}
use Rattle.kr_laws_safety.proofs.Creations.{IsBelowAll, line_below}
use Rattle.kr_laws_safety.specs.Typed.{AreInitialised, IsTypedProgram}
use Rattle.kr_laws_never_stuck.proofs.Chains.{chain}
use Rattle.kr_laws_never_stuck.proofs.Declared.{among_turned, found_one, one_part, one_whole, same_field, equal_names, names_equal}
use Rattle.kr_laws_never_stuck.proofs.Unbroken.{Unbroken}
use Rattle.kr_emit_meaning.specs.Buildable.{E1, class_faults, construction_faults, constructor_fault, constructors_of, field_fault, is_built, is_literal, is_class_below}
use Rattle.kr_emit_meaning.specs.Builders.{heading_at}
use Rattle.kr_emit_laws.specs.BuilderTree.{type_tree}
use Rattle.kr_emit_laws.specs.Syntax.{class_name, named_in}
use Rattle.kr_emit_laws.proofs.Creations.{IsImplied, IsSimple}
use Rattle.kr_emit_laws.proofs.Fields.{position_is}
use Rattle.kr_emit_laws.proofs.Lines.{IsSpotOf}
use Rattle.kr_emit_laws.proofs.Literals.{literal_value}

-- The larger table has a class more, which no old one names or extends.
pub record IsWider (t u : Table) : Type 0 where
  pub numbers : (n : List ℕ) (c : ℕ) → number_of t.headings n ≡ Some c → number_of u.headings n ≡ Some c
  pub outers : (c : ℕ) → outer_of u.headings c ≡ outer_of t.headings c
  pub lines : (c : ℕ) → line_of u c ≡ line_of t c
  pub fields : (c : ℕ) → own_fields u c ≡ own_fields t c
  pub constructors : (c : ℕ) → flat_map (λ (d : Class). d.constructors) (option_to_list (class_at u.classes c)) ≡ flat_map (λ (d : Class). d.constructors) (option_to_list (class_at t.classes c))

-- the name of a class means it, and so does that of its outer class
pub record IsNumbered (t : Table) (c : ℕ) : Type 0 where
  pub named : number_of t.headings (heading_at t.headings c).name ≡ Some c
  pub outer : (o : ℕ) → outer_of t.headings c ≡ Some o → number_of t.headings (heading_at t.headings o).name ≡ Some o

-- ---- lists

nil_at : {B : Type 0} (f : ℕ → List B) (a n e : ℕ) → flat_map f (range_with_len a n) ≡ [] → a ≤ e → e < a + n → f e ≡ []
nil_at f a zero e h l m = absurd (omega (arith, l, m))
nil_at {B} f a (suc n) e h l m = go (cases_lt a e) (append_is_nil (f a) (flat_map f (range_with_len (a + 1) n)) h) (λ q k. nil_at f (a + 1) n e q k (omega (arith, m)))
  where
    go : (a < e) ⊎ (e ≤ a) → (f a ≡ []) × (flat_map f (range_with_len (a + 1) n) ≡ []) → (flat_map f (range_with_len (a + 1) n) ≡ [] → a + 1 ≤ e → f e ≡ []) → f e ≡ []
    go (inl lt) parts r = r parts.1 (omega (arith, lt))
    go (inr le) parts r = let q : a ≡ e = omega (arith, l, le) in subst (λ (x : ℕ). f x ≡ []) q parts.0

find_some : {A : Type 0} (test : A → Bool) (x : A) (xs : List A) → IsOneOf x xs → test x ≡ true → (y : A) × (find test xs ≡ Some y)
find_some test x [] i e = absurd i
find_some test x (z ∷ xs) i e = go (test z) refl i (λ j. find_some test x xs j e)
  where
    go : (b : Bool) → test z ≡ b → IsOneOf x (z ∷ xs) → (IsOneOf x xs → (y : _) × (find test xs ≡ Some y)) → (y : _) × ((if b then Some z else find test xs) ≡ Some y)
    go true q i r = (z, refl)
    go false q (inl j) r = absurd (cc (q, e, ap test j))
    go false q (inr j) r = r j

or_left : (a b : Bool) → a ≡ true → (a || b) ≡ true
or_left true b e = refl
or_left false b e = absurd (cc (e))

or_right : (a b : Bool) → b ≡ true → (a || b) ≡ true
or_right true b e = refl
or_right false b e = e

-- ---- construction that only sets fields to literals

abbrev AreLiterals : List Field → Type 0
AreLiterals fs = AllOf (λ (f : Field). is_literal f.initial ≡ true) fs

literal_fields : (fs : List Field) → flat_map field_fault fs ≡ [] → AreLiterals (flat_map is_instance fs)
literal_fields [] h = tt
literal_fields (f ∷ fs) h = let parts = append_is_nil (field_fault f) (flat_map field_fault fs) h in go f.is_static refl (not_broken (not f.is_static && not (is_literal f.initial)) 1 f.place parts.0) (literal_fields fs parts.1)
  where
    literal : (b : Bool) → (true && not b) ≡ false → b ≡ true
    literal true e = refl
    literal false e = absurd (cc (e))

    go : (b : Bool) → f.is_static ≡ b → (not f.is_static && not (is_literal f.initial)) ≡ false → AreLiterals (flat_map is_instance fs) → AreLiterals ((if b then [] else f ∷ []) ++ flat_map is_instance fs)
    go true q e r = r
    go false q e r = (literal (is_literal f.initial) (ap (λ (x : Bool). not x && not (is_literal f.initial)) (sym q) ∙ e), r)

no_constructors : (ks : List Constructor) → flat_map constructor_fault ks ≡ [] → ks ≡ []
no_constructors [] h = refl
no_constructors (k ∷ ks) h = absurd (cc (h))

-- none is declared
implied : (u : Table) (c : ℕ) → flat_map (λ (d : Class). d.constructors) (option_to_list (class_at u.classes c)) ≡ [] → option_and_then (λ (d : Class). first d.constructors) (class_at u.classes c) ≡ None
implied u c h = go (class_at u.classes c) h
  where
    none : (ks : List Constructor) → ks ++ [] ≡ [] → first ks ≡ None
    none [] e = refl
    none (k ∷ ks) e = absurd (cc (e))

    go : (x : Option Class) → flat_map (λ (d : Class). d.constructors) (option_to_list x) ≡ [] → option_and_then (λ (d : Class). first d.constructors) x ≡ None
    go None e = refl
    go (Some d) e = none d.constructors e

pub counted : (t : Table) (e : ℕ) (ds : List ClassDomain) (i c : ℕ) → i < length ds → (get_or ds i no_objects).class ≡ Object c → 0 < (get_or ds i no_objects).count → is_below t c e ≡ true → is_built t e ds ≡ true
counted t e [] i c l is some below = absurd (omega (arith, l))
counted t e (d ∷ ds) zero c l is some below =
    or_left (nat_lt 0 d.count && is_class_below t e d.class) (is_built t e ds)
    (ap (λ (b : Bool). b && is_class_below t e d.class) (lt-ltb 0 d.count some) ∙ (ap (is_class_below t e) is ∙ below))
counted t e (d ∷ ds) (suc i) c l is some below = or_right (nat_lt 0 d.count && is_class_below t e d.class) (is_built t e ds) (counted t e ds i c (omega (arith, l)) is some below)

module _ (problem : Problem) (e1 : E1 problem ≡ []) where
  abbrev table : Table
  table = problem.program.table

  -- a class that a creation runs has no constructor, and literals as initial values
  pub plain : (e : ℕ) → is_built problem.program.table e problem.domains ≡ true → (constructors_of problem.program.table e ≡ []) × AllOf (λ (f : Field). is_literal f.initial ≡ true) (flat_map is_instance (own_fields problem.program.table e))
  plain e built = go (cases_lt e (length table.classes))
    where
      none : construction_faults table e ≡ [] → (constructors_of table e ≡ []) × AreLiterals (flat_map is_instance (own_fields table e))
      none q =
          let parts = append_is_nil (flat_map constructor_fault (constructors_of table e)) (flat_map field_fault (own_fields table e)) q in
          (no_constructors (constructors_of table e) parts.0, literal_fields (own_fields table e) parts.1)

      go : (e < length table.classes) ⊎ (length table.classes ≤ e) → (constructors_of table e ≡ []) × AreLiterals (flat_map is_instance (own_fields table e))
      go (inl lt) = none (ap (λ (b : Bool). let l : List Fault = if b then construction_faults table e else [] in l) (sym built) ∙ nil_at (class_faults problem) 0 (length table.classes) e e1 (omega arith) (omega (arith, lt)))
      go (inr le) =
          let gone : class_at table.classes e ≡ None = past table.classes e le in (
            ap (λ (x : Option Class). flat_map (λ (d : Class). d.constructors) (option_to_list x)) gone,
            subst (λ (x : Option Class). AreLiterals (flat_map is_instance (flat_map (λ (d : Class). d.fields) (option_to_list x)))) (sym gone) tt,
          )

  module _ (program : Program) (wider : IsWider problem.program.table program.table) (typed : IsTypedProgram problem.program) where
    pub fields_same : (c : ℕ) → fields_of program.table c ≡ fields_of table c
    fields_same c = ap (λ (l : List ℕ). flat_map is_instance (flat_map (own_fields program.table) (reverse l))) (wider.lines c) ∙ ap (flat_map is_instance) (each (reverse (line_of table c)))
      where
        each : (cs : List ℕ) → flat_map (own_fields program.table) cs ≡ flat_map (own_fields table) cs
        each [] = refl
        each (d ∷ ds) = ap (λ (l : List Field). l ++ flat_map (own_fields program.table) ds) (wider.fields d) ∙ ap (λ (l : List Field). own_fields table d ++ l) (each ds)

    pub below_same : (c d : ℕ) → is_below program.table c d ≡ is_below table c d
    below_same c d = ap (is_among d) (wider.lines c)

    pub named_same : (c : ℕ) (n : List ℕ) → field_named program.table c n ≡ field_named table c n
    named_same c n = ap (find (λ (f : Field). bytes_eq f.name n)) (ap (flat_map (own_fields program.table)) (wider.lines c) ∙ each (line_of table c))
      where
        each : (cs : List ℕ) → flat_map (own_fields program.table) cs ≡ flat_map (own_fields table) cs
        each [] = refl
        each (d ∷ ds) = ap (λ (l : List Field). l ++ flat_map (own_fields program.table) ds) (wider.fields d) ∙ ap (λ (l : List Field). own_fields table d ++ l) (each ds)

    spot_same : (c k : ℕ) (f : Field) → is_below table c f.class ≡ true → position_from 0 (fields_of table c) f.name ≡ Some k → spot_of_field program f (Object c) ≡ Some k
    spot_same c k f below at =
        ap (λ (b : Bool). let x : Option ℕ = if b then field_position program c f.name else None in x) (below_same c f.class ∙ below)
        ∙ (ap (λ (fs : List Field). position_from 0 fs f.name) (fields_same c) ∙ at)

    simple_fields : (c d : ℕ) (fs : List Field) → is_below table c d ≡ true → AreInitialised problem.program d fs → AllOf (λ (f : Field). is_literal f.initial ≡ true) fs → AllOf (IsSimple program c) fs
    simple_fields c d [] below initialised literals = tt
    simple_fields c d (f ∷ fs) below initialised literals =
        let at = initialised.0.has.at c below in (
          record {
            initial = literal_value program (class_scope program f.class) f.initial literals.0;
            spot = at.0;
            is = spot_same c at.0 f (ap (is_below table c) initialised.0.class ∙ below) at.1;
          },
          simple_fields c d fs below initialised.1 literals.1,
        )

    implied_class : (c d : ℕ) → is_below table c d ≡ true → is_built table d problem.domains ≡ true → IsImplied program c d
    implied_class c d below built =
        let p = plain d built in
        record {
          constructor = implied program.table d (wider.constructors d ∙ p.0);
          fields = subst (λ (fs : List Field). AllOf (IsSimple program c) fs) (sym (ap (flat_map is_instance) (wider.fields d))) (simple_fields c d (declared_fields problem.program d) below (typed.classes d).initialised p.1);
        }

    -- of an object's class and its ancestors
    pub implied_line : (i c : ℕ) → i < length problem.domains → (domain_at problem i).class ≡ Object c → 0 < (domain_at problem i).count → AllOf (IsImplied program c) (line_of program.table c)
    implied_line i c l is some = subst (λ (ds : List ℕ). AllOf (IsImplied program c) ds) (sym (wider.lines c)) (each (line_of table c) (line_below table c))
      where
        each : (ds : List ℕ) → IsBelowAll table c ds → AllOf (IsImplied program c) ds
        each [] h = tt
        each (d ∷ ds) h = (implied_class c d h.0 (counted table d problem.domains i c l is some h.0), each ds h.1)

    -- ---- fields by their names

    module _ (rules : Unbroken problem.program.table) (whole : IsWhole problem.program.table) (none : Field) where
      instance_in : (f : Field) (fs : List Field) → IsOneOf f (flat_map is_instance fs) → IsOneOf f fs × (f.is_static ≡ false)
      instance_in f [] h = absurd h
      instance_in f (x ∷ fs) h = go x.is_static refl h (λ i. instance_in f fs i)
        where
          go : (b : Bool) → x.is_static ≡ b → IsOneOf f ((if b then [] else x ∷ []) ++ flat_map is_instance fs) → (IsOneOf f (flat_map is_instance fs) → IsOneOf f fs × (f.is_static ≡ false)) → IsOneOf f (x ∷ fs) × (f.is_static ≡ false)
          go true q h r = let y = r h in (inr y.0, y.1)
          go false q (inl i) r = (inl i, ap (λ (z : Field). z.is_static) (sym i) ∙ q)
          go false q (inr i) r = let y = r i in (inr y.0, y.1)

      one_at : (fs : List Field) (j : ℕ) → j < length fs → IsOneOf (get_or fs j none) fs
      one_at [] j h = absurd (omega (arith, h))
      one_at (f ∷ fs) zero h = inl refl
      one_at (f ∷ fs) (suc j) h = inr (one_at fs j (omega (arith, h)))

      -- the field of a spot by its name
      pub spot_found : (c j : ℕ) → j < length (fields_of table c) → (spot : IsSpotOf program c (get_or (field_names table (Object c)) j []) j) × (spot.field ≡ get_or (fields_of table c) j none)
      spot_found c j h =
          let f : Field = get_or (fields_of table c) j none in
          let n : List ℕ = f.name in
          let part = instance_in f (flat_map (own_fields table) (reverse (line_of table c))) (one_at (fields_of table c) j h) in
          let turned = one_part f (own_fields table) (reverse (line_of table c)) part.0 in
          let on : IsOneOf f (flat_map (own_fields table) (line_of table c)) = one_whole f (own_fields table) (line_of table c) turned.0 (among_turned turned.0 (line_of table c) turned.1) turned.2 in
          let found = find_some (λ (g : Field). bytes_eq g.name n) f (flat_map (own_fields table) (line_of table c)) on (equal_names n n refl) in
          let g : Field = found.0 in
          let one = found_one (λ (g : Field). bytes_eq g.name n) g (flat_map (own_fields table) (line_of table c)) found.1 in
          let same : g ≡ f = same_field table rules whole (line_of table c) (chain table rules whole c) f g on one.0 (names_equal g.name n one.1) in
          let below : is_below table c g.class ≡ true = (typed.fields c n g found.1).below in
          let name_is : get_or (field_names table (Object c)) j [] ≡ n = get_map (λ (g : Field). g.name) (fields_of table c) j none [] h in
          subst (λ (m : List ℕ). (spot : IsSpotOf program c m j) × (spot.field ≡ f)) (sym name_is) (
            record {
              field = g;
              named = named_same c n ∙ found.1;
              instance = ap (λ (x : Field). x.is_static) same ∙ part.1;
              spot = spot_same c j g below (ap (λ (x : Field). position_from 0 (fields_of table c) x.name) same ∙ position_is table rules whole c j none h);
            },
            same,
          )

      pub spot_named : (c j : ℕ) → j < length (fields_of table c) → IsSpotOf program c (get_or (field_names table (Object c)) j []) j
      spot_named c j h = (spot_found c j h).0

-- ---- names of classes

outer_at : (hs : List Heading) (c : ℕ) → outer_of hs c ≡ (heading_at hs c).outer
outer_at [] c = refl
outer_at (h ∷ hs) zero = refl
outer_at (h ∷ hs) (suc c) = outer_at hs c

pub class_means : (t u : Table) (c : ℕ) → IsWider t u → IsNumbered t c → (p : Place) → type_named u.headings (type_tree p (class_name t.headings c)) ≡ ClassType c
class_means t u c wider numbered p = go (heading_at t.headings c).name numbered.named (heading_at t.headings c).outer refl
  where
    go : (name : List ℕ) → number_of t.headings name ≡ Some c → (o : Option ℕ) → (heading_at t.headings c).outer ≡ o → type_named u.headings (type_tree p (named_in t.headings o name)) ≡ ClassType c
    go name named None e = ap (λ (k : Option ℕ). class_or k (UnknownType [] name)) (wider.numbers name c named)
    go name named (Some o) e =
        let outer : List ℕ = (heading_at t.headings o).name in
        let is : outer_of t.headings c ≡ Some o = outer_at t.headings c ∙ e in
        let inner : option_and_then (λ c. if is_number (outer_of u.headings c) (number_of u.headings outer) then Some c else None) (number_of u.headings name) ≡ Some c =
        ap (option_and_then (λ c. if is_number (outer_of u.headings c) (number_of u.headings outer) then Some c else None)) (wider.numbers name c named)
        ∙ (ap (λ (x : Option ℕ). let y : Option ℕ = if is_number x (number_of u.headings outer) then Some c else None in y) (wider.outers c ∙ is)
        ∙ (ap (λ (x : Option ℕ). let y : Option ℕ = if is_number (Some o) x then Some c else None in y) (wider.numbers outer o (numbered.outer o is))
        ∙ ap (λ (b : Bool). let y : Option ℕ = if b then Some c else None in y) (eq-eqb o o refl))) in
        ap (λ (k : Option ℕ). class_or k (UnknownType outer name)) inner
