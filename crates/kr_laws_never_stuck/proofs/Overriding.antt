-- Methods that override others; and the law.
use Rattle.std.proofs.Common.{◌≡◌, refl, sym, ap, ◌∙◌, subst, inl, inr, ◌⊎◌, ℕ, Bool, true, false, List, [], ◌∷◌, ◌++◌}
use Rattle.std.specs.Prelude.{Option, Some, None, map, flat_map, find, nat_eq, bytes_eq, not, ◌&&◌, option_to_list, if◌then◌else◌}
use Rattle.std.proofs.lemmas.Bool.{eqb-true, and_parts, not-false, or_cases}
use Rattle.kr_classes_table.specs.Numbers.{Bits32, Bits64}
use Rattle.kr_classes_table.specs.Types.{JavaType, NumberType, NullType, ClassType, SetType, ListType, InferredType, is_same, is_reference}
use Rattle.kr_classes_table.specs.Table.{Table, Class, Parameter, Method, table_of, class_at, own_methods, method_on, method_named, ancestors, line_of, is_among, is_below, is_assignable}
use Rattle.kr_classes_table.specs.Rules.{break_if, repeated, same_types, overrides, result_fits}
use Rattle.kr_classes_table.specs.Ancestors.{IsWhole}
use Rattle.kr_classes_table.proofs.Tables.{table_law, unbroken as not_broken}
use Rattle.kr_mean.specs.Program.{Program, program_with}
use Rattle.kr_mean.specs.Purity.{IsOneOf}
use Rattle.kr_laws_safety.proofs.Heaps.{same_type}
use Rattle.kr_laws_safety.proofs.Vectors.{type_same}
use Rattle.kr_laws_safety.proofs.Steps.{below_itself}
use Rattle.kr_laws_safety.specs.Typed.{types_in}
use Rattle.kr_laws_safety.proofs.Targets.{assignable_through}
use Rattle.kr_laws_never_stuck.specs.ClassRules.{IsOverrider, ClassRulesLaw}
use Rattle.kr_laws_never_stuck.proofs.Unbroken.{Unbroken, unbroken}
use Rattle.kr_laws_never_stuck.proofs.Chains.{Chain, chain, onward, line}
use Rattle.kr_laws_never_stuck.proofs.Declared.{one_part, no_more, found_one, own_field, own_method, names_equal, declared}
use Rattle.kr_base.proofs.ListLemmas.{append_is_nil}

-- an element found among several is found in the front, or only after it
find_split : {A : Type 0} (test : A → Bool) (xs ys : List A) → ((x : A) × (find test xs ≡ Some x) × (find test (xs ++ ys) ≡ Some x)) ⊎ (find test (xs ++ ys) ≡ find test ys)
find_split test [] ys = inr refl
find_split {A} test (x ∷ xs) ys = go (test x) (find_split test xs ys)
  where
    go : (b : Bool) → ((y : A) × (find test xs ≡ Some y) × (find test (xs ++ ys) ≡ Some y)) ⊎ (find test (xs ++ ys) ≡ find test ys)
        → ((y : A) × ((if b then Some x else find test xs) ≡ Some y) × ((if b then Some x else find test (xs ++ ys)) ≡ Some y)) ⊎ ((if b then Some x else find test (xs ++ ys)) ≡ find test ys)
    go true r = inl (x, refl, refl)
    go false r = r

-- ---- types that may replace another

record Stands (t : Table) (k m : Method) : Type 0 where
  parameters : types_in k.parameters ≡ types_in m.parameters
  static : k.is_static ≡ m.is_static
  result : is_assignable t k.result m.result ≡ true

assignable_same : (t : Table) (s : JavaType) → is_assignable t s s ≡ true
assignable_same t NullType = refl
assignable_same t (NumberType Bits32) = refl
assignable_same t (NumberType Bits64) = refl
assignable_same t (ClassType c) = below_itself t c
assignable_same t (SetType InferredType) = refl
assignable_same t (SetType s) = type_same (SetType s)
assignable_same t (ListType InferredType) = refl
assignable_same t (ListType s) = type_same (ListType s)
assignable_same t s = type_same s

types_same : (ps qs : List Parameter) → same_types ps qs ≡ true → types_in ps ≡ types_in qs
types_same [] [] e = refl
types_same (p ∷ ps) (q ∷ qs) e = let h = and_parts (is_same p.type q.type) (same_types ps qs) e in ap (λ (t : JavaType). t ∷ types_in ps) (same_type p.type q.type h.0) ∙ ap (λ (ts : List JavaType). q.type ∷ ts) (types_same ps qs h.1)
types_same [] (q ∷ qs) e = absurd (cc (e))
types_same (p ∷ ps) [] e = absurd (cc (e))

static_same : (a b : Bool) → (if a then b else not b) ≡ true → a ≡ b
static_same true b e = sym e
static_same false false e = refl
static_same false true e = absurd (cc (e))

result_same : (t : Table) (s u : JavaType) → result_fits t s u ≡ true → is_assignable t s u ≡ true
result_same t s u e = go (or_cases (is_same s u) (is_reference s && is_reference u && is_assignable t s u) e)
  where
    go : (is_same s u ≡ true) ⊎ ((is_reference s && is_reference u && is_assignable t s u) ≡ true) → is_assignable t s u ≡ true
    go (inl h) = ap (is_assignable t s) (sym (same_type s u h)) ∙ assignable_same t s
    go (inr h) = (and_parts (is_reference s && is_reference u) (is_assignable t s u) h).1

-- a rule on what methods override, of one method
of_one : (t : Table) (c r : ℕ) (fits : Method → Method → Bool) (m : Method) (ms : List Method) → flat_map (overrides t c r fits) ms ≡ [] → IsOneOf m ms → overrides t c r fits m ≡ []
of_one t c r fits m [] e h = absurd h
of_one t c r fits m (x ∷ ms) e (inl i) = subst (λ (z : Method). overrides t c r fits z ≡ []) i (append_is_nil (overrides t c r fits x) (flat_map (overrides t c r fits) ms) e).0
of_one t c r fits m (x ∷ ms) e (inr i) = of_one t c r fits m ms (append_is_nil (overrides t c r fits x) (flat_map (overrides t c r fits) ms) e).1 i

fits_above : (t : Table) (c r : ℕ) (fits : Method → Method → Bool) (m a : Method) → overrides t c r fits m ≡ [] → method_on t (ancestors t c) m.name ≡ Some a → fits m a ≡ true
fits_above t c r fits m a e q = go (method_on t (ancestors t c) m.name) q e
  where
    go : (o : Option Method) → o ≡ Some a → flat_map (λ above. break_if (not (fits m above)) r m.place) (option_to_list o) ≡ [] → fits m a ≡ true
    go None q e = absurd (cc (q))
    go (Some x) q e =
        let i : x ≡ a = ap (λ (o : Option Method). elim o as (λ y. Method) [ Some z ↦ z | None ↦ x ]) q in
        subst (λ (z : Method). fits m z ≡ true) i (not-false (fits m x) (not_broken (not (fits m x)) r m.place (append_is_nil (break_if (not (fits m x)) r m.place) [] e).0))

module _ (t : Table) (rules : Unbroken t) (whole : IsWhole t) where
  declares_method : (c : ℕ) (m : Method) → IsOneOf m (own_methods t c) → (d : Class) × (class_at t.classes c ≡ Some d) × IsOneOf m d.methods
  declares_method c m h = go (class_at t.classes c) refl h
    where
      go : (x : Option Class) → class_at t.classes c ≡ x → IsOneOf m (flat_map (λ d. d.methods) (option_to_list x)) → (d : Class) × (class_at t.classes c ≡ Some d) × IsOneOf m d.methods
      go None e h = absurd h
      go (Some d) e h = (d, e, no_more m d.methods h)

  -- a class's own method may replace the one that it overrides
  own_stands : (c : ℕ) (m a : Method) → IsOneOf m (own_methods t c) → method_on t (ancestors t c) m.name ≡ Some a → Stands t m a
  own_stands c m a h q =
      let d = declares_method c m h in
      let five = (append_is_nil (repeated 5 [] (map (λ x. (x.name, x.place)) d.0.methods)) (flat_map (overrides t c 5 (λ x above. same_types x.parameters above.parameters)) d.0.methods) (rules.C5 c d.0 d.1)).1 in
      let seven = rules.C7 c d.0 d.1 in
      let other = fits_above t c 7 (λ x above. (if x.is_static then above.is_static else not above.is_static) && result_fits t x.result above.result) m a (of_one t c 7 (λ x above. (if x.is_static then above.is_static else not above.is_static) && result_fits t x.result above.result) m d.0.methods seven d.2) q in
      let parts = and_parts (if m.is_static then a.is_static else not a.is_static) (result_fits t m.result a.result) other in
      record {
        parameters = types_same m.parameters a.parameters (fits_above t c 5 (λ x above. same_types x.parameters above.parameters) m a (of_one t c 5 (λ x above. same_types x.parameters above.parameters) m d.0.methods five d.2) q);
        static = static_same m.is_static a.is_static parts.0;
        result = result_same t m.result a.result parts.1;
      }

  stands_through : (a b c : Method) → Stands t a b → Stands t b c → Stands t a c
  stands_through a b c x y = record { parameters = x.parameters ∙ y.parameters; static = x.static ∙ y.static; result = assignable_through t (onward t rules whole) a.result b.result c.result x.result y.result }

  -- a subclass's method in place of another
  stands_below : (ds : List ℕ) → Chain t rules whole ds → (c : ℕ) (n : List ℕ) (m : Method) → is_among c ds ≡ true → method_named t c n ≡ Some m → (k : Method) × (method_on t ds n ≡ Some k) × Stands t k m
  stands_below [] h c n m i q = absurd (cc (i))
  stands_below (d ∷ ds) h c n m i q = go (or_cases (nat_eq c d) (is_among c ds) i) (λ j. stands_below ds h.1 c n m j q)
    where
      above : (k : Method) → method_on t ds n ≡ Some k → Stands t k m → ((x : Method) × (find (λ (y : Method). bytes_eq y.name n) (own_methods t d) ≡ Some x) × (method_on t (d ∷ ds) n ≡ Some x)) ⊎ (method_on t (d ∷ ds) n ≡ method_on t ds n) → (k : Method) × (method_on t (d ∷ ds) n ≡ Some k) × Stands t k m
      above k e s (inr f) = (k, f ∙ e, s)
      above k e s (inl x) =
          let found = found_one (λ (y : Method). bytes_eq y.name n) x.0 (own_methods t d) x.1 in
          let name = names_equal x.0.name n found.1 in
          let on = ap (λ (z : List ℕ). method_on t z x.0.name) (sym h.0) ∙ (ap (λ (z : List ℕ). method_on t ds z) name ∙ e) in
          (x.0, x.2, stands_through x.0 k m (own_stands d x.0 k found.0 on) s)

      go : (nat_eq c d ≡ true) ⊎ (is_among c ds ≡ true) → (is_among c ds ≡ true → (k : Method) × (method_on t ds n ≡ Some k) × Stands t k m) → (k : Method) × (method_on t (d ∷ ds) n ≡ Some k) × Stands t k m
      go (inl j) f = (m, ap (λ (z : List ℕ). method_on t (d ∷ z) n) h.0 ∙ (ap (λ (x : ℕ). method_named t x n) (sym (eqb-true c d j)) ∙ q), record { parameters = refl; static = refl; result = assignable_same t m.result })
      go (inr j) f = let k = f j in above k.0 k.1 k.2 (find_split (λ (y : Method). bytes_eq y.name n) (own_methods t d) (flat_map (own_methods t) ds))

  -- a method is declared in a class of the line where it is found
  on_line : ((c : ℕ) (m : Method) → IsOneOf m (own_methods t c) → m.class ≡ c) → (c : ℕ) (n : List ℕ) (m : Method) → method_named t c n ≡ Some m → (is_below t c m.class ≡ true) × (m.name ≡ n)
  on_line own c n m q =
      let found = found_one (λ (y : Method). bytes_eq y.name n) m (flat_map (own_methods t) (line_of t c)) q in
      let part = one_part m (own_methods t) (line_of t c) found.0 in
      (ap (λ (k : ℕ). is_among k (line_of t c)) (own part.0 m part.2) ∙ part.1, names_equal m.name n found.1)

  overrider : (program : Program) → program.table ≡ t → ((c : ℕ) (m : Method) → IsOneOf m (own_methods t c) → m.class ≡ c) → (c : ℕ) (n : List ℕ) (m : Method) (d : ℕ) → method_named t c n ≡ Some m → m.is_static ≡ false → is_below t d c ≡ true → (k : Method) × IsOverrider program d m k
  overrider program e own c n m d q static b =
      let k = stands_below (line_of t d) (chain t rules whole d) c n m b q in
      let here = on_line own c n m q in
      let there = on_line own d n k.0 k.1 in
      let below = ap (λ (x : Table). is_below x d m.class) e ∙ onward t rules whole d c m.class b here.0 in
      let named = ap (λ (x : Table). method_named x d m.name) e ∙ (ap (λ (z : List ℕ). method_named t d z) here.1 ∙ k.1) in (
        k.0,
        record {
          found = ap (λ (x : Bool). if x then method_named program.table d m.name else None) below ∙ named;
          named = named;
          instance = k.2.static ∙ static;
          below = ap (λ (x : Table). is_below x d k.0.class) e ∙ there.0;
          parameters = k.2.parameters;
          result = ap (λ (x : Table). is_assignable x k.0.result m.result) e ∙ k.2.result;
        },
      )

pub class_rules : ClassRulesLaw
class_rules files arrays e =
    let t = table_of files in
    let rules = unbroken t e in
    let whole = table_law files e in
    let program = program_with t arrays in
    record {
      below = onward t rules whole;
      lines = line t rules whole;
      fields = declared t rules whole program refl (own_field files);
      methods = λ c n m q. (on_line t rules whole (own_method files) c n m q).0;
      overridden = λ c n m d q s b. overrider t rules whole program refl (own_method files) c n m d q s b;
    }
