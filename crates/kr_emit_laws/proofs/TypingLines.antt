-- Lines of classes in a table with one class more, which extends nothing and has nothing but methods.
use Rattle.std.proofs.Common.{◌≡◌, refl, sym, ap, ◌∙◌, subst, inl, inr, ℕ, zero, suc, ◌<◌, ◌≤◌, true, false, ◌||◌, nat_eq, List, [], ◌∷◌, ◌++◌, length, rules, arith, length-append, Option, Some, None}
use Rattle.std.specs.Prelude.{option_and_then, option_to_list, flat_map, find, bytes_eq, reverse}
use Rattle.std.specs.List.{list_any, IsDistinct, AllByRecursion}
use Rattle.std.proofs.lemmas.Map.Steps.{length-le_from_distinct_below}
use Rattle.std.proofs.lemmas.Bool.{cases_lt, eqb-true, false_from_ne_true, or_cases, or_left, or_parts, or_right}
use Rattle.kr_classes_table.specs.Table.{Table, Class, Field, Method, number_of, class_at, super_of, line_within, ancestors, line_of, is_among, is_below, own_fields, own_methods, field_on, field_named, method_on, method_named, fields_of, is_instance}
use Rattle.kr_classes_table.specs.Constants.{outer_class}
use Rattle.kr_classes_table.specs.Ancestors.{IsAcyclic, IsClosed}
use Rattle.kr_classes_table.proofs.Tables.{past}
use Rattle.kr_emit_laws.specs.Larger.{AreNames, IsLarger}

-- ---- a class by its number

pub at_same : (ds : List Class) (d : Class) (c : ℕ) → c < length ds → class_at (ds ++ d ∷ []) c ≡ class_at ds c
at_same [] d c l = absurd (omega (arith, l))
at_same (x ∷ ds) d zero l = refl
at_same (x ∷ ds) d (suc c) l = at_same ds d c (omega (arith, l))

-- of what the new one has none
none_more : (f : Class → Option ℕ) (ds : List Class) (d : Class) (c : ℕ) → f d ≡ None → option_and_then f (class_at (ds ++ d ∷ []) c) ≡ option_and_then f (class_at ds c)
none_more f [] d zero e = e
none_more f [] d (suc c) e = refl
none_more f (x ∷ ds) d zero e = refl
none_more f (x ∷ ds) d (suc c) e = none_more f ds d c e

no_more : {A : Type 0} (f : Class → List A) (ds : List Class) (d : Class) (c : ℕ) → f d ≡ [] → flat_map f (option_to_list (class_at (ds ++ d ∷ []) c)) ≡ flat_map f (option_to_list (class_at ds c))
no_more f [] d zero e = ap (λ z. z ++ []) e
no_more f [] d (suc c) e = refl
no_more f (x ∷ ds) d zero e = refl
no_more f (x ∷ ds) d (suc c) e = no_more f ds d c e

pub each_same : {A B : Type 0} (f g : A → List B) (xs : List A) → ((x : A) → f x ≡ g x) → flat_map f xs ≡ flat_map g xs
each_same f g [] h = refl
each_same f g (x ∷ xs) h = ap (λ z. z ++ flat_map f xs) (h x) ∙ ap (λ z. g x ++ z) (each_same f g xs h)

-- ---- lines that aren't cut

-- one of a line is one of a longer line
longer : (j k : ℕ) (t : Table) (o : Option ℕ) (d : ℕ) → j ≤ k → is_among d (line_within j t o) ≡ true → is_among d (line_within k t o) ≡ true
longer zero k t o d l h = absurd (cc (h))
longer (suc j) zero t o d l h = absurd (omega (arith, l))
longer (suc j) (suc k) t None d l h = absurd (cc (h))
longer (suc j) (suc k) t (Some c) d l h = elim (or_cases (nat_eq d c) (is_among d (line_within j t (super_of t c))) h) [
  | inl e ↦ or_left (nat_eq d c) (is_among d (line_within k t (super_of t c))) e
  | inr e ↦ or_right (nat_eq d c) (is_among d (line_within k t (super_of t c))) (longer j k t (super_of t c) d (omega (arith, l)) e)
]

-- a line that has fewer than it may have isn't cut
uncut : (k : ℕ) (t : Table) (o : Option ℕ) → length (line_within (suc k) t o) ≤ k → line_within (suc k) t o ≡ line_within k t o
uncut zero t None l = refl
uncut zero t (Some c) l = absurd (omega (arith, l))
uncut (suc k) t None l = refl
uncut (suc k) t (Some c) l = ap (λ xs. c ∷ xs) (uncut k t (super_of t c) (omega (arith, l)))

others : (c : ℕ) (xs : List ℕ) → is_among c xs ≡ false → AllByRecursion (λ y. nat_eq c y ≡ false) xs
others c [] e = _
others c (x ∷ xs) e = let parts = or_parts (nat_eq c x) (is_among c xs) e in (parts.0, others c xs parts.1)

distinct : (n k : ℕ) (t : Table) (o : Option ℕ) → ((j c : ℕ) → j ≤ n → is_among c (line_within j t (super_of t c)) ≡ false) → k ≤ suc n → IsDistinct nat_eq (line_within k t o)
unfolding IsDistinct
distinct n zero t o a l = _
distinct n (suc k) t None a l = _
distinct n (suc k) t (Some c) a l = (others c (line_within k t (super_of t c)) (a k c (omega (arith, l))), distinct n k t (super_of t c) a (omega (arith, l)))

inside : (k : ℕ) (t : Table) (o : Option ℕ) → ((x : ℕ) → o ≡ Some x → x < length t.classes) → IsClosed t → (q : ℕ) → is_among q (line_within k t o) ≡ true → q < length t.classes
inside zero t o b z q h = absurd (cc (h))
inside (suc k) t None b z q h = absurd (cc (h))
inside (suc k) t (Some c) b z q h = elim (or_cases (nat_eq q c) (is_among q (line_within k t (super_of t c))) h) [
  | inl p ↦ subst (λ x. x < length t.classes) (sym (eqb-true q c p)) (b c refl)
  | inr p ↦ inside k t (super_of t c) (z c) z q p
]

as_any : (q : ℕ) (xs : List ℕ) → list_any (nat_eq q) xs ≡ is_among q xs
as_any q [] = refl
as_any q (x ∷ xs) = ap (λ b. nat_eq q x || b) (as_any q xs)

whole_line : (t : Table) (c : ℕ) → IsAcyclic t → IsClosed t → line_within (suc (length t.classes)) t (super_of t c) ≡ ancestors t c
whole_line t c acyclic closed =
    let n = length t.classes in
    let o = super_of t c in
    let apart : (j x : ℕ) → j ≤ n → is_among x (line_within j t (super_of t x)) ≡ false = λ j x l. false_from_ne_true _ (λ b. absurd (cc (acyclic x, longer j n t (super_of t x) x l b))) in
    uncut n t o (length-le_from_distinct_below (line_within (suc n) t o) n (distinct n (suc n) t o apart (omega arith)) (λ q b. inside (suc n) t o (closed c) closed q (sym (as_any q (line_within (suc n) t o)) ∙ b)))

-- ---- two tables

-- a class that has nothing but methods
pub record IsPlain (d : Class) : Type 0 where
  pub super : d.super ≡ None
  pub outer : d.outer ≡ None
  pub fields : d.fields ≡ []
  pub constructors : d.constructors ≡ []

module _ (t u : Table) (d : Class) (more : u.classes ≡ t.classes ++ d ∷ []) (plain : IsPlain d) (acyclic : IsAcyclic t) (closed : IsClosed t) where
  pub super_same : (c : ℕ) → super_of u c ≡ super_of t c
  super_same c = ap (λ ds. option_and_then (λ (x : Class). x.super) (class_at ds c)) more ∙ none_more (λ x. x.super) t.classes d c plain.super

  pub outer_same : (c : ℕ) → outer_class u c ≡ outer_class t c
  outer_same c = ap (λ ds. option_and_then (λ (x : Class). x.outer) (class_at ds c)) more ∙ none_more (λ x. x.outer) t.classes d c plain.outer

  pub constructors_same : (c : ℕ) → flat_map (λ (x : Class). x.constructors) (option_to_list (class_at u.classes c)) ≡ flat_map (λ (x : Class). x.constructors) (option_to_list (class_at t.classes c))
  constructors_same c = ap (λ ds. flat_map (λ (x : Class). x.constructors) (option_to_list (class_at ds c))) more ∙ no_more (λ x. x.constructors) t.classes d c plain.constructors

  pub own_fields_same : (c : ℕ) → own_fields u c ≡ own_fields t c
  own_fields_same c = ap (λ ds. flat_map (λ (x : Class). x.fields) (option_to_list (class_at ds c))) more ∙ no_more (λ x. x.fields) t.classes d c plain.fields

  line_same : (k : ℕ) (o : Option ℕ) → line_within k u o ≡ line_within k t o
  line_same zero o = refl
  line_same (suc k) None = refl
  line_same (suc k) (Some c) = ap (λ xs. c ∷ xs) (ap (line_within k u) (super_same c) ∙ line_same k (super_of t c))

  one_more : length u.classes ≡ suc (length t.classes)
  one_more = let e : length (t.classes ++ d ∷ []) ≡ suc (length t.classes) = omega (arith, length-append t.classes (d ∷ [])) in ap length more ∙ e

  pub ancestors_same : (c : ℕ) → ancestors u c ≡ ancestors t c
  ancestors_same c = ap (λ k. line_within k u (super_of u c)) one_more ∙ (ap (line_within (suc (length t.classes)) u) (super_same c) ∙ (line_same (suc (length t.classes)) (super_of t c) ∙ whole_line t c acyclic closed))

  pub lines_same : (c : ℕ) → line_of u c ≡ line_of t c
  lines_same c = ap (λ xs. c ∷ xs) (ancestors_same c)

  pub below_same : (c e : ℕ) → is_below u c e ≡ is_below t c e
  below_same c e = ap (is_among e) (lines_same c)

  -- ---- fields

  pub line_fields_same : (cs : List ℕ) → flat_map (own_fields u) cs ≡ flat_map (own_fields t) cs
  line_fields_same cs = each_same (own_fields u) (own_fields t) cs own_fields_same

  pub fields_same : (c : ℕ) (n : List ℕ) → field_named u c n ≡ field_named t c n
  fields_same c n = ap (λ cs. field_on u cs n) (lines_same c) ∙ ap (find (λ (f : Field). bytes_eq f.name n)) (line_fields_same (line_of t c))

  pub fields_of_same : (c : ℕ) → fields_of u c ≡ fields_of t c
  fields_of_same c = ap (λ cs. flat_map is_instance (flat_map (own_fields u) (reverse cs))) (lines_same c) ∙ ap (flat_map is_instance) (line_fields_same (reverse (line_of t c)))

  -- ---- methods

  own_methods_same : (c : ℕ) → c < length t.classes → own_methods u c ≡ own_methods t c
  own_methods_same c l = ap (λ ds. flat_map (λ (x : Class). x.methods) (option_to_list (class_at ds c))) more ∙ ap (λ o. flat_map (λ (x : Class). x.methods) (option_to_list o)) (at_same t.classes d c l)

  line_methods_same : (cs : List ℕ) → ((q : ℕ) → is_among q cs ≡ true → q < length t.classes) → flat_map (own_methods u) cs ≡ flat_map (own_methods t) cs
  line_methods_same [] h = refl
  line_methods_same (c ∷ cs) h =
      ap (λ z. z ++ flat_map (own_methods u) cs) (own_methods_same c (h c (or_left (nat_eq c c) (is_among c cs) (grind (arith, rules)))))
      ∙ ap (λ z. own_methods t c ++ z) (line_methods_same cs (λ q e. h q (or_right (nat_eq q c) (is_among q cs) e)))

  above_inside : (c q : ℕ) → is_among q (ancestors t c) ≡ true → q < length t.classes
  above_inside c q e = inside (length t.classes) t (super_of t c) (closed c) closed q e

  pub inherited_same : (c : ℕ) (n : List ℕ) → method_on u (ancestors u c) n ≡ method_on t (ancestors t c) n
  inherited_same c n = ap (λ cs. method_on u cs n) (ancestors_same c) ∙ ap (find (λ (m : Method). bytes_eq m.name n)) (line_methods_same (ancestors t c) (above_inside c))

  pub methods_same : (c : ℕ) (n : List ℕ) → c < length t.classes → method_named u c n ≡ method_named t c n
  methods_same c n l = ap (λ cs. method_on u cs n) (lines_same c) ∙ ap (find (λ (m : Method). bytes_eq m.name n)) (line_methods_same (line_of t c) here)
    where
      here : (q : ℕ) → is_among q (line_of t c) ≡ true → q < length t.classes
      here q e = elim (or_cases (nat_eq q c) (is_among q (ancestors t c)) e) [ inl p ↦ subst (λ x. x < length t.classes) (sym (eqb-true q c p)) l | inr p ↦ above_inside c q p ]

  none_within : (k : ℕ) → line_within k t None ≡ []
  none_within zero = refl
  none_within (suc k) = refl

  no_methods : (c : ℕ) (n : List ℕ) → length t.classes ≤ c → method_named t c n ≡ None
  no_methods c n l =
      let gone = past t.classes c l in
      ap (λ cs. method_on t (c ∷ cs) n) (ap (λ o. line_within (length t.classes) t (option_and_then (λ (x : Class). x.super) o)) gone ∙ none_within (length t.classes))
      ∙ ap (λ o. find (λ (m : Method). bytes_eq m.name n) (flat_map (λ (x : Class). x.methods) (option_to_list o) ++ [])) gone

  pub methods_kept : (c : ℕ) (n : List ℕ) (m : Method) → method_named t c n ≡ Some m → method_named u c n ≡ Some m
  methods_kept c n m e = elim (cases_lt c (length t.classes)) [ inl l ↦ methods_same c n l ∙ e | inr l ↦ absurd (cc (no_methods c n l, e)) ]

  inner_none : (c o : ℕ) (n : List ℕ) → outer_class t c ≡ Some o → method_named t c n ≡ None → method_named u c n ≡ None
  inner_none c o n e f = elim (cases_lt c (length t.classes)) [
    | inl l ↦ methods_same c n l ∙ f
    | inr l ↦ absurd (cc (ap (option_and_then (λ (x : Class). x.outer)) (past t.classes c l), e))
  ]

  no_fields : (c : ℕ) (n : List ℕ) → length t.classes ≤ c → field_named t c n ≡ None
  no_fields c n l =
      let gone = past t.classes c l in
      ap (λ cs. field_on t (c ∷ cs) n) (ap (λ o. line_within (length t.classes) t (option_and_then (λ (x : Class). x.super) o)) gone ∙ none_within (length t.classes))
      ∙ ap (λ o. find (λ (f : Field). bytes_eq f.name n) (flat_map (λ (x : Class). x.fields) (option_to_list o) ++ [])) gone

  pub larger : (name : List ℕ) → AreNames t.headings u.headings name → ((n : List ℕ) (k : ℕ) → number_of t.headings n ≡ None → number_of u.headings n ≡ Some k → length t.classes ≤ k) → IsLarger t u name
  larger name names fresh = record {
    names = names;
    super = super_same;
    outer = outer_same;
    below = below_same;
    constructors = constructors_same;
    fields = fields_same;
    methods = methods_kept;
    inner = inner_none;
    fresh = λ n k m e f. fields_same k m ∙ no_fields k m (fresh n k e f);
  }
