-- The class rules in a table with one class more.
use Rattle.std.proofs.Common.{◌≡◌, refl, sym, ap, ◌∙◌, subst, ℕ, zero, suc, ◌+◌, ◌-◌, ◌≤◌, true, false, not, ◌&&◌, ◌||◌, List, [], ◌∷◌, ◌++◌, length, map, drop, nat_lt, arith, Option, Some, None, if◌then◌else◌}
use Rattle.std.specs.Prelude.{bytes_eq, codes, flat_map, option_to_list}
use Rattle.std.specs.List.{AllByRecursion}
use Rattle.std.proofs.lemmas.Bool.{or_from}
use Rattle.std.proofs.lemmas.Bool.Decides.{nat_tests}
use Rattle.kr_base.specs.declared.place.Place.{Place}
use Rattle.kr_base.proofs.ListLemmas.{append_is_nil}
use Rattle.kr_classes_table.specs.Types.{is_same, is_reference}
use Rattle.kr_classes_table.specs.Table.{Heading, Table, Class, Field, Method, Constructor, line_within, ancestors, is_among, own_fields, method_on, fields_of, classes_from}
use Rattle.kr_classes_table.specs.Rules.{Fault, break_if, each_class, least, first_of, is_name_among, repeated, same_types, overrides, inherited, result_fits, past, own_instance_fields, C1, C2, C3, C4, C5, C6, C7, C8, class_fault}
use Rattle.kr_classes_table.specs.Ancestors.{IsAcyclic, IsClosed}
use Rattle.kr_classes_table.proofs.Least.{is_least}
use Rattle.kr_laws_never_stuck.proofs.Unbroken.{AllNone, all_none}
use Rattle.kr_emit_laws.specs.Larger.{IsLarger}
use Rattle.kr_emit_laws.proofs.TypingNames.{IsFree}
use Rattle.kr_emit_laws.proofs.TypingLines.{each_same, IsPlain, ancestors_same, line_fields_same, fields_of_same, inherited_same}
use Rattle.kr_emit_laws.proofs.Rules.{assignable_same}

-- ---- rules that none breaks

none_first : (fs : List (Option Fault)) → AllNone fs → first_of fs ≡ None
none_first [] h = refl
none_first (None ∷ fs) h = none_first fs h.1
none_first (Some f ∷ fs) h = absurd (cc (h.0))

pub record AreUnbroken (t : Table) : Type 0 where
  pub C1 : C1 t ≡ []
  pub C2 : each_class (C2 t) 0 t.classes ≡ []
  pub C3 : each_class (C3 t) 0 t.classes ≡ []
  pub C4 : each_class (C4 t) 0 t.classes ≡ []
  pub C5 : each_class (C5 t) 0 t.classes ≡ []
  pub C6 : each_class (C6 t) 0 t.classes ≡ []
  pub C7 : each_class (C7 t) 0 t.classes ≡ []
  pub C8 : each_class (C8 t) 0 t.classes ≡ []

none_least : (fs : List Fault) → least fs ≡ None → fs ≡ []
none_least fs e = (is_least fs).none e

pub unbroken : (t : Table) → class_fault t ≡ None → AreUnbroken t
unfolding class_fault
unbroken t e =
    let all = all_none (least (C1 t) ∷ least (each_class (C2 t) 0 t.classes) ∷ least (each_class (C3 t) 0 t.classes) ∷ least (each_class (C4 t) 0 t.classes) ∷ least (each_class (C5 t) 0 t.classes) ∷ least (each_class (C6 t) 0 t.classes) ∷ least (each_class (C7 t) 0 t.classes) ∷ least (each_class (C8 t) 0 t.classes) ∷ []) e in
    record {
      C1 = none_least _ all.0;
      C2 = none_least _ all.1.0;
      C3 = none_least _ all.1.1.0;
      C4 = none_least _ all.1.1.1.0;
      C5 = none_least _ all.1.1.1.1.0;
      C6 = none_least _ all.1.1.1.1.1.0;
      C7 = none_least _ all.1.1.1.1.1.1.0;
      C8 = none_least _ all.1.1.1.1.1.1.1.0;
    }

pub accepted : (t : Table) → AreUnbroken t → class_fault t ≡ None
unfolding class_fault
accepted t h =
    none_first (least (C1 t) ∷ least (each_class (C2 t) 0 t.classes) ∷ least (each_class (C3 t) 0 t.classes) ∷ least (each_class (C4 t) 0 t.classes) ∷ least (each_class (C5 t) 0 t.classes) ∷ least (each_class (C6 t) 0 t.classes) ∷ least (each_class (C7 t) 0 t.classes) ∷ least (each_class (C8 t) 0 t.classes) ∷ [])
    (ap least h.C1, (ap least h.C2, (ap least h.C3, (ap least h.C4, (ap least h.C5, (ap least h.C6, (ap least h.C7, (ap least h.C8, tt))))))))

-- ---- one class more

each_more : (rule other : ℕ → Class → List Fault) (k : ℕ) (ds : List Class) (d : Class) → each_class rule k ds ≡ [] → ((c : ℕ) (x : Class) → other c x ≡ rule c x) → other (k + length ds) d ≡ [] → each_class other k (ds ++ d ∷ []) ≡ []
each_more rule other k [] d e h f = let z : k + 0 ≡ k = omega arith in ap (λ xs. xs ++ []) (subst (λ (j : ℕ). other j d ≡ []) z f)
each_more rule other k (x ∷ ds) d e h f =
    let parts = append_is_nil (rule k x) (each_class rule (k + 1) ds) e in
    let z : k + suc (length ds) ≡ k + 1 + length ds = omega arith in
    ap (λ xs. xs ++ each_class other (k + 1) (ds ++ d ∷ [])) (h k x ∙ parts.0) ∙ each_more rule other (k + 1) ds d parts.1 h (subst (λ (j : ℕ). other j d ≡ []) z f)

each_nil : {A B : Type 0} (f : A → List B) (xs : List A) → ((x : A) → f x ≡ []) → flat_map f xs ≡ []
each_nil f [] h = refl
each_nil f (x ∷ xs) h = ap (λ z. z ++ flat_map f xs) (h x) ∙ each_nil f xs h

-- ---- names

repeated_more : (r : ℕ) (seen : List (List ℕ)) (xs : List (List ℕ × Place)) (n : List ℕ) (p : Place) → repeated r seen xs ≡ [] → is_name_among n seen ≡ false → AllByRecursion (λ (x : List ℕ × Place). bytes_eq n x.0 ≡ false) xs → repeated r seen (xs ++ (n, p) ∷ []) ≡ []
repeated_more r seen [] n p e f h = ap (λ b. break_if b r p ++ []) f
repeated_more r seen ((m, q) ∷ xs) n p e f h =
    let parts = append_is_nil (break_if (is_name_among m seen) r q) (repeated r (m ∷ seen) xs) e in
    ap (λ z. z ++ repeated r (m ∷ seen) (xs ++ (n, p) ∷ [])) parts.0 ∙ repeated_more r (m ∷ seen) xs n p parts.1 (or_from (bytes_eq n m) (is_name_among n seen) h.0 f) h.1

abbrev named_at : Class → List ℕ × Place
named_at d = (d.name, d.place)

all_names : (w : List ℕ) (all : List Heading) (k : ℕ) (hs : List Heading) → AllByRecursion (λ h. bytes_eq w h.name ≡ false) hs → AllByRecursion (λ (x : List ℕ × Place). bytes_eq w x.0 ≡ false) (map named_at (classes_from all k hs))
all_names w all k [] h = tt
all_names w all k (x ∷ hs) h = (h.0, all_names w all (k + 1) hs h.1)

map_more : (ds : List Class) (d : Class) → map named_at (ds ++ d ∷ []) ≡ map named_at ds ++ named_at d ∷ []
map_more [] d = refl
map_more (x ∷ ds) d = ap (λ z. named_at x ∷ z) (map_more ds d)

past_none : (k : ℕ) → past k [] ≡ []
past_none zero = refl
past_none (suc k) = refl

module _ (t u : Table) (w : List ℕ) (free : IsFree w) (g : IsLarger t u w) (d : Class) (more : u.classes ≡ t.classes ++ d ∷ []) (plain : IsPlain d) (acyclic : IsAcyclic t) (closed : IsClosed t) where
  C3_same : (c : ℕ) (x : Class) → C3 u c x ≡ C3 t c x
  C3_same c x = ap (λ z. break_if (is_among c z) 3 x.place) (ancestors_same t u d more plain acyclic closed c)

  C4_same : (c : ℕ) (x : Class) → C4 u c x ≡ C4 t c x
  C4_same c x =
      ap (λ z. repeated 4 (map (λ (f : Field). f.name) z) (map (λ (f : Field). (f.name, f.place)) x.fields) ++ flat_map (λ (k : Constructor). break_if true 4 k.place) (drop 1 x.constructors))
      (ap (flat_map (own_fields u)) (ancestors_same t u d more plain acyclic closed c) ∙ line_fields_same t u d more plain acyclic closed (ancestors t c))

  inherits_same : (c : ℕ) (m : Method) → inherited u c m ≡ inherited t c m
  inherits_same c m = ap option_to_list (inherited_same t u d more plain acyclic closed c m.name)

  C5_same : (c : ℕ) (x : Class) → C5 u c x ≡ C5 t c x
  C5_same c x =
      ap (λ z. repeated 5 [] (map (λ (m : Method). (m.name, m.place)) x.methods) ++ z)
      (each_same (overrides u c 5 (λ m above. same_types m.parameters above.parameters)) (overrides t c 5 (λ m above. same_types m.parameters above.parameters)) x.methods
      (λ m. ap (flat_map (λ (above : Method). break_if (not (same_types m.parameters above.parameters)) 5 m.place)) (inherits_same c m)))

  fits_same : (m above : Method) → result_fits u m.result above.result ≡ result_fits t m.result above.result
  fits_same m above = ap (λ z. is_same m.result above.result || (is_reference m.result && is_reference above.result && z)) (assignable_same t u w free g m.result above.result)

  C7_same : (c : ℕ) (x : Class) → C7 u c x ≡ C7 t c x
  C7_same c x =
      each_same (overrides u c 7 (λ m above. (if m.is_static then above.is_static else not above.is_static) && result_fits u m.result above.result)) (overrides t c 7 (λ m above. (if m.is_static then above.is_static else not above.is_static) && result_fits t m.result above.result)) x.methods
      (λ m. ap (flat_map (λ (above : Method). break_if (not ((if m.is_static then above.is_static else not above.is_static) && result_fits u m.result above.result)) 7 m.place)) (inherits_same c m)
      ∙ each_same (λ (above : Method). break_if (not ((if m.is_static then above.is_static else not above.is_static) && result_fits u m.result above.result)) 7 m.place) (λ (above : Method). break_if (not ((if m.is_static then above.is_static else not above.is_static) && result_fits t m.result above.result)) 7 m.place) (inherited t c m)
      (λ above. ap (λ z. break_if (not ((if m.is_static then above.is_static else not above.is_static) && z)) 7 m.place) (fits_same m above)))

  C8_same : (c : ℕ) (x : Class) → C8 u c x ≡ C8 t c x
  C8_same c x = ap (λ z. break_if (nat_lt 76 c) 8 x.place ++ past (32 - (length z - length (own_instance_fields x))) (own_instance_fields x)) (fields_of_same t u d more plain acyclic closed c)

  -- ---- the new class

  none_above : ancestors t (length t.classes) ≡ []
  none_above =
      ap (line_within (length t.classes) t) (ap (Rattle.std.specs.Prelude.option_and_then (λ (x : Class). x.super)) (Rattle.kr_classes_table.proofs.Tables.past t.classes (length t.classes) (omega arith))) ∙ none_within (length t.classes)
    where
      none_within : (k : ℕ) → line_within k t None ≡ []
      none_within zero = refl
      none_within (suc k) = refl

  none_inherited : (m : Method) → inherited u (length t.classes) m ≡ []
  none_inherited m = inherits_same (length t.classes) m ∙ ap (λ cs. option_to_list (method_on t cs m.name)) none_above

  C3_new : C3 u (length t.classes) d ≡ []
  C3_new = C3_same (length t.classes) d ∙ ap (λ b. break_if b 3 d.place) (acyclic (length t.classes))

  C4_new : C4 u (length t.classes) d ≡ []
  C4_new =
      ap (λ z. repeated 4 (map (λ (f : Field). f.name) (flat_map (own_fields u) (ancestors u (length t.classes)))) (map (λ (f : Field). (f.name, f.place)) z) ++ flat_map (λ (k : Constructor). break_if true 4 k.place) (drop 1 d.constructors)) plain.fields
      ∙ ap (λ z. flat_map (λ (k : Constructor). break_if true 4 k.place) (drop 1 z)) plain.constructors

  C5_new : repeated 5 [] (map (λ (m : Method). (m.name, m.place)) d.methods) ≡ [] → C5 u (length t.classes) d ≡ []
  C5_new e =
      ap (λ z. z ++ flat_map (overrides u (length t.classes) 5 (λ m above. same_types m.parameters above.parameters)) d.methods) e
      ∙ each_nil (overrides u (length t.classes) 5 (λ m above. same_types m.parameters above.parameters)) d.methods (λ m. ap (flat_map (λ (above : Method). break_if (not (same_types m.parameters above.parameters)) 5 m.place)) (none_inherited m))

  C7_new : C7 u (length t.classes) d ≡ []
  C7_new =
      each_nil (overrides u (length t.classes) 7 (λ m above. (if m.is_static then above.is_static else not above.is_static) && result_fits u m.result above.result)) d.methods
      (λ m. ap (flat_map (λ (above : Method). break_if (not ((if m.is_static then above.is_static else not above.is_static) && result_fits u m.result above.result)) 7 m.place)) (none_inherited m))

  C8_new : length t.classes ≤ 76 → C8 u (length t.classes) d ≡ []
  C8_new l =
      let few : nat_lt 76 (length t.classes) ≡ false = grind (arith, nat_tests) in
      ap (λ b. break_if b 8 d.place ++ past (32 - (length (fields_of u (length t.classes)) - length (own_instance_fields d))) (own_instance_fields d)) few
      ∙ (ap (λ (fs : List Field). past (32 - (length (fields_of u (length t.classes)) - length (flat_map (λ (f : Field). if f.is_static then [] else f ∷ []) fs))) (flat_map (λ (f : Field). if f.is_static then [] else f ∷ []) fs)) plain.fields
      ∙ past_none (32 - (length (fields_of u (length t.classes)) - length {A = Field} [])))

  pub unbroken_more : (hs : List Heading) → t.classes ≡ classes_from hs 0 hs → AllByRecursion (λ h. bytes_eq d.name h.name ≡ false) hs → bytes_eq d.name (codes "HashSet") ≡ false → bytes_eq d.name (codes "LinkedList") ≡ false
      → length t.classes ≤ 76 → C2 u (length t.classes) d ≡ [] → repeated 5 [] (map (λ (m : Method). (m.name, m.place)) d.methods) ≡ [] → C6 u (length t.classes) d ≡ [] → AreUnbroken t → AreUnbroken u
  unbroken_more hs is names set list few extends methods own h =
      let zero_n : 0 + length t.classes ≡ length t.classes = omega arith in
      let at_n : (rule : ℕ → Class → List Fault) → rule (length t.classes) d ≡ [] → rule (0 + length t.classes) d ≡ [] = λ rule e. subst (λ (j : ℕ). rule j d ≡ []) (sym zero_n) e in
      let one_after : (rule other : ℕ → Class → List Fault) → each_class rule 0 t.classes ≡ [] → ((c : ℕ) (x : Class) → other c x ≡ rule c x) → other (length t.classes) d ≡ [] → each_class other 0 u.classes ≡ [] =
      λ rule other e s f. subst (λ (ds : List Class). each_class other 0 ds ≡ []) (sym more) (each_more rule other 0 t.classes d e s (at_n other f)) in
      record {
        C1 = ap (λ (ds : List Class). repeated 1 (codes "HashSet" ∷ codes "LinkedList" ∷ []) (map named_at ds)) more
            ∙ (ap (repeated 1 (codes "HashSet" ∷ codes "LinkedList" ∷ [])) (map_more t.classes d)
            ∙ repeated_more 1 (codes "HashSet" ∷ codes "LinkedList" ∷ []) (map named_at t.classes) d.name d.place h.C1 (or_from (bytes_eq d.name (codes "HashSet")) (bytes_eq d.name (codes "LinkedList") || false) set (or_from (bytes_eq d.name (codes "LinkedList")) false list refl))
            (subst (λ (ds : List Class). AllByRecursion (λ (x : List ℕ × Place). bytes_eq d.name x.0 ≡ false) (map named_at ds)) (sym is) (all_names d.name hs 0 hs names)));
        C2 = one_after (C2 t) (C2 u) h.C2 (λ c x. refl) extends;
        C3 = one_after (C3 t) (C3 u) h.C3 C3_same C3_new;
        C4 = one_after (C4 t) (C4 u) h.C4 C4_same C4_new;
        C5 = one_after (C5 t) (C5 u) h.C5 C5_same (C5_new methods);
        C6 = one_after (C6 t) (C6 u) h.C6 (λ c x. refl) own;
        C7 = one_after (C7 t) (C7 u) h.C7 C7_same C7_new;
        C8 = one_after (C8 t) (C8 u) h.C8 C8_same (C8_new few);
      }
