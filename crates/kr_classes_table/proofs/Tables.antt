-- The table of files that break no class rule.
use Rattle.std.proofs.Common.{◌≡◌, refl, sym, ap, subst, inl, inr, ◌⊎◌, ℕ, zero, suc, ◌+◌, ◌<◌, ◌≤◌, Bool, true, false, List, [], ◌∷◌, length, arith, if◌then◌else◌}
use Rattle.std.specs.Prelude.{Option, Some, None, bytes_eq, option_and_then}
use Rattle.std.proofs.lemmas.Option.{same_Some}
use Rattle.kr_base.specs.declared.place.Place.{Place}
use Rattle.kr_base.proofs.ListLemmas.{append_is_nil}
use Rattle.kr_ast.specs.Tree as trees
use Rattle.kr_ast.specs.Tree.{Tree}
use Rattle.kr_classes_table.specs.Table.{Table, Class, Heading, table_of, headings_of, classes_from, class_at, number_from, number_of, class_named, is_number, outer_of, ancestors, is_among, line_within}
use Rattle.kr_classes_table.specs.Rules.{Fault, class_fault, least, each_class, break_if, first_of, C1, C2, C3, C4, C5, C6, C7, C8}
use Rattle.kr_classes_table.specs.Ancestors.{IsAcyclic, IsClosed, TableLaw}
use Rattle.kr_classes_table.proofs.Least.{is_least}
use Rattle.kr_classes_table.proofs.Ancestors.{ancestors_law}

pub bounded_step : (k m c : ℕ) (b : Bool) (o : Option ℕ) → (o ≡ Some c → c < k + 1 + m) → (if b then Some k else o) ≡ Some c → c < k + suc m
bounded_step k m c true o f e = let s : k ≡ c = same_Some k c e in omega (arith, s)
bounded_step k m c false o f e = omega (arith, f e)

-- a number that a name has is that of a heading
pub bounded_from : (k : ℕ) (hs : List Heading) (n : List ℕ) (c : ℕ) → number_from k hs n ≡ Some c → c < k + length hs
bounded_from k [] n c e = absurd (cc (e))
bounded_from k (h ∷ hs) n c e = bounded_step k (length hs) c (bytes_eq h.name n) (number_from (k + 1) hs n) (bounded_from (k + 1) hs n c) e

pub chosen : (b : Bool) (c d : ℕ) → (if b then Some c else None) ≡ Some d → c ≡ d
chosen true c d e = same_Some c d e
chosen false c d e = absurd (cc (e))

pub within : (n : ℕ) (test : ℕ → Bool) (o : Option ℕ) (d : ℕ) → ((c : ℕ) → o ≡ Some c → c < n) → option_and_then (λ c. if test c then Some c else None) o ≡ Some d → d < n
within n test None d f e = absurd (cc (e))
within n test (Some c) d f e = subst (λ x. x < n) (chosen (test c) c d e) (f c refl)

named : (hs : List Heading) (t : Tree) (d : ℕ) → class_named hs t ≡ Some d → d < length hs
named hs (trees.NamedType p n) d e = let b = bounded_from 0 hs n d e in omega (arith, b)
named hs (trees.QualifiedType p o n) d e =
    within (length hs) (λ c. is_number (outer_of hs c) (number_of hs o)) (number_of hs n) d (λ c s. let b = bounded_from 0 hs n c s in omega (arith, b)) e
named hs t d e = absurd (cc (e))

pub long : (all : List Heading) (k : ℕ) (hs : List Heading) → length (classes_from all k hs) ≡ length hs
long all k [] = refl
long all k (h ∷ hs) = ap suc (long all (k + 1) hs)

at_from : (all : List Heading) (k : ℕ) (hs : List Heading) (c d : ℕ) → option_and_then (λ x. x.super) (class_at (classes_from all k hs) c) ≡ Some d → d < length all
at_from all k [] c d e = absurd (cc (e))
at_from all k (h ∷ hs) zero d e = named all h.extended d e
at_from all k (h ∷ hs) (suc c) d e = at_from all (k + 1) hs c d e

closed : (files : List Tree) → IsClosed (table_of files)
unfolding table_of
closed files c d e = let hs = headings_of files in subst (λ n. d < n) (sym (long hs 0 hs)) (at_from hs 0 hs c d e)

pub first_none : (x : Option Fault) (os : List (Option Fault)) → first_of (x ∷ os) ≡ None → x ≡ None
first_none None os e = refl
first_none (Some f) os e = absurd (cc (e))

third_none : (x y z : Option Fault) (os : List (Option Fault)) → first_of (x ∷ y ∷ z ∷ os) ≡ None → z ≡ None
third_none None None None os e = refl
third_none None None (Some f) os e = absurd (cc (e))
third_none None (Some f) z os e = absurd (cc (e))
third_none (Some f) y z os e = absurd (cc (e))

pub unbroken : (b : Bool) (r : ℕ) (p : Place) → break_if b r p ≡ [] → b ≡ false
unbroken true r p e = absurd (cc (e))
unbroken false r p e = refl

at_or_behind : (k c : ℕ) → k ≤ c → (k ≡ c) ⊎ (k + 1 ≤ c)
at_or_behind k c l = grind (arith, l)

each : (t : Table) (k : ℕ) (ds : List Class) (c : ℕ) → each_class (C3 t) k ds ≡ [] → k ≤ c → c < k + length ds → is_among c (ancestors t c) ≡ false
each t k [] c e l m = absurd (omega (arith, l, m))
each t k (d ∷ ds) c e l m =
    let parts = append_is_nil (C3 t k d) (each_class (C3 t) (k + 1) ds) e in
    elim (at_or_behind k c l) [
      | inl s ↦ subst (λ x. is_among x (ancestors t x) ≡ false) s (unbroken (is_among k (ancestors t k)) 3 d.place parts.0)
      | inr b ↦ each t (k + 1) ds c parts.1 b (omega (arith, m))
    ]

-- a number past the table has no superclass
pub past : (ds : List Class) (c : ℕ) → length ds ≤ c → class_at ds c ≡ None
past [] c l = refl
past (d ∷ ds) zero l = absurd (omega (arith, l))
past (d ∷ ds) (suc c) l = past ds c (omega (arith, l))

pub no_line : (n : ℕ) (t : Table) (c : ℕ) → is_among c (line_within n t None) ≡ false
no_line zero t c = refl
no_line (suc n) t c = refl

inside_or_past : (c n : ℕ) → (c < n) ⊎ (n ≤ c)
inside_or_past c n = grind arith

acyclic : (t : Table) → class_fault t ≡ None → IsAcyclic t
unfolding class_fault
acyclic t e c =
    let rule : (Table → ℕ → Class → List Fault) → Option Fault = λ r. least (each_class (r t) 0 t.classes) in
    let none : rule C3 ≡ None = third_none (least (C1 t)) (rule C2) (rule C3) (rule C4 ∷ rule C5 ∷ rule C6 ∷ rule C7 ∷ rule C8 ∷ []) e in
    let unbroken_all : each_class (C3 t) 0 t.classes ≡ [] = (is_least (each_class (C3 t) 0 t.classes)).none none in
    elim (inside_or_past c (length t.classes)) [
      | inl b ↦ each t 0 t.classes c unbroken_all (omega arith) (omega (arith, b))
      | inr b ↦ subst (λ o. is_among c (line_within (length t.classes) t o) ≡ false) (sym (ap (λ o. option_and_then (λ x. x.super) o) (past t.classes c b))) (no_line (length t.classes) t c)
    ]

pub table_law : TableLaw
table_law files e = ancestors_law (table_of files) (acyclic (table_of files) e) (closed files)
