-- In files that break no class rule lines of classes end, and superclasses are classes.
use Rattle.std.proofs.Common.{◌≡◌, sym, ap, ◌∙◌, subst, inl, inr, ◌⊎◌, ℕ, zero, suc, ◌+◌, ◌<◌, ◌≤◌, false, List, [], ◌∷◌, length, arith, Some}
use Rattle.std.specs.Prelude.{option_and_then}
use Rattle.std.proofs.lemmas.Bool.{cases_lt}
use Rattle.kr_base.proofs.ListLemmas.{append_is_nil}
use Rattle.kr_ast.specs.Tree as trees
use Rattle.kr_ast.specs.Tree.{Tree}
use Rattle.kr_classes_table.specs.Table.{Table, Class, Heading, classes_from, class_at, number_of, class_named, is_number, outer_of, ancestors, is_among, line_within}
use Rattle.kr_classes_table.specs.Rules.{each_class, C3}
use Rattle.kr_classes_table.specs.Ancestors.{IsAcyclic, IsClosed}
use Rattle.kr_classes_table.proofs.Tables.{bounded_from, within, long, no_line, past, unbroken}

named : (hs : List Heading) (t : Tree) (d : ℕ) → class_named hs t ≡ Some d → d < length hs
named hs (trees.NamedType p n) d e = let b = bounded_from 0 hs n d e in omega (arith, b)
named hs (trees.QualifiedType p o n) d e =
    within (length hs) (λ c. is_number (outer_of hs c) (number_of hs o)) (number_of hs n) d (λ c s. let b = bounded_from 0 hs n c s in omega (arith, b)) e
named hs t d e = absurd (cc (e))

at_from : (all : List Heading) (k : ℕ) (hs : List Heading) (c d : ℕ) → option_and_then (λ (x : Class). x.super) (class_at (classes_from all k hs) c) ≡ Some d → d < length all
at_from all k [] c d e = absurd (cc (e))
at_from all k (h ∷ hs) zero d e = named all h.extended d e
at_from all k (h ∷ hs) (suc c) d e = at_from all (k + 1) hs c d e

pub is_closed : (t : Table) → t.classes ≡ classes_from t.headings 0 t.headings → IsClosed t
is_closed t is c d e =
    let bound = at_from t.headings 0 t.headings c d (ap (λ ds. option_and_then (λ (x : Class). x.super) (class_at ds c)) (sym is) ∙ e) in
    subst (λ n. d < n) (sym (ap length is ∙ long t.headings 0 t.headings)) bound

at_or_behind : (k c : ℕ) → k ≤ c → (k ≡ c) ⊎ (k + 1 ≤ c)
at_or_behind k c l = grind (arith, l)

each : (t : Table) (k : ℕ) (ds : List Class) (c : ℕ) → each_class (C3 t) k ds ≡ [] → k ≤ c → c < k + length ds → is_among c (ancestors t c) ≡ false
each t k [] c e l m = absurd (omega (arith, l, m))
each t k (d ∷ ds) c e l m =
    let parts = append_is_nil (C3 t k d) (each_class (C3 t) (k + 1) ds) e in
    elim (at_or_behind k c l) [
      | inl s ↦ subst (λ x. is_among x (ancestors t x) ≡ false) s (unbroken (is_among k (ancestors t k)) 3 d.place parts.0)
      | inr b ↦ each t (k + 1) ds c parts.1 b (omega (arith, m))
    ]

pub is_acyclic : (t : Table) → each_class (C3 t) 0 t.classes ≡ [] → IsAcyclic t
is_acyclic t e c = elim (cases_lt c (length t.classes)) [
  | inl b ↦ each t 0 t.classes c e (omega arith) (omega (arith, b))
  | inr b ↦ subst (λ o. is_among c (line_within (length t.classes) t o) ≡ false) (sym (ap (λ o. option_and_then (λ (x : Class). x.super) o) (past t.classes c b))) (no_line (length t.classes) t c)
]
