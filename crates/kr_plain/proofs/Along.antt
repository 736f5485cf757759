-- Choices along an order, one after another.
use Rattle.std.proofs.Common.{◌≡◌, ℕ, zero, suc, ◌+◌, ◌<◌, List, [], ◌∷◌, ◌++◌, length, get_or, drop, inl, inr, Some, None, sym, subst, arith}
use Rattle.std.specs.Prelude.{IsTrue, nat_eq, ◌↔◌}
use Rattle.std.proofs.lemmas.Bool.{cases_eq}
use Rattle.std.proofs.lemmas.Bool.Decides.{nat_tests}
use Rattle.std.proofs.lemmas.List.{drop_more}
use Rattle.kr_iso.specs.Choices.{AllowedPath, PathIn}
use Rattle.kr_mean.specs.Choices.{AllowedAlong, IsNextChoice, IsAllowed}
use Rattle.kr_mean.specs.Space.{Space}
use Rattle.kr_mean.specs.Readings.{AllBelow}
use Rattle.kr_step.proofs.Paths.{allowed_more}

pub in_more : (S : Space) (path : List (ℕ × ℕ)) (s i : ℕ) → PathIn S path → s < S.slots → i < S.size s → PathIn S (path ++ (s, i) ∷ [])
in_more S [] s i a h b = (h, b, tt)
in_more S (p ∷ path) s i a h b = (a.0, a.1, in_more S path s i a.2 h b)

pub below_at : (n : ℕ) (ss : List ℕ) (k : ℕ) → AllBelow n ss → k < length ss → get_or ss k 0 < n
below_at n [] k a h = absurd (omega (arith, h))
below_at n (s ∷ ss) zero a h = a.0
below_at n (s ∷ ss) (suc k) a h = below_at n ss k a.1 (omega (arith, h))

-- so far all choices are allowed, and what is left decides
pub record Goes (S : Space) (v : List ℕ) (path : List (ℕ × ℕ)) (rest all : List ℕ) : Type 0 where
  pub inside : PathIn S path
  pub allowed : AllowedPath S [] path
  pub left : AllowedAlong S v [] all → AllowedAlong S v path rest
  pub right : AllowedAlong S v path rest → AllowedAlong S v [] all

module _ (S : Space) (v : List ℕ) (all : List ℕ) (k : ℕ) (path : List (ℕ × ℕ)) (h : k < length all) (g : Goes S v path (drop k all) all) where
  abbrev slot : ℕ
  slot = get_or all k 0

  rest_is : drop k all ≡ slot ∷ drop (k + 1) all
  rest_is = drop_more all k 0 h

  -- one more choice
  pub goes_on : slot < S.slots → get_or v slot 0 < S.size slot → IsAllowed S path slot (get_or v slot 0) → Goes S v (path ++ (slot, get_or v slot 0) ∷ []) (drop (k + 1) all) all
  goes_on a b c = record {
    inside = in_more S path slot (get_or v slot 0) g.inside a b;
    allowed = allowed_more S [] path (slot, get_or v slot 0) g.allowed c;
    left = λ x. (subst (λ (ss : List ℕ). AllowedAlong S v path ss) rest_is (g.left x)).1;
    right = λ x. g.right (subst (λ (ss : List ℕ). AllowedAlong S v path ss) (sym rest_is) (c, x));
  }

  -- one that isn't allowed
  pub stops : (IsAllowed S path slot (get_or v slot 0) → ⊥) → AllowedAlong S v [] all → ⊥
  stops n x = n (subst (λ (ss : List ℕ). AllowedAlong S v path ss) rest_is (g.left x)).0

-- the next choice, by an index
pub none_is : (S : Space) (path : List (ℕ × ℕ)) (s i : ℕ) → i < S.size s → IsNextChoice S path s i None → IsAllowed S path s i → ⊥
none_is S path s i h n a = n i (omega arith) h a

pub other_is : (S : Space) (path : List (ℕ × ℕ)) (s i j : ℕ) → IsNextChoice S path s i (Some j) → (j ≡ i → ⊥) → IsAllowed S path s i → ⊥
other_is S path s i j n apart a = n.3 i (omega arith) (omega (arith, n.0, apart)) a

from_equal : (j i : ℕ) → IsTrue (nat_eq j i) → j ≡ i
from_equal j i h = grind (arith, nat_tests)

to_equal : (j i : ℕ) → j ≡ i → IsTrue (nat_eq j i)
to_equal j i h = grind (arith, nat_tests)

pub some_is : (S : Space) (path : List (ℕ × ℕ)) (s i j : ℕ) → IsNextChoice S path s i (Some j) → IsTrue (nat_eq j i) ↔ IsAllowed S path s i
some_is S path s i j n = (
  λ t. subst (λ (x : ℕ). IsAllowed S path s x) (from_equal j i t) n.2,
  λ a. elim (cases_eq j i) [ inl e ↦ to_equal j i e | inr apart ↦ absurd (other_is S path s i j n apart a) ],
)
