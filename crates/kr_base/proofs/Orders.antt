-- The order of cuts as a relation and as a test.
use Rattle.std.proofs.Common.{◌≡◌, ℕ, ◌<◌, ◌⊎◌, inl, inr, List, [], ◌∷◌, true, false, refl, sym, ap, ◌∙◌, subst, arith}
use Rattle.std.specs.Ordering.{nat_cmp, is_lt, ordering_reverse, ordering_then, MatchOrdering}
use Rattle.std.specs.declared.cmp.Ordering.{Ordering}
use Rattle.std.specs.declared.cmp.Ordering.TheVariants.{Less, Equal, Greater}
use Rattle.std.specs.Cmp.Lexicographic.{slice_cmp}
use Rattle.std.proofs.lemmas.Cmp.{nat_list_cmp_total, ranked}
use Rattle.std.proofs.lemmas.Bool.Decides.{nat_tests}
use Rattle.std.proofs.lemmas.Map.Lookups.{exact_bytes}
use Rattle.kr_base.specs.Cuts.{Before, is_before, OrderLaw}

lt-is : (o : Ordering) → is_lt o ≡ true → o ≡ Less
lt-is Less e = refl
lt-is Equal e = cc
lt-is Greater e = cc

self-not_lt : (o : Ordering) → o ≡ ordering_reverse o → is_lt o ≡ false
self-not_lt Less e = absurd (cc (e))
self-not_lt Equal e = refl
self-not_lt Greater e = refl

neither : (o : Ordering) → is_lt o ≡ false → is_lt (ordering_reverse o) ≡ false → o ≡ Equal
neither Less p q = cc
neither Equal p q = refl
neither Greater p q = cc

pub test_irreflexive : (a : List ℕ) → is_before a a ≡ false
test_irreflexive a = self-not_lt (slice_cmp nat_cmp a a) (nat_list_cmp_total.antisymm a a)

pub test_transitive : (a b c : List ℕ) → is_before a b ≡ true → is_before b c ≡ true → is_before a c ≡ true
test_transitive a b c p q = ap is_lt (nat_list_cmp_total.trans a b c (lt-is (slice_cmp nat_cmp a b) p) (lt-is (slice_cmp nat_cmp b c) q))

pub test_connected : (a b : List ℕ) → is_before a b ≡ false → is_before b a ≡ false → a ≡ b
test_connected a b p q =
    exact_bytes a b (neither (slice_cmp nat_cmp a b) p (ap is_lt (sym (nat_list_cmp_total.antisymm b a)) ∙ q))

-- the test by the first numbers
step : (o : Ordering) (rest : Ordering) → is_lt (ordering_then o rest) ≡ true → (o ≡ Less) ⊎ ((o ≡ Equal) × (is_lt rest ≡ true))
step Less rest e = inl refl
step Equal rest e = inr (refl, e)
step Greater rest e = absurd (cc (e))

number_less : (x y : ℕ) → nat_cmp x y ≡ Less → x < y
number_less x y e = subst (λ o. MatchOrdering o (x < y) (x ≡ y) (y < x)) e (ranked x y (nat_cmp x y) refl)

number_same : (x y : ℕ) → nat_cmp x y ≡ Equal → x ≡ y
number_same x y e = subst (λ o. MatchOrdering o (x < y) (x ≡ y) (y < x)) e (ranked x y (nat_cmp x y) refl)

pub before_from_test : (a b : List ℕ) → is_before a b ≡ true → Before a b
before_from_test [] [] e = absurd (cc (e))
before_from_test [] (y ∷ ys) e = tt
before_from_test (x ∷ xs) [] e = absurd (cc (e))
before_from_test (x ∷ xs) (y ∷ ys) e = elim (step (nat_cmp x y) (slice_cmp nat_cmp xs ys) e) [
  | inl h ↦ inl (number_less x y h)
  | inr h ↦ inr (number_same x y h.0, before_from_test xs ys h.1)
]

less_number : (x y : ℕ) → x < y → nat_cmp x y ≡ Less
less_number x y h = grind (arith, nat_tests)

same_number : (x y : ℕ) → x ≡ y → nat_cmp x y ≡ Equal
same_number x y h = grind (arith, nat_tests)

pub test_from_before : (a b : List ℕ) → Before a b → is_before a b ≡ true
test_from_before [] [] h = absurd h
test_from_before [] (y ∷ ys) h = refl
test_from_before (x ∷ xs) [] h = absurd h
test_from_before (x ∷ xs) (y ∷ ys) (inl h) = rw (less_number x y h) refl
test_from_before (x ∷ xs) (y ∷ ys) (inr h) = rw (same_number x y h.0) (test_from_before xs ys h.1)

pub order : OrderLaw
order a b = record {
  sound = before_from_test a b;
  complete = test_from_before a b;
  connected = test_connected a b;
}
