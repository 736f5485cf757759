-- Values are the same where their numbers are.
use Rattle.std.proofs.Common.{◌≡◌, ℕ, ◌+◌, ◌-◌, ◌<◌, ◌==◌, Bool, true, false, List, [], ◌∷◌, refl, sym, ap, ◌∙◌, arith}
use Rattle.std.specs.Prelude.{ℤ, pos, negsuc, ◌||◌, nat_eq}
use Rattle.std.specs.Ordering.{int_eq}
use Rattle.std.specs.List.{AllByRecursion, list_any}
use Rattle.std.proofs.lemmas.Bool.{ne_eqb}
use Rattle.std.proofs.lemmas.Bool.Decides.{Decides-int_eq, Decides-eqb, Decides-like, same_from_decides}
use Rattle.kr_value.specs.declared.value.Value.{Value}
use Rattle.kr_value.specs.declared.value.Value.TheVariants.{Int, Bool as Truth, Null, Ref as Reference}
use Rattle.kr_mean.specs.Problem.{Choice}
use Rattle.kr_mean.specs.Collections.{is_same_value}
use Rattle.kr_space_meaning.specs.Faults.{has_twice}
use Rattle.kr_space_rules.specs.Spans.{IsHigh, IsTold, number_of, numbers_of, shifted}
use Rattle.kr_space_rules.proofs.Copies.{has_copy}

same_integer : (a b : ℤ) → IsHigh a → IsHigh b → shifted a ≡ shifted b → a ≡ b
same_integer (pos m) (pos n) h k e = ap pos (omega (arith, e))
same_integer (pos m) (negsuc n) h k e = absurd (omega (arith, e, k))
same_integer (negsuc m) (pos n) h k e = absurd (omega (arith, e, h))
same_integer (negsuc m) (negsuc n) h k e = ap negsuc (omega (arith, e, h, k))

integers_same : (a b : ℤ) → IsHigh a → IsHigh b → int_eq a b ≡ (shifted a == shifted b)
integers_same a b h k = same_from_decides (int_eq a b) (shifted a == shifted b) (Decides-int_eq a b)
    (Decides-like (shifted a == shifted b) (same_integer a b h k) (λ e. ap shifted e) (Decides-eqb (shifted a) (shifted b)))

-- an integer's number is above all others
behind : (z : ℤ) (n : ℕ) → IsHigh z → n < 4294967299 → n ≡ shifted z → ⊥
behind (pos m) n h l e = absurd (omega (arith, l, e))
behind (negsuc m) n h l e = absurd (omega (arith, h, l, e))

below : (n : ℕ) (z : ℤ) → IsHigh z → n < 4294967299 → false ≡ (n == shifted z)
below n z h l = sym (ne_eqb n (shifted z) (behind z n h l))

above : (z : ℤ) (n : ℕ) → IsHigh z → n < 4294967299 → false ≡ (shifted z == n)
above z n h l = sym (ne_eqb (shifted z) n (λ e. behind z n h l (sym e)))

other : (m n : ℕ) → (m ≡ n → ⊥) → false ≡ (m == n)
other m n h = sym (ne_eqb m n h)

references_same : (m n : ℕ) → nat_eq m n ≡ (m + 3 == n + 3)
references_same m n = same_from_decides (nat_eq m n) (m + 3 == n + 3) (Decides-eqb m n)
    (Decides-like (m + 3 == n + 3) (λ e. omega (arith, e)) (λ e. omega (arith, e)) (Decides-eqb (m + 3) (n + 3)))

value_same : (a b : Value) → IsTold a → IsTold b → is_same_value a b ≡ (number_of a == number_of b)
value_same (Int a) (Int b) h k = integers_same a b h k
value_same (Int a) (Truth false) h k = above a 1 h (omega arith)
value_same (Int a) (Truth true) h k = above a 2 h (omega arith)
value_same (Int a) Null h k = above a 0 h (omega arith)
value_same (Int a) (Reference n) h k = above a (n + 3) h (omega (arith, k))
value_same (Truth false) (Int b) h k = below 1 b k (omega arith)
value_same (Truth true) (Int b) h k = below 2 b k (omega arith)
value_same Null (Int b) h k = below 0 b k (omega arith)
value_same (Reference n) (Int b) h k = below (n + 3) b k (omega (arith, h))
value_same (Truth false) (Truth false) h k = refl
value_same (Truth false) (Truth true) h k = refl
value_same (Truth true) (Truth false) h k = refl
value_same (Truth true) (Truth true) h k = refl
value_same (Truth false) Null h k = refl
value_same (Truth true) Null h k = refl
value_same Null (Truth false) h k = refl
value_same Null (Truth true) h k = refl
value_same Null Null h k = refl
value_same (Truth false) (Reference n) h k = other 1 (n + 3) (λ e. absurd (omega (arith, e)))
value_same (Truth true) (Reference n) h k = other 2 (n + 3) (λ e. absurd (omega (arith, e)))
value_same Null (Reference n) h k = other 0 (n + 3) (λ e. absurd (omega (arith, e)))
value_same (Reference n) (Truth false) h k = other (n + 3) 1 (λ e. absurd (omega (arith, e)))
value_same (Reference n) (Truth true) h k = other (n + 3) 2 (λ e. absurd (omega (arith, e)))
value_same (Reference n) Null h k = other (n + 3) 0 (λ e. absurd (omega (arith, e)))
value_same (Reference m) (Reference n) h k = references_same m n

abbrev Told : List Choice → Type 0
Told cs = AllByRecursion (λ c. IsTold c.value) cs

any_same : (v : Value) (cs : List Choice) → IsTold v → Told cs → list_any (λ d. is_same_value v d.value) cs ≡ list_any (λ y. number_of v == y) (numbers_of cs)
any_same v [] h t = refl
any_same v (c ∷ cs) h t = both (value_same v c.value h t.0) (any_same v cs h t.1)
  where
    both : {a b c d : Bool} → a ≡ b → c ≡ d → (a || c) ≡ (b || d)
    both {a = a} {d = d} e f = ap (λ x. a || x) f ∙ ap (λ x. x || d) e

pub twice_numbered : (cs : List Choice) → Told cs → has_twice cs ≡ has_copy (numbers_of cs)
twice_numbered [] t = refl
twice_numbered (c ∷ cs) t = both (any_same c.value cs t.0 t.1) (twice_numbered cs t.1)
  where
    both : {a b c d : Bool} → a ≡ b → c ≡ d → (a || c) ≡ (b || d)
    both {a = a} {d = d} e f = ap (λ x. a || x) f ∙ ap (λ x. x || d) e
