-- The integers of a range are within the limits of its ends.
use Rattle.std.proofs.Common.{◌≡◌, ℕ, zero, suc, ◌+◌, ◌<◌, ◌≤◌, ℤ, pos, negsuc, true, false, [], refl, sym, ap, subst, arith}
use Rattle.std.specs.Prelude.{◌+ℤ◌, ◌-ℤ◌}
use Rattle.std.specs.Int.Signed.{le_z}
use Rattle.std.specs.List.{AllByRecursion}
use Rattle.std.proofs.lemmas.Int.{ints}
use Rattle.std.proofs.lemmas.Bool.{leb-true, ltb-true, and_parts}
use Rattle.std.proofs.lemmas.Bool.Decides.{nat_tests}
use Rattle.kr_space_layout.specs.Items.{integers_from, width_between, integers}
use Rattle.kr_fin.specs.Document.{magnitude}
use Rattle.kr_fin.specs.Shapes.{have, counts}
use Rattle.kr_classes_table.specs.Numbers.{Width, half, is_within}
use Rattle.kr_laws_safety.specs.Fits.{IsWithin}

pub within_is : (w : Width) (z : ℤ) → is_within w z ≡ true → IsWithin w z
within_is w (pos n) e = ltb-true n (half w) e
within_is w (negsuc n) e = ltb-true n (half w) e

-- so many integers from there on are below a half
abbrev HasRoom : ℕ → ℤ → ℕ → Type 0
HasRoom half (pos a) n = a + n ≤ half
HasRoom half (negsuc a) n = (a < half) × (n ≤ a + (half + 1))

first_negative : negsuc zero +ℤ pos 1 ≡ pos zero
first_negative = omega (arith, ints)

next_negative : (n : ℕ) → negsuc (suc n) +ℤ pos 1 ≡ negsuc n
next_negative n = omega (arith, ints)

ints_from : (w : Width) (h : ℕ) → half w ≡ h → (z : ℤ) (n : ℕ) → HasRoom h z n → AllByRecursion (IsWithin w) (integers_from z n)
ints_from w h q z zero k = tt
ints_from w h q (pos a) (suc n) k = (omega (arith, k, q), ints_from w h q (pos (a + 1)) n (omega (arith, k)))
ints_from w h q (negsuc zero) (suc n) k = (omega (arith, k.0, q), subst (λ (x : ℤ). AllByRecursion (IsWithin w) (integers_from x n)) (sym first_negative) (ints_from w h q (pos zero) n (omega (arith, k.1))))
ints_from w h q (negsuc (suc a)) (suc n) k = (omega (arith, k.0, q), subst (λ (x : ℤ). AllByRecursion (IsWithin w) (integers_from x n)) (sym (next_negative a)) (ints_from w h q (negsuc a) n (omega (arith, k.0), omega (arith, k.1))))

none_room : (w : Width) (h : ℕ) → half w ≡ h → (z : ℤ) → IsWithin w z → HasRoom h z 0
none_room w h q (pos a) k = omega (arith, k, q)
none_room w h q (negsuc a) k = (omega (arith, k, q), omega arith)

some_room : (w : Width) (h : ℕ) → half w ≡ h → (from to : ℤ) (m : ℕ) → IsWithin w from → IsWithin w to → (to -ℤ from) +ℤ pos 1 ≡ pos m → HasRoom h from m
some_room w h q (pos a) (pos b) m i k e = omega (arith, ints, e, k, q)
some_room w h q (pos a) (negsuc b) m i k e = omega (arith, ints, e, i, q)
some_room w h q (negsuc a) (pos b) m i k e = (omega (arith, i, q), omega (arith, ints, e, k, q))
some_room w h q (negsuc a) (negsuc b) m i k e = (omega (arith, i, q), omega (arith, ints, e))

pub range_within : (w : Width) (from to : ℤ) → IsWithin w from → IsWithin w to → AllByRecursion (IsWithin w) (integers from to)
range_within w from to i k = ints_from w (half w) refl from (width_between from to) (go ((to -ℤ from) +ℤ pos 1) refl)
  where
    go : (x : ℤ) → (to -ℤ from) +ℤ pos 1 ≡ x → HasRoom (half w) from (magnitude x)
    go (pos m) e = some_room w (half w) refl from to m i k e
    go (negsuc m) e = none_room w (half w) refl from i

-- an empty range has none
below : (from to : ℤ) (m : ℕ) → le_z from to ≡ false → (to -ℤ from) +ℤ pos 1 ≡ pos m → m ≡ 0
below (pos a) (pos b) m l e = let h : b < a = grind (arith, nat_tests) in omega (arith, ints, e, h)
below (pos a) (negsuc b) m l e = omega (arith, ints, e)
below (negsuc a) (pos b) m l e = absurd (cc (l))
below (negsuc a) (negsuc b) m l e = let h : a < b = grind (arith, nat_tests) in omega (arith, ints, e, h)

pub none_between : (from to : ℤ) → le_z from to ≡ false → integers from to ≡ []
none_between from to l = ap (integers_from from) (go ((to -ℤ from) +ℤ pos 1) refl)
  where
    go : (x : ℤ) → (to -ℤ from) +ℤ pos 1 ≡ x → magnitude x ≡ 0
    go (pos m) e = below from to m l e
    go (negsuc m) e = refl

-- ---- lengths

abbrev pub IsShort : ℤ → Type 0
IsShort (pos n) = n ≤ 64
IsShort (negsuc n) = Unit {0}

pub is_short : (z : ℤ) → have counts z ≡ true → IsShort z
is_short (pos n) e = leb-true n 64 (and_parts (le_z counts.low (pos n)) (le_z (pos n) counts.high) e).1
is_short (negsuc n) e = tt

short_from : (a n : ℕ) → a + n ≤ 65 → AllByRecursion IsShort (integers_from (pos a) n)
short_from a zero h = tt
short_from a (suc n) h = (omega (arith, h), short_from (a + 1) n (omega (arith, h)))

pub range_short : (from to : ℤ) → have counts from ≡ true → have counts to ≡ true → AllByRecursion IsShort (integers from to)
range_short (negsuc a) to h k = absurd (cc (h))
range_short (pos a) (negsuc b) h k = absurd (cc (k))
range_short (pos a) (pos b) h k = short_from a (width_between (pos a) (pos b)) (go ((pos b -ℤ pos a) +ℤ pos 1) refl)
  where
    go : (x : ℤ) → (pos b -ℤ pos a) +ℤ pos 1 ≡ x → a + magnitude x ≤ 65
    go (pos m) e = omega (arith, ints, e, is_short (pos b) k, is_short (pos a) h)
    go (negsuc m) e = omega (arith, is_short (pos a) h)
