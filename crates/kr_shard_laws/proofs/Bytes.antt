-- Bytes that part texts, and texts without them.
use Rattle.std.proofs.Common.{◌≡◌, ℕ, suc, ◌+◌, ◌<◌, ◌≤◌, ◌^◌, Bool, true, false, List, [], ◌∷◌, ◌++◌, All, length, take, drop, refl, sym, ap, ◌∙◌, subst, arith, lit≤, append_assoc, append-nil, decimal, Option, Some, None}
use Rattle.std.specs.Prelude.{◌==◌, codes, flat_map, if◌then◌else◌}
use Rattle.std.specs.Char.{digit_value}
use Rattle.std.specs.List.{position_or_len, before_first, after_first}
use Rattle.std.specs.Str.{bytes_eq}
use Rattle.std.specs.Str.Parse.{AllDigits}
use Rattle.std.proofs.lemmas.Bool.{eq-eqb}
use Rattle.std.proofs.lemmas.Bool.Decides.{nat_tests}
use Rattle.std.proofs.lemmas.Fmt.{decimal_is_IsNumeral}
use Rattle.std.proofs.lemmas.Slice.Eq.{bytes_eq-Decides}
use Rattle.std.proofs.Math.Seq.{take-append_seam, drop-append_seam, drop-append-add, drop-length}
use Rattle.kr_base.specs.Cuts.{cut_text, dotted}
use Rattle.kr_base.proofs.Digits.{digits_of_number}
use Rattle.kr_base.proofs.Stages.{Small, head_small, tail_small}
use Rattle.kr_text.specs.Splitting.{IsWithout, after_front, ended, lines_in, unended}
use Rattle.kr_text.proofs.Splits.{first_here, first_later, lines_of_line}

-- ---- texts without a byte

pub without_append : (c : ℕ) (xs ys : List ℕ) → IsWithout c xs → IsWithout c ys → IsWithout c (xs ++ ys)
without_append c [] ys h k = k
without_append c (x ∷ xs) ys h k = (h.0, without_append c xs ys h.1 k)

-- each byte is a dot, a digit or above
unfoldable pub IsHigh : List ℕ → Type 0
IsHigh [] = Unit {0}
IsHigh (b ∷ bs) = (46 ≤ b) × IsHigh bs

pub high_append : (xs ys : List ℕ) → IsHigh xs → IsHigh ys → IsHigh (xs ++ ys)
unfolding IsHigh
high_append [] ys h k = k
high_append (x ∷ xs) ys h k = (h.0, high_append xs ys h.1 k)

pub without_high : (c : ℕ) (xs : List ℕ) → c < 46 → IsHigh xs → IsWithout c xs
unfolding IsHigh
without_high c [] small h = tt
without_high c (x ∷ xs) small h =
    let above : 46 ≤ x = h.0 in
    let other : (x == c) ≡ false = grind (arith, nat_tests) in
    (other, without_high c xs small h.1)

high_digits : (ds : List ℕ) → AllDigits 10 ds → IsHigh ds
unfolding IsHigh
high_digits [] h = tt
high_digits (d ∷ ds) h =
    let small : digit_value d < 10 = h.0 in
    let above : 46 ≤ d = grind (arith, nat_tests) in
    (above, high_digits ds h.1)

pub high_number : (n : ℕ) → n < 2 ^ 64 → IsHigh (decimal n)
high_number n h = high_digits (decimal n) (decimal_is_IsNumeral n h).0.1

high_dotted : (numbers : List ℕ) → Small numbers → IsHigh (flat_map dotted numbers)
unfolding IsHigh
high_dotted [] h = tt
high_dotted (n ∷ ns) h =
    let digits : IsHigh (decimal n) = high_digits (decimal n) (digits_of_number n (head_small n ns h)) in
    (lit≤ tt, high_append (decimal n) (flat_map dotted ns) digits (high_dotted ns (tail_small n ns h)))

pub high_cut : (numbers : List ℕ) → Small numbers → IsHigh (cut_text numbers)
unfolding IsHigh
high_cut [] h = tt
high_cut (n ∷ ns) h = high_append (decimal n) (flat_map dotted ns) (high_digits (decimal n) (digits_of_number n (head_small n ns h))) (high_dotted ns (tail_small n ns h))

-- ---- a text parts at a byte that isn't in its front

place_of : (c : ℕ) (front rest : List ℕ) → IsWithout c front → position_or_len (λ x. x == c) (front ++ c ∷ rest) ≡ length front
place_of c [] rest h = first_here c c rest (eq-eqb c c refl)
place_of c (b ∷ bs) rest h = first_later c b (bs ++ c ∷ rest) h.0 ∙ ap suc (place_of c bs rest h.1)

pub before_is : (c : ℕ) (front rest : List ℕ) → IsWithout c front → before_first (λ x. x == c) (front ++ c ∷ rest) ≡ front
before_is c front rest h = ap (λ (n : ℕ). take n (front ++ c ∷ rest)) (place_of c front rest h) ∙ take-append_seam front (c ∷ rest)

pub after_is : (c : ℕ) (front rest : List ℕ) → IsWithout c front → after_first (λ x. x == c) (front ++ c ∷ rest) ≡ rest
after_is c front rest h = ap (λ (n : ℕ). drop (n + 1) (front ++ c ∷ rest)) (place_of c front rest h) ∙ drop-append-add front (c ∷ rest) 1

-- a text goes on after its front
pub front_after : (front rest : List ℕ) → after_front front (front ++ rest) ≡ Some rest
front_after front rest =
    let taken : take (length front) (front ++ rest) ≡ front = take-append_seam front rest in
    let same : bytes_eq (take (length front) (front ++ rest)) front ≡ true = (bytes_eq-Decides (take (length front) (front ++ rest)) front).1 taken in
    rw same (ap Some (drop-append_seam front rest))

-- ---- lines

-- no line has a line feed
unfoldable pub AreLines : List (List ℕ) → Type 0
AreLines [] = Unit {0}
AreLines (line ∷ lines) = IsWithout 10 line × AreLines lines

pub lines_append : (xs ys : List (List ℕ)) → AreLines xs → AreLines ys → AreLines (xs ++ ys)
unfolding AreLines
lines_append [] ys h k = k
lines_append (x ∷ xs) ys h k = (h.0, lines_append xs ys h.1 k)

pub lines_back : (lines : List (List ℕ)) → AreLines lines → lines_in (flat_map ended lines) ≡ lines
unfolding AreLines
lines_back [] h = refl
lines_back (line ∷ lines) h =
    ap lines_in (append_assoc line (10 ∷ []) (flat_map ended lines))
    ∙ (lines_of_line line (flat_map ended lines) h.0 ∙ ap (λ (ls : List (List ℕ)). line ∷ ls) (lines_back lines h.1))

pub nothing_unended : (lines : List (List ℕ)) → AreLines lines → unended (flat_map ended lines) ≡ []
nothing_unended lines h =
    ap (λ (ls : List (List ℕ)). drop (length (flat_map ended ls)) (flat_map ended lines)) (lines_back lines h) ∙ drop-length (flat_map ended lines)
