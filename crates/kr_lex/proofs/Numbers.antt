-- Digits and their value.
use Rattle.std.proofs.Common.{◌≡◌, ℕ, zero, suc, ◌+◌, ◌-◌, ◌*◌, ◌<◌, ◌≤◌, inl, inr, true, false, List, [], ◌∷◌, ◌++◌, length, slice_index, take, drop, map, refl, sym, ap, subst, ◌∙◌, arith}
use Rattle.std.specs.Char.{is_ascii_digit, digit_value}
use Rattle.std.specs.Int.Digits.{number_from_digits_after}
use Rattle.std.specs.Str.Parse.{AllDigits, digits_value}
use Rattle.std.proofs.lemmas.List.{take-append-drop, map-append, length-take-le, take_all, take_more, get_or_append_left}
use Rattle.std.proofs.lemmas.Int.Digits.{digits_value_is, digits_value_more, number_after_append, number_after_ge}
use Rattle.std.proofs.lemmas.Bool.Decides.{nat_tests}
use Rattle.kr_lex.specs.Words.{IsNumberTo, IsLongNumber, IsSuffix, before_suffix}

pub digit_at : (word : List ℕ) (i : ℕ) → AllDigits 10 word → i < length word → digit_value (slice_index word i) < 10
digit_at [] i h l = absurd (omega arith)
digit_at (c ∷ cs) zero h l = h.0
digit_at (c ∷ cs) (suc i) h l = digit_at cs i h.1 (omega arith)

pub digit_from_test : (b : ℕ) → is_ascii_digit b ≡ true → (digit_value b < 10) × (digit_value b ≡ b - 48) × (48 ≤ b) × (b ≤ 57)
digit_from_test b t = (grind (arith, nat_tests), grind (arith, nat_tests), grind (arith, nat_tests), grind (arith, nat_tests))

pub digit_from_value : (b : ℕ) → digit_value b < 10 → is_ascii_digit b ≡ true
digit_from_value b h = grind (arith, nat_tests)

-- the first byte of a number
pub number_byte : (limit : ℕ) (text : List ℕ) → IsNumberTo limit text → is_ascii_digit (slice_index text 0) ≡ true
number_byte limit text h = digit_from_value (slice_index text 0) (digit_at text 0 h.digits h.some)

-- more digits don't make the value less
pub value_front : (word : List ℕ) (i : ℕ) → digits_value 10 (take i word) ≤ digits_value 10 word
value_front word i =
    let whole : digits_value 10 word ≡ number_from_digits_after 10 0 (map digit_value (take i word ++ drop i word)) =
    ap (digits_value 10) (sym (take-append-drop i word)) ∙ digits_value_is 10 (take i word ++ drop i word) in
    let parts : number_from_digits_after 10 0 (map digit_value (take i word ++ drop i word))
    ≡ number_from_digits_after 10 (number_from_digits_after 10 0 (map digit_value (take i word))) (map digit_value (drop i word)) =
    ap (number_from_digits_after 10 0) (map-append digit_value (take i word) (drop i word))
    ∙ number_after_append 10 0 (map digit_value (take i word)) (map digit_value (drop i word)) in
    let front : digits_value 10 (take i word) ≡ number_from_digits_after 10 0 (map digit_value (take i word)) = digits_value_is 10 (take i word) in
    let more = number_after_ge 10 (number_from_digits_after 10 0 (map digit_value (take i word))) (map digit_value (drop i word)) (omega arith) in
    omega (arith, whole, parts, front, more)

-- a byte that is no digit
pub not_all_digits : (limit : ℕ) (word : List ℕ) (i : ℕ) → i < length word → is_ascii_digit (slice_index word i) ≡ false → IsNumberTo limit word → ⊥
not_all_digits limit word i l t h = let d : is_ascii_digit (slice_index word i) ≡ true = digit_from_value (slice_index word i) (digit_at word i h.digits l) in cc

-- a value that is too large already
pub too_large : (limit : ℕ) (word : List ℕ) (i value : ℕ) → i < length word → value ≡ digits_value 10 (take i word) → is_ascii_digit (slice_index word i) ≡ true
    → limit < 10 * value + (slice_index word i - 48) → IsNumberTo limit word → ⊥
too_large limit word i value l e t large h =
    let d = digit_from_test (slice_index word i) t in
    omega (arith, digits_value_more 10 word i l, value_front word (i + 1), h.within, d.1, e)

-- the value so far, with one digit more
pub value_more : (word : List ℕ) (i value : ℕ) → IsNumberTo 9223372036854775808 word → i < length word → value ≡ digits_value 10 (take i word)
    → (48 ≤ slice_index word i) × (10 * value + (slice_index word i - 48) ≡ digits_value 10 (take (i + 1) word)) × (10 * value + (slice_index word i - 48) ≤ 9223372036854775808)
value_more word i value h l e =
    let d = digit_from_test (slice_index word i) (digit_from_value (slice_index word i) (digit_at word i h.digits l)) in
    let more = digits_value_more 10 word i l in
    (d.2, omega (arith, more, e, d.1), omega (arith, more, e, d.1, value_front word (i + 1), h.within))

-- a number that fits before a suffix
pub wider : (word : List ℕ) → IsNumberTo 2147483648 word → IsNumberTo 9223372036854775808 word
wider word h = record { some = h.some; digits = h.digits; no_leading_zero = h.no_leading_zero; within = omega (arith, h.within) }

-- a number with a suffix has another byte
pub long_some : (text : List ℕ) → IsLongNumber text → 1 < length text
long_some text h = omega (arith, h.number.some, length-take-le (length text - 1) text (omega arith))

-- and the suffix after its digits
pub long_text : (text : List ℕ) → IsLongNumber text → text ≡ before_suffix text ++ slice_index text (length text - 1) ∷ []
long_text text h =
    let l = long_some text h in
    let n : length text ≡ length text - 1 + 1 = omega (arith, l) in
    sym (take_all (length text) text (omega arith)) ∙ (ap (λ (k : ℕ). take k text) n ∙ take_more text (length text - 1) 0 (omega (arith, l)))

pub long_byte : (text : List ℕ) → IsLongNumber text → is_ascii_digit (slice_index text 0) ≡ true
long_byte text h =
    let front = before_suffix text in
    let b = slice_index text (length text - 1) in
    ap (λ (t : List ℕ). is_ascii_digit (slice_index t 0)) (long_text text h)
    ∙ (ap is_ascii_digit (get_or_append_left front (b ∷ []) 0 0 h.number.some) ∙ number_byte 9223372036854775808 front h.number)

-- that is no digit
last_digit : (ds : List ℕ) (b : ℕ) → AllDigits 10 (ds ++ b ∷ []) → digit_value b < 10
last_digit [] b h = h.0
last_digit (d ∷ ds) b h = last_digit ds b h.1

suffix_no_digit : (b : ℕ) → IsSuffix b → is_ascii_digit b ≡ false
suffix_no_digit b (inl e) = ap is_ascii_digit e ∙ refl
suffix_no_digit b (inr e) = ap is_ascii_digit e ∙ refl

pub long_not_digits : (text : List ℕ) → IsLongNumber text → AllDigits 10 text → ⊥
long_not_digits text h d =
    let b = slice_index text (length text - 1) in
    let t : is_ascii_digit b ≡ true = digit_from_value b (last_digit (before_suffix text) b (subst (AllDigits 10) (long_text text h) d)) in
    let f : is_ascii_digit b ≡ false = suffix_no_digit b h.suffix in
    cc
