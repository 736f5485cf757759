-- `cut_of` computes the cut of a text.
use Rattle.std.proofs.Common.{◌≡◌, ℕ, ◌+◌, ◌*◌, ◌^◌, ◌<◌, ◌≤◌, Bool, true, false, ◌&&◌, List, [], ◌∷◌, ◌++◌, length, refl, sym, ap, ◌∙◌, subst, arith, decimal, nat_lt, nat_le, Some, None}
use Rattle.std.specs.Prelude.{◌==◌, flat_map, Ok, if◌then◌else◌}
use Rattle.std.specs.Char.{digit_value}
use Rattle.std.specs.List.{list_all}
use Rattle.std.specs.Str.{bytes_eq}
use Rattle.std.specs.Str.Parse.{AllDigits, digits_value_after}
use Rattle.std.proofs.lemmas.Fmt.{decimal_is_IsNumeral}
use Rattle.std.proofs.lemmas.Slice.Eq.{bytes_eq-Decides}
use Rattle.std.proofs.lemmas.Bool.Decides.{nat_tests}
use Rattle.std.proofs.lemmas.Bool.{and_parts}
use Rattle.kr_base.specs.Cuts.{dotted, cut_text}
use Rattle.kr_base.specs.Parsing.{IsTextOf, Parses, numbers_in, cut_of, ReadingLaw}
use Rattle.kr_base.proofs.Digits.{digits_of_number}
use Rattle.kr_base.proofs.Stages.{Small, head_small, tail_small, cons_small, none_small}

no_dot : (b : ℕ) → digit_value b < 10 → (b == 46) ≡ false
no_dot b h = grind (arith, nat_tests)

-- the value of more digits
through_digits : (value : ℕ) (ds rest : List ℕ) → AllDigits 10 ds → numbers_in value (ds ++ rest) ≡ numbers_in (digits_value_after 10 value ds) rest
through_digits value [] rest h = refl
through_digits value (d ∷ ds) rest h = rw (no_dot d h.0) (through_digits (value * 10 + digit_value d) ds rest h.1)

through_number : (n : ℕ) (rest : List ℕ) → n < 2 ^ 32 → numbers_in 0 (decimal n ++ rest) ≡ numbers_in n rest
through_number n rest h =
    through_digits 0 (decimal n) rest (digits_of_number n h)
    ∙ ap (λ (v : ℕ). numbers_in v rest) ((decimal_is_IsNumeral n (omega arith)).1)

behind : (n : ℕ) (later : List ℕ) → Small later → numbers_in n (flat_map dotted later) ≡ n ∷ later
behind n [] h = refl
behind n (m ∷ later) h =
    ap (λ (t : List ℕ). n ∷ t) (through_number m (flat_map dotted later) (head_small m later h) ∙ behind m later (tail_small m later h))

pub numbers_of_text : (numbers : List ℕ) → 0 < length numbers → Small numbers → numbers_in 0 (cut_text numbers) ≡ numbers
numbers_of_text [] some h = absurd (omega arith)
numbers_of_text (n ∷ later) some h = through_number n (flat_map dotted later) (head_small n later h) ∙ behind n later (tail_small n later h)

small_test : (numbers : List ℕ) → Small numbers → list_all (λ n. nat_lt n (2 ^ 32)) numbers ≡ true
small_test [] h = refl
small_test (n ∷ later) h =
    let here : n < 2 ^ 32 = head_small n later h in
    let yes : nat_lt n (2 ^ 32) ≡ true = grind (arith, nat_tests) in
    rw yes (small_test later (tail_small n later h))

small_from_test : (numbers : List ℕ) → list_all (λ n. nat_lt n (2 ^ 32)) numbers ≡ true → Small numbers
small_from_test [] h = none_small
small_from_test (n ∷ later) h =
    let both : (nat_lt n (2 ^ 32) ≡ true) × (list_all (λ k. nat_lt k (2 ^ 32)) later ≡ true) = and_parts (nat_lt n (2 ^ 32)) (list_all (λ k. nat_lt k (2 ^ 32)) later) h in
    let yes : nat_lt n (2 ^ 32) ≡ true = both.0 in
    cons_small n later (grind (arith, nat_tests)) (small_from_test later both.1)

some_numbers : (value : ℕ) (text : List ℕ) → 0 < length (numbers_in value text)
some_numbers value [] = omega arith
some_numbers value (b ∷ bs) = go (b == 46) (some_numbers (value * 10 + digit_value b) bs)
  where
    go : (t : Bool) → 0 < length (numbers_in (value * 10 + digit_value b) bs) → 0 < length (if t then value ∷ numbers_in 0 bs else numbers_in (value * 10 + digit_value b) bs)
    go true h = omega arith
    go false h = h

sound : (text numbers : List ℕ) → cut_of text ≡ Some numbers → Parses text (Ok numbers)
sound text numbers = go (bytes_eq (cut_text (numbers_in 0 text)) text && (list_all (λ n. nat_lt n (2 ^ 32)) (numbers_in 0 text) && nat_le (length (numbers_in 0 text)) 4096)) refl
  where
    go : (t : Bool) → (bytes_eq (cut_text (numbers_in 0 text)) text && (list_all (λ n. nat_lt n (2 ^ 32)) (numbers_in 0 text) && nat_le (length (numbers_in 0 text)) 4096)) ≡ t
        → (if t then Some (numbers_in 0 text) else None) ≡ Some numbers → IsTextOf numbers text × (length numbers ≤ 4096)
    go false is e = absurd (cc (e))
    go true is e =
        let same : numbers_in 0 text ≡ numbers = cc (e) in
        let first = and_parts (bytes_eq (cut_text (numbers_in 0 text)) text) (list_all (λ n. nat_lt n (2 ^ 32)) (numbers_in 0 text) && nat_le (length (numbers_in 0 text)) 4096) is in
        let rest = and_parts (list_all (λ n. nat_lt n (2 ^ 32)) (numbers_in 0 text)) (nat_le (length (numbers_in 0 text)) 4096) first.1 in
        let few : nat_le (length (numbers_in 0 text)) 4096 ≡ true = rest.1 in
        let text_is : cut_text (numbers_in 0 text) ≡ text = (bytes_eq-Decides (cut_text (numbers_in 0 text)) text).0 first.0 in
        let own : IsTextOf (numbers_in 0 text) text × (length (numbers_in 0 text) ≤ 4096) =
        (record { some = some_numbers 0 text; small = small_from_test (numbers_in 0 text) rest.0; text = sym text_is }, grind (arith, nat_tests)) in
        subst (λ (ns : List ℕ). IsTextOf ns text × (length ns ≤ 4096)) same own

complete : (text numbers : List ℕ) → Parses text (Ok numbers) → cut_of text ≡ Some numbers
complete text numbers h =
    let is : numbers_in 0 text ≡ numbers = ap (numbers_in 0) h.0.text ∙ numbers_of_text numbers h.0.some h.0.small in
    let text_is : cut_text (numbers_in 0 text) ≡ text = ap cut_text is ∙ sym h.0.text in
    let same : bytes_eq (cut_text (numbers_in 0 text)) text ≡ true = (bytes_eq-Decides (cut_text (numbers_in 0 text)) text).1 text_is in
    let small : list_all (λ n. nat_lt n (2 ^ 32)) (numbers_in 0 text) ≡ true = ap (list_all (λ n. nat_lt n (2 ^ 32))) is ∙ small_test numbers h.0.small in
    let short : length (numbers_in 0 text) ≤ 4096 = subst (λ (ns : List ℕ). length ns ≤ 4096) (sym is) h.1 in
    let few : nat_le (length (numbers_in 0 text)) 4096 ≡ true = grind (arith, nat_tests) in
    rw (same, small, few) (ap Some is)

pub reading : ReadingLaw
reading text numbers = record { sound = sound text numbers; complete = complete text numbers }
