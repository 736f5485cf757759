-- Numbers and cuts, as they are parsed.
use Rattle.std.proofs.Common.{◌≡◌, ◌<◌, ◌≤◌, ◌^◌, ℕ, Bool, true, false, ◌&&◌, List, refl, sym, ap, ◌∙◌, subst, arith, nat_le, Option, Some, None, decimal}
use Rattle.std.specs.Prelude.{Ok, Err, if◌then◌else◌}
use Rattle.std.specs.Str.{bytes_eq}
use Rattle.std.specs.Str.Parse.{digits_value}
use Rattle.std.proofs.lemmas.Fmt.{decimal_is_IsNumeral}
use Rattle.std.proofs.lemmas.Slice.Eq.{bytes_eq-Decides}
use Rattle.std.proofs.lemmas.Bool.Decides.{nat_tests}
use Rattle.std.proofs.lemmas.Bool.{and_parts}
use Rattle.kr_base.specs.declared.cut.reading.CutRefusal.{CutRefusal}
use Rattle.kr_base.specs.Parsing.{LacksNone, Parses, cut_of, OneReading, ReadingLaw}
use Rattle.kr_args.specs.Reading.{number_in}

-- ---- numbers

-- a text that is parsed as a number within the limits is its decimal text
pub number_text : (low high : ℕ) (text : List ℕ) (n : ℕ) → number_in low high text ≡ Some n → (text ≡ decimal n) × (low ≤ n) × (n ≤ high)
number_text low high text n = go (bytes_eq (decimal (digits_value 10 text)) text && (nat_le low (digits_value 10 text) && nat_le (digits_value 10 text) high)) refl
  where
    go : (t : Bool) → (bytes_eq (decimal (digits_value 10 text)) text && (nat_le low (digits_value 10 text) && nat_le (digits_value 10 text) high)) ≡ t
        → (if t then Some (digits_value 10 text) else None) ≡ Some n → (text ≡ decimal n) × (low ≤ n) × (n ≤ high)
    go false is e = absurd (cc (e))
    go true is e =
        let same : digits_value 10 text ≡ n = cc (e) in
        let first = and_parts (bytes_eq (decimal (digits_value 10 text)) text) (nat_le low (digits_value 10 text) && nat_le (digits_value 10 text) high) is in
        let rest = and_parts (nat_le low (digits_value 10 text)) (nat_le (digits_value 10 text) high) first.1 in
        let at_least : nat_le low (digits_value 10 text) ≡ true = rest.0 in
        let at_most : nat_le (digits_value 10 text) high ≡ true = rest.1 in
        let text_is : decimal (digits_value 10 text) ≡ text = (bytes_eq-Decides (decimal (digits_value 10 text)) text).0 first.0 in
        let own : (text ≡ decimal (digits_value 10 text)) × (low ≤ digits_value 10 text) × (digits_value 10 text ≤ high) = (sym text_is, grind (arith, nat_tests), grind (arith, nat_tests)) in
        subst (λ (k : ℕ). (text ≡ decimal k) × (low ≤ k) × (k ≤ high)) same own

-- parsing undoes writing for numbers within the limits
pub number_read : (low high n : ℕ) (text : List ℕ) → n < 2 ^ 32 → decimal n ≡ text → low ≤ n → n ≤ high → Some n ≡ number_in low high text
number_read low high n text fits is at_least at_most =
    let value : digits_value 10 text ≡ n = ap (digits_value 10) (sym is) ∙ (decimal_is_IsNumeral n (omega arith)).1 in
    let text_is : decimal (digits_value 10 text) ≡ text = ap decimal value ∙ is in
    let same : bytes_eq (decimal (digits_value 10 text)) text ≡ true = (bytes_eq-Decides (decimal (digits_value 10 text)) text).1 text_is in
    let low_is : nat_le low (digits_value 10 text) ≡ true = rw value (grind (arith, nat_tests)) in
    let high_is : nat_le (digits_value 10 text) high ≡ true = rw value (grind (arith, nat_tests)) in
    rw (same, low_is, high_is) (ap Some (sym value))

none_unless : (o : Option ℕ) → ((n : ℕ) → o ≡ Some n → ⊥) → None ≡ o
none_unless None h = refl
none_unless (Some n) h = absurd (h n refl)

-- a parsed number with another text
pub number_unlike : (low high n : ℕ) (text : List ℕ) → (decimal n ≡ text → ⊥) → ((m : ℕ) → m < 2 ^ 32 → text ≡ decimal m → n ≡ m) → high < 2 ^ 32 → None ≡ number_in low high text
number_unlike low high n text other only fits = none_unless (number_in low high text) (λ m e.
    let is = number_text low high text m e in
    let small : m < 2 ^ 32 = omega (arith, is.2) in
    other (ap decimal (only m small is.0) ∙ sym is.0))

-- a parsed number beyond the limits
pub number_past : (low high n : ℕ) (text : List ℕ) → decimal n ≡ text → n < 2 ^ 32 → ((low ≤ n) × (n ≤ high) → ⊥) → high < 2 ^ 32 → None ≡ number_in low high text
number_past low high n text is fits past high_fits = none_unless (number_in low high text) (λ m e.
    let read = number_text low high text m e in
    let small : m < 2 ^ 32 = omega (arith, read.2) in
    let value : n ≡ m = sym ((decimal_is_IsNumeral n (omega arith)).1) ∙ (ap (digits_value 10) (is ∙ read.0) ∙ (decimal_is_IsNumeral m (omega arith)).1) in
    past (omega (arith, read.1), omega (arith, read.2)))

-- no parsed number
pub number_none : (low high : ℕ) (text : List ℕ) → ((m : ℕ) → m < 2 ^ 32 → text ≡ decimal m → ⊥) → high < 2 ^ 32 → None ≡ number_in low high text
number_none low high text no_number fits = none_unless (number_in low high text) (λ m e.
    let is = number_text low high text m e in
    no_number m (omega (arith, is.2)) is.0)

-- ---- cuts

no_cut : (o : Option (List ℕ)) → ((numbers : List ℕ) → o ≡ Some numbers → ⊥) → o ≡ None
no_cut None h = refl
no_cut (Some numbers) h = absurd (h numbers refl)

pub cut_refused : (text : List ℕ) (e : CutRefusal) → ReadingLaw → OneReading → Parses text (Err e) → LacksNone (Err e) → cut_of text ≡ None
cut_refused text e computed one refused other = no_cut (cut_of text) (λ numbers is.
    let wrong = one text (Ok numbers) (Err e) ((computed text numbers).sound is) refused tt other in
    cc)
