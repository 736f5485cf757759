-- Cuts and numbers, as they are read.
use Rattle.std.proofs.Common.{◌≡◌, ◌<◌, ◌≤◌, ◌^◌, ℕ, zero, suc, lit<, Bool, true, false, ◌&&◌, List, [], ◌∷◌, ◌++◌, All, refl, sym, ap, ◌∙◌, subst, arith, nat_lt, Option, Some, None, decimal}
use Rattle.std.specs.Prelude.{Ok, Err, flat_map, if◌then◌else◌}
use Rattle.std.specs.Str.{bytes_eq, IsUtf8, IsAscii}
use Rattle.std.specs.Str.Parse.{digits_value}
use Rattle.std.proofs.lemmas.Fmt.{decimal_is_IsNumeral, IsAscii-decimal}
use Rattle.std.proofs.lemmas.Slice.Eq.{bytes_eq-Decides}
use Rattle.std.proofs.lemmas.Str.{IsAscii-append, IsUtf8-from_ascii}
use Rattle.std.proofs.lemmas.Str.Ascii.{IsAscii-nil}
use Rattle.std.proofs.lemmas.Bool.Decides.{nat_tests}
use Rattle.kr_base.specs.declared.cut.reading.CutRefusal.{CutRefusal}
use Rattle.kr_base.specs.Cuts.{cut_text, dotted}
use Rattle.kr_base.specs.Parsing.{LacksNone, Parses, cut_of}
use Rattle.kr_base.proofs.Stages.{Small, head_small, tail_small, one_reading}
use Rattle.kr_base.proofs.Readings.{reading}
use Rattle.kr_text.specs.Splitting.{number_of}

-- ---- cuts

pub no_cut : (o : Option (List ℕ)) → ((numbers : List ℕ) → o ≡ Some numbers → ⊥) → None ≡ o
no_cut None h = refl
no_cut (Some numbers) h = absurd (h numbers refl)

pub cut_read : (bytes text numbers : List ℕ) → text ≡ bytes → Parses text (Ok numbers) → Some numbers ≡ cut_of bytes
cut_read bytes text numbers same read = sym ((reading bytes numbers).complete (subst (λ (t : List ℕ). Parses t (Ok numbers)) same read))

pub cut_refused : (bytes text : List ℕ) (e : CutRefusal) → text ≡ bytes → Parses text (Err e) → LacksNone (Err e) → None ≡ cut_of bytes
cut_refused bytes text e same refused other = no_cut (cut_of bytes) (λ numbers is.
    let wrong = one_reading bytes (Ok numbers) (Err e) ((reading bytes numbers).sound is) (subst (λ (t : List ℕ). Parses t (Err e)) same refused) tt other in
    cc)

ascii_dotted : (n : ℕ) → n < 2 ^ 32 → IsAscii (dotted n)
ascii_dotted n h = IsAscii-append (46 ∷ []) (decimal n) dot (IsAscii-decimal n (omega arith))
  where
    dot : IsAscii (46 ∷ [])
    dot zero = lit< tt
    dot (suc i) = lit< tt

ascii_later : (numbers : List ℕ) → Small numbers → IsAscii (flat_map dotted numbers)
ascii_later [] h = IsAscii-nil
ascii_later (n ∷ ns) h = IsAscii-append (dotted n) (flat_map dotted ns) (ascii_dotted n (head_small n ns h)) (ascii_later ns (tail_small n ns h))

pub ascii_cut : (numbers : List ℕ) → Small numbers → IsAscii (cut_text numbers)
ascii_cut [] h = IsAscii-nil
ascii_cut (n ∷ ns) h = IsAscii-append (decimal n) (flat_map dotted ns) (IsAscii-decimal n (let small = head_small n ns h in omega arith)) (ascii_later ns (tail_small n ns h))

-- bytes that aren't text are no cut's
pub no_text : (text : List ℕ) → ¬ (IsUtf8 text) → None ≡ cut_of text
no_text text h = no_cut (cut_of text) (λ numbers is.
    let read = (reading text numbers).sound is in
    h (subst IsUtf8 (sym read.0.text) (IsUtf8-from_ascii (cut_text numbers) (ascii_cut numbers read.0.small))))

-- ---- numbers

both_true : (a b : Bool) → (a && b) ≡ true → (a ≡ true) × (b ≡ true)
both_true true b h = (refl, h)
both_true false b h = absurd (cc (h))

none_unless : (o : Option ℕ) → ((n : ℕ) → o ≡ Some n → ⊥) → None ≡ o
none_unless None h = refl
none_unless (Some n) h = absurd (h n refl)

-- a text that is read as a number is what is written of it
pub number_text : (text : List ℕ) (n : ℕ) → number_of text ≡ Some n → (text ≡ decimal n) × (n < 2 ^ 64)
number_text text n = go (bytes_eq (decimal (digits_value 10 text)) text && nat_lt (digits_value 10 text) (2 ^ 64)) refl
  where
    go : (t : Bool) → (bytes_eq (decimal (digits_value 10 text)) text && nat_lt (digits_value 10 text) (2 ^ 64)) ≡ t
        → (if t then Some (digits_value 10 text) else None) ≡ Some n → (text ≡ decimal n) × (n < 2 ^ 64)
    go false is e = absurd (cc (e))
    go true is e =
        let same : digits_value 10 text ≡ n = cc (e) in
        let both = both_true (bytes_eq (decimal (digits_value 10 text)) text) (nat_lt (digits_value 10 text) (2 ^ 64)) is in
        let below : nat_lt (digits_value 10 text) (2 ^ 64) ≡ true = both.1 in
        let text_is : decimal (digits_value 10 text) ≡ text = (bytes_eq-Decides (decimal (digits_value 10 text)) text).0 both.0 in
        let own : (text ≡ decimal (digits_value 10 text)) × (digits_value 10 text < 2 ^ 64) = (sym text_is, grind (arith, nat_tests)) in
        subst (λ (k : ℕ). (text ≡ decimal k) × (k < 2 ^ 64)) same own

-- what is written of a number is read as it
pub number_read : (n : ℕ) (text : List ℕ) → n < 2 ^ 64 → decimal n ≡ text → Some n ≡ number_of text
number_read n text fits is =
    let value : digits_value 10 text ≡ n = ap (digits_value 10) (sym is) ∙ (decimal_is_IsNumeral n fits).1 in
    let text_is : decimal (digits_value 10 text) ≡ text = ap decimal value ∙ is in
    let same : bytes_eq (decimal (digits_value 10 text)) text ≡ true = (bytes_eq-Decides (decimal (digits_value 10 text)) text).1 text_is in
    let below : nat_lt (digits_value 10 text) (2 ^ 64) ≡ true = rw value (grind (arith, nat_tests)) in
    rw (same, below) (ap Some (sym value))

-- no number is read
pub number_none : (text : List ℕ) → ((m : ℕ) → m < 2 ^ 64 → text ≡ decimal m → ⊥) → None ≡ number_of text
number_none text no_number = none_unless (number_of text) (λ m e.
    let is = number_text text m e in
    no_number m is.1 is.0)

-- bytes that aren't text are no number's
pub no_digits : (text : List ℕ) → ¬ (IsUtf8 text) → None ≡ number_of text
no_digits text h = number_none text (λ m fits is. h (subst IsUtf8 (sym is) (IsUtf8-from_ascii (decimal m) (IsAscii-decimal m fits))))

-- a number is read whose text is another one
pub number_unlike : (bytes text : List ℕ) (n : ℕ) → text ≡ bytes → (decimal n ≡ text → ⊥) → ((m : ℕ) → m < 2 ^ 64 → text ≡ decimal m → n ≡ m) → None ≡ number_of bytes
number_unlike bytes text n same other only = number_none bytes (λ m fits is.
    other (ap decimal (only m fits (same ∙ is)) ∙ sym (same ∙ is)))
