-- Texts that begin with a decimal number.
use Rattle.std.proofs.Common.{◌≡◌, ℕ, zero, suc, ◌+◌, ◌-◌, ◌*◌, ◌/◌, ◌%◌, ◌^◌, ◌<◌, ◌≤◌, true, false, List, [], ◌∷◌, ◌++◌, length, get_or, take, refl, sym, ap, ◌∙◌, subst, arith, decimal, append_assoc}
use Rattle.std.specs.Prelude.{flat_map}
use Rattle.std.specs.Char.{is_ascii_digit, digit_value}
use Rattle.std.specs.Str.Parse.{AllDigits, digits_value}
use Rattle.std.proofs.lemmas.Fmt.{decimal_is_IsNumeral, decimal_digit, decimal_step, decimal_injective, first_decimal}
use Rattle.std.proofs.lemmas.Str.Parse.{digits_value-take-le}
use Rattle.std.proofs.lemmas.Bool.Decides.{nat_tests}
use Rattle.kr_base.specs.Cuts.{dotted}

pub digits_of_number : (n : ℕ) → n < 2 ^ 32 → AllDigits 10 (decimal n)
digits_of_number n h = (decimal_is_IsNumeral n (omega arith)).0.1

pub some_digit : (n : ℕ) → n < 2 ^ 32 → 0 < length (decimal n)
some_digit n h = (decimal_is_IsNumeral n (omega arith)).0.0

digit_from_value : (b : ℕ) → digit_value b < 10 → is_ascii_digit b ≡ true
digit_from_value b h = grind (arith, nat_tests)

value_from_digit : (b : ℕ) → is_ascii_digit b ≡ true → (digit_value b < 10) × (48 ≤ b) × (b ≤ 57)
value_from_digit b t = (grind (arith, nat_tests), grind (arith, nat_tests), grind (arith, nat_tests))

-- the text doesn't begin with a digit
pub StartsPlain : List ℕ → Type 0
StartsPlain [] = Unit {0}
StartsPlain (b ∷ bs) = digit_value b < 10 → ⊥

plain_byte : (b : ℕ) (bs : List ℕ) → is_ascii_digit b ≡ false → StartsPlain (b ∷ bs)
unfolding StartsPlain
plain_byte b bs t = λ h. let d : is_ascii_digit b ≡ true = digit_from_value b h in cc

plain_dotted : (ns : List ℕ) → StartsPlain (flat_map dotted ns)
unfolding StartsPlain
plain_dotted [] = tt
plain_dotted (n ∷ ns) = λ h. let d : is_ascii_digit 46 ≡ true = digit_from_value 46 h in cc

-- equal texts have equal leading digits
same_digits : (a b x y : List ℕ) → AllDigits 10 a → AllDigits 10 b → StartsPlain x → StartsPlain y → a ++ x ≡ b ++ y → (a ≡ b) × (x ≡ y)
unfolding StartsPlain
same_digits [] [] x y d e p q h = (refl, h)
same_digits [] (c ∷ b) x y d e p q h = absurd (let f : StartsPlain (c ∷ (b ++ y)) = subst (λ (t : List ℕ). StartsPlain t) h p in f e.0)
same_digits (c ∷ a) [] x y d e p q h = absurd (let f : StartsPlain (c ∷ (a ++ x)) = subst (λ (t : List ℕ). StartsPlain t) (sym h) q in f d.0)
same_digits (c ∷ a) (e ∷ b) x y d f p q h =
    let head : c ≡ e = cc in
    let tail : a ++ x ≡ b ++ y = cc in
    let rest : (a ≡ b) × (x ≡ y) = same_digits a b x y d.1 f.1 p q tail in
    let first : a ≡ b = rest.0 in
    (cc, rest.1)

-- shorter leading digits are a prefix of longer ones
front_digits : (a rest b y : List ℕ) → AllDigits 10 a → StartsPlain y → a ++ rest ≡ b ++ y → take (length a) b ≡ a
unfolding StartsPlain
front_digits [] rest b y d q h = refl
front_digits (c ∷ a) rest [] y d q h = absurd (let f : StartsPlain (c ∷ (a ++ rest)) = subst (λ (t : List ℕ). StartsPlain t) (sym h) q in f d.0)
front_digits (c ∷ a) rest (e ∷ b) y d q h =
    let head : c ≡ e = cc in
    let tail : a ++ rest ≡ b ++ y = cc in
    let more : take (length a) b ≡ a = front_digits a rest b y d.1 q tail in
    cc

-- equal texts that begin with a number begin with the same one
pub same_number : (m n : ℕ) (x : List ℕ) (later : List ℕ) → m < 2 ^ 32 → n < 2 ^ 32 → StartsPlain x → decimal m ++ x ≡ decimal n ++ flat_map dotted later → (m ≡ n) × (x ≡ flat_map dotted later)
same_number m n x later small small' p h =
    let both : (decimal m ≡ decimal n) × (x ≡ flat_map dotted later) = same_digits (decimal m) (decimal n) x (flat_map dotted later) (digits_of_number m small) (digits_of_number n small') p (plain_dotted later) h in
    (decimal_injective m n (omega arith) (omega arith) both.0, both.1)

pub same_dotted : (m n : ℕ) (earlier later : List ℕ) → m < 2 ^ 32 → n < 2 ^ 32 → decimal m ++ flat_map dotted earlier ≡ decimal n ++ flat_map dotted later → (m ≡ n) × (flat_map dotted earlier ≡ flat_map dotted later)
same_dotted m n earlier later small small' h = same_number m n (flat_map dotted earlier) later small small' (plain_dotted earlier) h

pub same_ended : (m n : ℕ) (x later : List ℕ) → m < 2 ^ 32 → n < 2 ^ 32 → decimal m ++ 46 ∷ x ≡ decimal n ++ flat_map dotted later → (m ≡ n) × (46 ∷ x ≡ flat_map dotted later)
same_ended m n x later small small' h = same_number m n (46 ∷ x) later small small' (plain_byte 46 x refl) h

-- ---- the byte after the digits of a number

starts_with_digit : (b : ℕ) (rest ds x : List ℕ) → 0 < length ds → AllDigits 10 ds → b ∷ rest ≡ ds ++ x → digit_value b < 10
starts_with_digit b rest [] x some d h = absurd (omega arith)
starts_with_digit b rest (c ∷ ds) x some d h = let e : b ≡ c = cc in subst (λ (k : ℕ). digit_value k < 10) (sym e) d.0

pub first_digit : (b : ℕ) → is_ascii_digit b ≡ true → (b - 48 < 2 ^ 32) × (b ∷ [] ≡ decimal (b - 48))
first_digit b t =
    let v : (digit_value b < 10) × (48 ≤ b) × (b ≤ 57) = value_from_digit b t in
    let low : 48 ≤ b = v.1 in
    let high : b ≤ 57 = v.2 in
    let small : b - 48 < 10 = omega arith in
    let is : 48 + (b - 48) ≡ b = omega arith in
    (omega arith, sym (decimal_digit (b - 48) small ∙ ap (λ (k : ℕ). k ∷ []) is))

pub no_first : (b n : ℕ) (later rest : List ℕ) → is_ascii_digit b ≡ false → n < 2 ^ 32 → b ∷ rest ≡ decimal n ++ flat_map dotted later → ⊥
no_first b n later rest t small h =
    let d : is_ascii_digit b ≡ true = digit_from_value b (starts_with_digit b rest (decimal n) (flat_map dotted later) (some_digit n small) (digits_of_number n small) h) in
    cc

starts_with_dot : (b : ℕ) (rest later : List ℕ) → b ∷ rest ≡ flat_map dotted later → b ≡ 46
starts_with_dot b rest [] h = absurd (cc (h))
starts_with_dot b rest (n ∷ ns) h = cc

pub no_byte : (number b n : ℕ) (later rest : List ℕ) → is_ascii_digit b ≡ false → (b ≡ 46 → ⊥) → number < 2 ^ 32 → n < 2 ^ 32 → decimal number ++ b ∷ rest ≡ decimal n ++ flat_map dotted later → ⊥
no_byte number b n later rest t other small small' h =
    other (starts_with_dot b rest later ((same_number number n (b ∷ rest) later small small' (plain_byte b rest t) h).1))

-- only a dot continues a number that begins with 0
zero_or_more : (n : ℕ) → (x : List ℕ) → (y : List ℕ) → n < 2 ^ 32 → 48 ∷ x ≡ decimal n ++ y → n ≡ 0
zero_or_more zero x y small h = refl
zero_or_more (suc n) x y small h =
    let high : 48 < get_or (decimal (suc n)) 0 0 = first_decimal (suc n) (omega arith) (omega arith) in
    absurd (go (decimal (suc n)) (some_digit (suc n) small) high h)
  where
    go : (ds : List ℕ) → 0 < length ds → 48 < get_or ds 0 0 → 48 ∷ x ≡ ds ++ y → ⊥
    go [] some high h = omega arith
    go (d ∷ ds) some high h = let e : 48 ≡ d = cc in omega arith

pub no_digit : (b n : ℕ) (later rest : List ℕ) → (b ≡ 46 → ⊥) → n < 2 ^ 32 → decimal 0 ++ b ∷ rest ≡ decimal n ++ flat_map dotted later → ⊥
no_digit b n later rest other small h =
    let zero_is : decimal 0 ≡ 48 ∷ [] = decimal_digit 0 (omega arith) in
    let first : 48 ∷ b ∷ rest ≡ decimal n ++ flat_map dotted later = ap (λ (t : List ℕ). t ++ b ∷ rest) (sym zero_is) ∙ h in
    let is : n ≡ 0 = zero_or_more n (b ∷ rest) (flat_map dotted later) small first in
    let n_is : decimal n ≡ 48 ∷ [] = ap decimal is ∙ zero_is in
    let both : 48 ∷ b ∷ rest ≡ 48 ∷ flat_map dotted later = first ∙ ap (λ (t : List ℕ). t ++ flat_map dotted later) n_is in
    other (starts_with_dot b rest later (cc))

-- one digit more
longer : (number b : ℕ) → 0 < number → number < 2 ^ 32 → 48 ≤ b → b ≤ 57 → decimal number ++ b ∷ [] ≡ decimal (number * 10 + (b - 48))
longer number b some small low high =
    let value : ℕ = number * 10 + (b - 48) in
    let step : decimal (number * 10 + (b - 48)) ≡ decimal ((number * 10 + (b - 48)) / 10) ++ ((48 + (number * 10 + (b - 48)) % 10) ∷ []) = decimal_step (number * 10 + (b - 48)) (omega arith) (omega arith) in
    let front : (number * 10 + (b - 48)) / 10 ≡ number = omega arith in
    let last : 48 + (number * 10 + (b - 48)) % 10 ≡ b = omega arith in
    sym (step ∙ (ap (λ (k : ℕ). decimal k ++ ((48 + (number * 10 + (b - 48)) % 10) ∷ [])) front ∙ ap (λ (k : ℕ). decimal number ++ k ∷ []) last))

pub longer_number : (number b : ℕ) → is_ascii_digit b ≡ true → 0 < number → number < 2 ^ 32 → decimal number ++ b ∷ [] ≡ decimal (number * 10 + (b - 48))
longer_number number b t some small =
    let v : (digit_value b < 10) × (48 ≤ b) × (b ≤ 57) = value_from_digit b t in
    longer number b some small v.1 v.2

pub too_large : (number b n : ℕ) (later rest : List ℕ) → is_ascii_digit b ≡ true → 0 < number → number < 2 ^ 32 → 2 ^ 32 ≤ number * 10 + (b - 48) → n < 2 ^ 32
    → decimal number ++ b ∷ rest ≡ decimal n ++ flat_map dotted later → ⊥
too_large number b n later rest t some small large small' h =
    let v : (digit_value b < 10) × (48 ≤ b) × (b ≤ 57) = value_from_digit b t in
    let high : b ≤ 57 = v.2 in
    let value : ℕ = number * 10 + (b - 48) in
    let within : number * 10 + (b - 48) < 2 ^ 64 = omega arith in
    let longer : decimal number ++ b ∷ [] ≡ decimal (number * 10 + (b - 48)) = longer_number number b t some small in
    let numeral = decimal_is_IsNumeral (number * 10 + (b - 48)) within in
    let regrouped : decimal (number * 10 + (b - 48)) ++ rest ≡ decimal n ++ flat_map dotted later =
    ap (λ (t : List ℕ). t ++ rest) (sym longer) ∙ (append_assoc (decimal number) (b ∷ []) rest ∙ h) in
    let front : take (length (decimal (number * 10 + (b - 48)))) (decimal n) ≡ decimal (number * 10 + (b - 48)) =
    front_digits (decimal (number * 10 + (b - 48))) rest (decimal n) (flat_map dotted later) numeral.0.1 (plain_dotted later) regrouped in
    let less : digits_value 10 (take (length (decimal (number * 10 + (b - 48)))) (decimal n)) ≤ digits_value 10 (decimal n) = digits_value-take-le 10 (decimal n) (length (decimal (number * 10 + (b - 48)))) (omega arith) in
    let front_value : digits_value 10 (take (length (decimal (number * 10 + (b - 48)))) (decimal n)) ≡ number * 10 + (b - 48) = ap (digits_value 10) front ∙ numeral.1 in
    let n_value : digits_value 10 (decimal n) ≡ n = (decimal_is_IsNumeral n (omega arith)).1 in
    omega arith
