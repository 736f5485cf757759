-- To be believed: the texts of cuts, and the first fault of any other text.
use Rattle.std.specs.Prelude.{◌≡◌, ℕ, ◌+◌, ◌*◌, ◌^◌, ◌<◌, ◌≤◌, ◌==◌, ◌⊎◌, ◌&&◌, List, [], ◌∷◌, ◌++◌, All, length, take, nat_lt, nat_le, Option, Some, None, Result, Ok, Err, if◌then◌else◌}
use Rattle.std.specs.List.{list_all}
use Rattle.std.specs.Char.{digit_value}
use Rattle.std.specs.Str.{bytes_eq}
use Rattle.kr_base.specs.declared.cut.reading.CutRefusal.{CutRefusal}
use Rattle.kr_base.specs.declared.cut.reading.CutRefusal.TheVariants.{Malformed, TooLong, NoMemory}
use Rattle.kr_base.specs.Cuts.{cut_text}

-- the text of one or more numbers below 2^32
pub record IsTextOf (numbers bytes : List ℕ) : Type 0 where
  pub some : 0 < length numbers
  pub small : All (λ n. n < 2 ^ 32) numbers
  pub text : bytes ≡ cut_text numbers

-- a prefix of some cut's text
abbrev pub Begins : List ℕ → Type 0
Begins front = (numbers rest : List ℕ) × IsTextOf numbers (front ++ rest)

-- No cut's text begins with the bytes up to and including this one; or the text ends here, and is no cut's.
abbrev pub EndsAt : List ℕ → ℕ → Type 0
EndsAt text at = ((at < length text) × ¬ (Begins (take (at + 1) text))) ⊎ ((at ≡ length text) × ((numbers : List ℕ) → ¬ (IsTextOf numbers text)))

-- the first fault
pub record IsFault (text : List ℕ) (at : ℕ) : Type 0 where
  pub before : Begins (take at text)
  pub here : EndsAt text at

-- The result of parsing: the cut; the first fault; or the count of numbers, if there are more than 4,096.
abbrev pub Parses : List ℕ → Result (List ℕ) CutRefusal → Type 0
Parses text (Ok numbers) = IsTextOf numbers text × (length numbers ≤ 4096)
Parses text (Err (Malformed at)) = IsFault text at
Parses text (Err (TooLong count)) = (numbers : List ℕ) × IsTextOf numbers text × (length numbers ≡ count) × (4096 < count)
Parses text (Err (NoMemory _)) = Unit {0}

-- the values of the parts between dots; `value` is that of the digits before
abbrev pub numbers_in : ℕ → List ℕ → List ℕ
numbers_in value [] = value ∷ []
numbers_in value (b ∷ bs) = if b == 46 then value ∷ numbers_in 0 bs else numbers_in (value * 10 + digit_value b) bs

-- the cut of a text, if writing that cut gives the text
abbrev pub cut_of : List ℕ → Option (List ℕ)
cut_of text =
    let numbers = numbers_in 0 text in
    if bytes_eq (cut_text numbers) text && (list_all (λ n. nat_lt n (2 ^ 32)) numbers && nat_le (length numbers) 4096) then Some numbers else None

-- `cut_of` computes `Parses`
pub record ReadsAs (text numbers : List ℕ) : Type 0 where
  pub sound : cut_of text ≡ Some numbers → Parses text (Ok numbers)
  pub complete : Parses text (Ok numbers) → cut_of text ≡ Some numbers

abbrev pub ReadingLaw : Type 0
ReadingLaw = (text numbers : List ℕ) → ReadsAs text numbers

-- not out of memory
abbrev pub LacksNone : Result (List ℕ) CutRefusal → Type 0
LacksNone (Ok numbers) = Unit {0}
LacksNone (Err (Malformed at)) = Unit {0}
LacksNone (Err (TooLong count)) = Unit {0}
LacksNone (Err (NoMemory _)) = ⊥

-- a text has one result, unless memory runs out
abbrev pub OneReading : Type 0
OneReading = (text : List ℕ) (r s : Result (List ℕ) CutRefusal) → Parses text r → Parses text s → LacksNone r → LacksNone s → r ≡ s

-- parsing undoes writing for cuts of 1 to 4,096 numbers, unless memory runs out
abbrev pub RoundTrip : Type 0
RoundTrip = (numbers : List ℕ) (r : Result (List ℕ) CutRefusal) → 0 < length numbers → length numbers ≤ 4096 → All (λ n. n < 2 ^ 32) numbers →
    Parses (cut_text numbers) r → LacksNone r → r ≡ Ok numbers
