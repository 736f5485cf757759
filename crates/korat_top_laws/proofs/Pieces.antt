-- Words, numbers and cuts, as they are written and read.
use Rattle.std.proofs.Common.{◌≡◌, ℕ, zero, suc, ◌/◌, ◌%◌, ◌^◌, ◌<◌, Bool, true, false, List, [], ◌∷◌, ◌++◌, refl, sym, ap, ◌∙◌, arith, decimal, nat_lt}
use Rattle.std.specs.Prelude.{Some, None, ◌==◌, codes, flat_map, if◌then◌else◌, option_and_then}
use Rattle.std.specs.Option.{option_map}
use Rattle.std.specs.Fmt.{digits, digits_onto, digit_glyph}
use Rattle.std.specs.Str.{bytes_eq}
use Rattle.std.proofs.lemmas.Bool.Decides.{nat_tests}
use Rattle.std.proofs.lemmas.Slice.Eq.{bytes_eq-Decides}
use Rattle.kr_base.specs.declared.span.Bound.{Bound}
use Rattle.kr_base.specs.declared.span.Bound.TheVariants.{At, End}
use Rattle.kr_base.specs.Cuts.{cut_text, dotted}
use Rattle.kr_base.specs.Parsing.{cut_of}
use Rattle.kr_text.specs.Splitting.{IsWithout, number_of, onto}
use Rattle.kr_text.proofs.Readings.{number_read}
use Rattle.kr_report_streaming.specs.Traces.{bound_text}
use Rattle.kr_shard_laws.proofs.Bytes.{without_append}
use Rattle.kr_shard_laws.proofs.Numbers.{digit_line}
use Rattle.kr_trace.specs.Words.{bound_of, seat_of, words_in}
use Rattle.korat_top_laws.specs.Printed.{IsShown, IsShownBound}

-- neither a line feed nor a space
pub record IsWord (text : List ℕ) : Type 0 where
  pub one_line : IsWithout 10 text
  pub one_word : IsWithout 32 text

word_append : (xs ys : List ℕ) → IsWord xs → IsWord ys → IsWord (xs ++ ys)
word_append xs ys h k = record { one_line = without_append 10 xs ys h.one_line k.one_line; one_word = without_append 32 xs ys h.one_word k.one_word }

digit_word : (n : ℕ) → (digit_glyph false (n % 10) == 32) ≡ false
digit_word n = grind (arith, nat_tests)

more_digit : (n : ℕ) (acc : List ℕ) → IsWord acc → IsWord (digit_glyph false (n % 10) ∷ acc)
more_digit n acc h = record { one_line = (digit_line n, h.one_line); one_word = (digit_word n, h.one_word) }

either : (b : Bool) (x y : List ℕ) → IsWord x → IsWord y → IsWord (if b then x else y)
either true x y h k = h
either false x y h k = k

digits_word : (k n : ℕ) (acc : List ℕ) → IsWord acc → IsWord (digits_onto k 10 false n acc)
digits_word zero n acc h = h
digits_word (suc k) n acc h =
    let more = digit_glyph false (n % 10) ∷ acc in
    either (n / 10 == 0) more (digits_onto k 10 false (n / 10) more) (more_digit n acc h) (digits_word k (n / 10) more (more_digit n acc h))

no_byte : IsWord []
no_byte = record { one_line = tt; one_word = tt }

pub number_word : (n : ℕ) → IsWord (decimal n)
unfolding digits
number_word n = digits_word 64 n [] no_byte

dotted_word : (n : ℕ) → IsWord (dotted n)
dotted_word n = record { one_line = (refl, (number_word n).one_line); one_word = (refl, (number_word n).one_word) }

later_word : (ns : List ℕ) → IsWord (flat_map dotted ns)
later_word [] = no_byte
later_word (n ∷ ns) = word_append (dotted n) (flat_map dotted ns) (dotted_word n) (later_word ns)

pub cut_word : (cut : List ℕ) → IsWord (cut_text cut)
cut_word [] = no_byte
cut_word (n ∷ ns) = word_append (decimal n) (flat_map dotted ns) (number_word n) (later_word ns)

pub bound_word : (b : Bound) → IsWord (bound_text b)
bound_word (At cut) = cut_word cut
bound_word End = record { one_line = (refl, (refl, (refl, tt))); one_word = (refl, (refl, (refl, tt))) }

-- ---- words

-- a word before a space
pub spaced : (word rest : List ℕ) → IsWithout 32 word → words_in (word ++ 32 ∷ rest) ≡ word ∷ words_in rest
spaced [] rest h = refl
spaced (b ∷ bs) rest h = rw h.0 (ap (onto b) (spaced bs rest h.1))

-- a word alone
pub alone : (word : List ℕ) → IsWithout 32 word → words_in word ≡ word ∷ []
alone [] h = refl
alone (b ∷ bs) h = rw h.0 (ap (onto b) (alone bs h.1))

-- ---- numbers and cuts are read as they are

pub number_back : (n : ℕ) → n < 2 ^ 64 → number_of (decimal n) ≡ Some n
number_back n h = sym (number_read n (decimal n) h refl)

below_is : (n m : ℕ) → n < m → nat_lt n m ≡ true
below_is n m h = grind (arith, nat_tests)

pub seat_back : (n : ℕ) → n < 2 ^ 32 → seat_of (decimal n) ≡ Some n
seat_back n h =
    let fits : n < 2 ^ 64 = omega (arith, h) in
    let below = below_is n (2 ^ 32) h in
    ap (option_and_then (λ (k : ℕ). if nat_lt k (2 ^ 32) then Some k else None)) (number_back n fits) ∙ ap (λ (b : Bool). if b then Some n else None) below

-- a cut's text isn't `end`
not_end : (cut : List ℕ) → IsShown cut → bytes_eq (cut_text cut) (codes "end") ≡ false
unfolding digits
not_end cut h = go (bytes_eq (cut_text cut) (codes "end")) refl
  where
    go : (t : Bool) → bytes_eq (cut_text cut) (codes "end") ≡ t → t ≡ false
    go false is = refl
    go true is =
        let same : cut_text cut ≡ codes "end" = (bytes_eq-Decides (cut_text cut) (codes "end")).0 is in
        let none : None ≡ Some cut = sym (ap cut_of same) ∙ h in
        absurd (cc (none))

pub bound_back : (b : Bound) → IsShownBound b → bound_of (bound_text b) ≡ Some b
bound_back End h = refl
bound_back (At cut) h =
    ap (λ (t : Bool). if t then Some End else option_map At (cut_of (cut_text cut))) (not_end cut h) ∙ ap (option_map At) h
