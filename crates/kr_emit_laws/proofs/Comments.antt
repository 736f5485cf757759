-- Texts that a comment may have.
use Rattle.std.proofs.Common.{◌≡◌, ℕ, zero, suc, ◌/◌, ◌%◌, Bool, true, false, not, ◌&&◌, ◌||◌, ◌==◌, nat_lt, List, [], ◌∷◌, ◌++◌, refl, sym, ap, ◌∙◌, arith}
use Rattle.std.specs.Prelude.{decimal, flat_map, if◌then◌else◌}
use Rattle.std.specs.Fmt.{digits, digits_onto, digit_glyph}
use Rattle.std.specs.List.{AllByRecursion}
use Rattle.std.specs.Str.{IsAscii}
use Rattle.std.proofs.lemmas.Bool.{and_parts, ltb-true}
use Rattle.std.proofs.lemmas.Bool.Decides.{nat_tests}
use Rattle.std.proofs.lemmas.Str.{IsUtf8-from_ascii}
use Rattle.kr_base.specs.Cuts.{cut_text, dotted}
use Rattle.kr_lex.specs.Characters.{is_line_end}
use Rattle.kr_shard_laws.proofs.Numbers.{digit_line}
use Rattle.kr_emit_laws.specs.Printable.{IsComment}

-- ASCII within a line
abbrev is_plain : ℕ → Bool
is_plain b = nat_lt b 128 && not (is_line_end b)

abbrev pub all_plain : List ℕ → Bool
all_plain [] = true
all_plain (b ∷ bs) = is_plain b && all_plain bs

pub plain_append : (xs ys : List ℕ) → all_plain xs ≡ true → all_plain ys ≡ true → all_plain (xs ++ ys) ≡ true
plain_append [] ys h k = k
plain_append (x ∷ xs) ys h k =
    let p = and_parts (is_plain x) (all_plain xs) h in
    ap (λ (b : Bool). b && all_plain (xs ++ ys)) p.0 ∙ plain_append xs ys p.1 k

-- ---- numbers and cuts

low_digit : (n : ℕ) → nat_lt (digit_glyph false (n % 10)) 128 ≡ true
low_digit n = grind (arith, nat_tests)

no_return : (n : ℕ) → (digit_glyph false (n % 10) == 13) ≡ false
no_return n = grind (arith, nat_tests)

plain_digit : (n : ℕ) → is_plain (digit_glyph false (n % 10)) ≡ true
plain_digit n =
    ap (λ (b : Bool). b && not (is_line_end (digit_glyph false (n % 10)))) (low_digit n)
    ∙ (ap (λ (b : Bool). not (b || (digit_glyph false (n % 10) == 13))) (digit_line n) ∙ ap not (no_return n))

more_digit : (n : ℕ) (acc : List ℕ) → all_plain acc ≡ true → all_plain (digit_glyph false (n % 10) ∷ acc) ≡ true
more_digit n acc h = ap (λ (b : Bool). b && all_plain acc) (plain_digit n) ∙ h

either : (b : Bool) (x y : List ℕ) → all_plain x ≡ true → all_plain y ≡ true → all_plain (if b then x else y) ≡ true
either true x y h k = h
either false x y h k = k

plain_digits : (k n : ℕ) (acc : List ℕ) → all_plain acc ≡ true → all_plain (digits_onto k 10 false n acc) ≡ true
plain_digits zero n acc h = h
plain_digits (suc k) n acc h =
    let more = digit_glyph false (n % 10) ∷ acc in
    either (n / 10 == 0) more (digits_onto k 10 false (n / 10) more) (more_digit n acc h) (plain_digits k (n / 10) more (more_digit n acc h))

pub plain_number : (n : ℕ) → all_plain (decimal n) ≡ true
unfolding digits
plain_number n = plain_digits 64 n [] refl

plain_later : (ns : List ℕ) → all_plain (flat_map dotted ns) ≡ true
plain_later [] = refl
plain_later (n ∷ ns) = plain_append (dotted n) (flat_map dotted ns) (plain_number n) (plain_later ns)

pub plain_cut : (cut : List ℕ) → all_plain (cut_text cut) ≡ true
plain_cut [] = refl
plain_cut (n ∷ ns) = plain_append (decimal n) (flat_map dotted ns) (plain_number n) (plain_later ns)

-- ---- comments

no_end : (b : ℕ) → not (is_line_end b) ≡ true → is_line_end b ≡ false
no_end b h = go (is_line_end b) h
  where
    go : (t : Bool) → not t ≡ true → t ≡ false
    go true e = sym e
    go false e = refl

in_line : (text : List ℕ) → all_plain text ≡ true → AllByRecursion (λ (b : ℕ). is_line_end b ≡ false) text
in_line [] h = tt
in_line (b ∷ bs) h =
    let p = and_parts (is_plain b) (all_plain bs) h in
    (no_end b (and_parts (nat_lt b 128) (not (is_line_end b)) p.0).1, in_line bs p.1)

ascii : (text : List ℕ) → all_plain text ≡ true → IsAscii text
ascii [] h i = omega arith
ascii (b ∷ bs) h zero = ltb-true b 128 (and_parts (nat_lt b 128) (not (is_line_end b)) (and_parts (is_plain b) (all_plain bs) h).0).0
ascii (b ∷ bs) h (suc i) = ascii bs (and_parts (is_plain b) (all_plain bs) h).1 i

pub plain_comment : (text : List ℕ) → all_plain text ≡ true → IsComment text
plain_comment text h = record { in_line = in_line text h; utf8 = IsUtf8-from_ascii text (ascii text h) }
