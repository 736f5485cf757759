-- Tokens before a rest of a text.
use Rattle.std.proofs.Common.{◌≡◌, ℕ, ◌+◌, ◌-◌, ◌^◌, ◌<◌, ◌≤◌, ◌⊎◌, inl, inr, true, false, ◌&&◌, List, [], ◌∷◌, ◌++◌, length, slice_index, refl, sym, ap, subst, ◌∙◌, arith, length-append}
use Rattle.std.specs.Prelude.{codes, decimal}
use Rattle.std.specs.Char.{is_ascii_digit, is_ascii_lowercase}
use Rattle.std.specs.Str.{IsUtf8, encode_utf8_all}
use Rattle.std.specs.Str.Parse.{AllDigits}
use Rattle.std.proofs.lemmas.Str.{encode_ascii, char_from_byte}
use Rattle.std.proofs.lemmas.Fmt.{decimal_is_IsNumeral_wide, first_decimal, decimal_digit}
use Rattle.std.proofs.lemmas.Bool.{and_parts, both_ways, cases_lt}
use Rattle.std.proofs.lemmas.Bool.Decides.{nat_tests}
use Rattle.std.proofs.lemmas.List.{take_at, get_or-append-add}
use Rattle.std.proofs.Math.Utf8.{scalars}
use lib.Utf8.{low_scalar}
use Rattle.kr_lex.specs.declared.kind.Kind.{Kind}
use Rattle.kr_lex.specs.declared.kind.Kind.TheVariants as kinds
use Rattle.kr_lex.specs.Characters.{is_start, AllParts, EndsWord}
use Rattle.kr_lex.specs.Lexemes.{number_value, long_number_value}
use Rattle.kr_lex.specs.Pieces.{IsSymbolic, IsLongestFixed, StartsName}
use Rattle.kr_lex.specs.Spelling.{spelling}
use Rattle.kr_lex.specs.Spells.{IsTokenHere, anywhere, within}
use Rattle.kr_lex.specs.Table.{beginning_with}
use Rattle.kr_lex.specs.Words.{IsNumberTo, IsLongNumber, IsToken, name, number, long_number, fixed, before_suffix}
use Rattle.kr_lex.proofs.Classes.{start_ascii, part_ascii_is, start_is_part, symbol_facts, small_run, digits_run, long_run, token_some, first_byte, run_is_longest, no_symbol_at_name, no_symbol_at_digit}
use Rattle.kr_lex.proofs.Fronts.{no_part_ascii}
use Rattle.kr_lex.proofs.Listing.{is_symbol, all_small}
use Rattle.kr_lex.proofs.Longest.{comment_slash, fixed_longest}
use Rattle.kr_lex.proofs.Lookup.{found_at, none_more}
use Rattle.kr_lex.proofs.Numbers.{number_byte, long_byte, digit_at, digit_from_value}
use Rattle.kr_lex.proofs.Shapes.{shape, spelled_utf8}
use Rattle.kr_shard_laws.proofs.PredefinedNames.{is_word, ascii_run}
use Rattle.kr_emit_meaning.specs.Buildable.{builders_name}
use Rattle.kr_emit_laws.specs.Printable.{IsIdentifier, IsNumbered}

-- ---- characters

-- no name goes on with this byte
pub ends : (b : ℕ) (rest : List ℕ) → b < 128 → is_word b ≡ false → EndsWord (b ∷ rest)
ends b rest low h = no_part_ascii (b ∷ rest) (omega arith) low (part_ascii_is b low ∙ h)

-- ---- words

-- a token of characters of names, where no name goes on
pub word_here : (kind : Kind) (text rest chars : List ℕ) → AllParts chars → encode_utf8_all chars ≡ text → is_symbol (slice_index text 0) ≡ false → EndsWord rest → IsToken kind text rest
    → IsTokenHere false kind text rest
word_here kind text rest chars parts e plain w t =
    let first : slice_index (text ++ rest) 0 ≡ slice_index text 0 = first_byte text rest (token_some kind text rest t) in
    let there : is_symbol (slice_index (encode_utf8_all chars ++ rest) 0) ≡ false = ap (λ x. is_symbol (slice_index (x ++ rest) 0)) e ∙ (ap is_symbol first ∙ plain) in
    anywhere (record {
      token = t;
      longest = λ other longer more z u.
          let y : encode_utf8_all chars ++ rest ≡ longer ++ more = ap (λ x. x ++ rest) e ∙ z in
          omega (arith, run_is_longest chars rest longer more other w there y u, ap length e);
      no_comment = λ b.
          let slash : slice_index text 0 ≡ 47 = sym first ∙ comment_slash (text ++ rest) b in
          let s : is_symbol (slice_index text 0) ≡ true = ap is_symbol slash ∙ refl in
          both_ways (is_symbol (slice_index text 0)) plain s;
    })

pub keyword_here : (kind : Kind) (text rest : List ℕ) → text ≡ spelling kind → all_small text ≡ true → 0 < length text → is_symbol (slice_index text 0) ≡ false → EndsWord rest
    → IsTokenHere false kind text rest
keyword_here kind text rest e small some plain w =
    let r = small_run text small in
    word_here kind text rest text r.0 r.1 plain w (fixed some e)

pub identifier_here : (text rest : List ℕ) → IsIdentifier text → EndsWord rest → IsTokenHere false kinds.Identifier text rest
identifier_here text rest h w =
    let n = h.named in
    let parts : AllParts (n.first ∷ n.others) = ((n.scalar, start_is_part n.first n.starts), n.parts) in
    let starts : StartsName text = record { char = n.first; rest = encode_utf8_all n.others; scalar = n.scalar; starts = n.starts; spelled = n.spelled } in
    word_here kinds.Identifier text rest (n.first ∷ n.others) parts (sym n.spelled) (no_symbol_at_name text starts) w (name refl n h.other)

-- ---- numbers

-- digits without a leading zero
no_zero : (n : ℕ) → n < 2 ^ 64 → slice_index (decimal n) 0 ≡ 48 → length (decimal n) ≡ 1
no_zero n small e = go (cases_lt 0 n)
  where
    go : (0 < n) ⊎ (n ≤ 0) → length (decimal n) ≡ 1
    go (inl some) = absurd (omega (arith, first_decimal n some small, e))
    go (inr none) = ap length (decimal_digit n (omega (arith, none)))

decimal_to : (limit n : ℕ) → n ≤ limit → limit < 2 ^ 64 → IsNumberTo limit (decimal n)
decimal_to limit n h small =
    let d = decimal_is_IsNumeral_wide n (omega (arith, h, small)) in
    record { some = d.0.0; digits = d.0.1; no_leading_zero = no_zero n (omega (arith, h, small)); within = omega (arith, d.1, h) }

-- an `int`, or what a minus sign makes one
pub number_here : (n : ℕ) (rest : List ℕ) → n ≤ 2147483648 → EndsWord rest → IsTokenHere false kinds.Number (decimal n) rest
number_here n rest h w =
    let d = decimal_to 2147483648 n h (omega arith) in
    let r = digits_run (decimal n) d.digits in
    word_here kinds.Number (decimal n) rest (decimal n) r.0 r.1 (no_symbol_at_digit (slice_index (decimal n) 0) (number_byte 2147483648 (decimal n) d)) w (number refl d w)

-- a number before its letter
letter_front : (ds : List ℕ) → before_suffix (ds ++ 76 ∷ []) ≡ ds
letter_front ds = take_at ds (76 ∷ []) (length (ds ++ 76 ∷ []) - 1) (omega (arith, length-append ds (76 ∷ [])))

letter_last : (ds : List ℕ) → slice_index (ds ++ 76 ∷ []) (length (ds ++ 76 ∷ []) - 1) ≡ 76
letter_last ds =
    let at : length (ds ++ 76 ∷ []) - 1 ≡ length ds + 0 = omega (arith, length-append ds (76 ∷ [])) in
    ap (slice_index (ds ++ 76 ∷ [])) at ∙ get_or-append-add ds (76 ∷ []) 0 0

decimal_long : (n : ℕ) → n ≤ 9223372036854775808 → IsLongNumber (decimal n ++ codes "L")
decimal_long n h =
    let d = decimal_to 9223372036854775808 n h (omega arith) in
    record {
      some = omega (arith, d.some, length-append (decimal n) (76 ∷ []));
      suffix = inl (letter_last (decimal n));
      number = rw (letter_front (decimal n)) d;
    }

pub long_here : (n : ℕ) (rest : List ℕ) → n ≤ 9223372036854775808 → EndsWord rest → IsTokenHere false kinds.LongNumber (decimal n ++ codes "L") rest
long_here n rest h w =
    let d = decimal_long n h in
    let text = decimal n ++ codes "L" in
    let r = long_run text d in
    word_here kinds.LongNumber text rest text r.0 r.1 (no_symbol_at_digit (slice_index text 0) (long_byte text d)) w (long_number refl d w)

-- what they are read as
pub number_read : (n : ℕ) → n < 10 ^ 64 → number_value (decimal n) ≡ n
number_read n h = (decimal_is_IsNumeral_wide n h).1

pub long_read : (n : ℕ) → n < 10 ^ 64 → long_number_value (decimal n ++ codes "L") ≡ n
long_read n h = ap number_value (letter_front (decimal n)) ∙ number_read n h

-- ---- names with numbers

digit_small : (b : ℕ) → is_ascii_digit b ≡ true → is_ascii_lowercase b ≡ false
digit_small b t = grind (arith, nat_tests)

-- a letter and digits are no keyword
lettered_other : (b : ℕ) (ds : List ℕ) → 0 < length ds → AllDigits 10 ds → is_symbol b ≡ false → (kind : Kind) → b ∷ ds ≡ spelling kind → ⊥
lettered_other b [] some h plain kind e = absurd (omega (arith, some))
lettered_other b (d ∷ ds) some h plain kind e = go (shape kind (omega (arith, ap length (sym e))))
  where
    go : (all_small (spelling kind) ≡ true) ⊎ (is_symbol (slice_index (spelling kind) 0) ≡ true) → ⊥
    go (inl s) =
        let small : (is_ascii_lowercase b && (is_ascii_lowercase d && all_small ds)) ≡ true = ap all_small e ∙ s in
        let tail = and_parts (is_ascii_lowercase b) (is_ascii_lowercase d && all_small ds) small in
        both_ways (is_ascii_lowercase d) (digit_small d (digit_from_value d h.0)) (and_parts (is_ascii_lowercase d) (all_small ds) tail.1).0
    go (inr s) = both_ways (is_symbol b) plain (ap (λ t. is_symbol (slice_index t 0)) e ∙ s)

lettered : (b n : ℕ) → b < 128 → is_start b ≡ true → is_symbol b ≡ false → n < 10 ^ 64 → IsIdentifier (b ∷ decimal n)
lettered b n low starts plain h =
    let d = (decimal_is_IsNumeral_wide n h).0 in
    let r = digits_run (decimal n) d.1 in
    record {
      named = record {
        first = b;
        others = decimal n;
        scalar = low_scalar b (omega (arith, low));
        starts = starts;
        parts = r.0;
        spelled = sym (ap (λ t. t ++ encode_utf8_all (decimal n)) (encode_ascii b low) ∙ ap (λ t. b ∷ t) r.1);
      };
      other = lettered_other b (decimal n) d.0 d.1 plain;
    }

pub local_identifier : (n : ℕ) → IsNumbered n → IsIdentifier (codes "o" ++ decimal n)
local_identifier n h = lettered 111 n (omega arith) (start_ascii 111 (omega arith) ∙ refl) refl h

pub method_identifier : (n : ℕ) → IsNumbered n → IsIdentifier (codes "b" ++ decimal n)
method_identifier n h = lettered 98 n (omega arith) (start_ascii 98 (omega arith) ∙ refl) refl h

-- the class's name
name_other : (kind : Kind) → builders_name ≡ spelling kind → ⊥
name_other kind e = go (shape kind (omega (arith, ap length (sym e))))
  where
    go : (all_small (spelling kind) ≡ true) ⊎ (is_symbol (slice_index (spelling kind) 0) ≡ true) → ⊥
    go (inl s) = let t : false ≡ true = ap all_small e ∙ s in cc
    go (inr s) = let t : false ≡ true = ap (λ x. is_symbol (slice_index x 0)) e ∙ s in cc

pub class_identifier : IsIdentifier builders_name
class_identifier =
    let others = codes "oratBuild" in
    let r = ascii_run others refl in
    record {
      named = record {
        first = 75;
        others = others;
        scalar = low_scalar 75 (omega arith);
        starts = start_ascii 75 (omega arith) ∙ refl;
        parts = r.0;
        spelled = sym (ap (λ t. t ++ encode_utf8_all others) (encode_ascii 75 (omega arith)) ∙ ap (λ t. 75 ∷ t) r.1);
      };
      other = name_other;
    }

-- ---- symbols

symbolic : (b : ℕ) (rest : List ℕ) → is_symbol b ≡ true → (b ≡ 47 → ⊥) → IsSymbolic (b ∷ rest)
symbolic b rest t h =
    let q = symbol_facts b t in
    record {
      character = record { char = b; rest = rest; scalar = low_scalar b (omega (arith, q.0)); spelled = sym (ap (λ x. x ++ rest) (encode_ascii b q.0)) };
      no_white = q.3;
      no_digit = q.2;
      no_name = λ n.
          let same : n.char ≡ b = char_from_byte (b ∷ rest) n.rest n.char n.spelled q.0 (omega arith) in
          both_ways (is_start b) q.1 (ap is_start (sym same) ∙ n.starts);
      no_comment = λ c. h (comment_slash (b ∷ rest) c);
    }

single_here : (kind : Kind) (b : ℕ) (rest : List ℕ) → spelling kind ≡ b ∷ [] → is_symbol b ≡ true → (b ≡ 47 → ⊥) → IsLongestFixed (b ∷ rest) kind → IsTokenHere false kind (b ∷ []) rest
single_here kind b rest e t h l = anywhere (fixed_longest (b ∷ rest) (symbolic b rest t h) kind 1 (ap length (sym e)) l)

-- the only token that begins with its byte
pub only_here : (kind : Kind) (b : ℕ) (rest : List ℕ) → spelling kind ≡ b ∷ [] → beginning_with b ≡ kind ∷ [] → is_symbol b ≡ true → (b ≡ 47 → ⊥) → IsTokenHere false kind (b ∷ []) rest
only_here kind b rest e table t h =
    single_here kind b rest e t h (found_at (b ∷ rest) (kind ∷ []) (sym table) 0 kind (b ∷ []) (λ k other more below. absurd (omega (arith, below))) (omega arith) (sym e) refl)

pub equal_here : (rest : List ℕ) → IsTokenHere false kinds.Equal (61 ∷ []) (32 ∷ rest)
unfolding spelling beginning_with
equal_here rest =
    let text = 61 ∷ 32 ∷ rest in
    let table = kinds.EqualEqual ∷ kinds.Equal ∷ [] in
    let none = none_more text table 0 kinds.Equal (61 ∷ 61 ∷ []) (λ k other more below. absurd (omega (arith, below))) (omega arith) refl (λ more e. let two : 32 ≡ 61 = ap (λ t. slice_index t 1) e in omega (arith, two)) in
    single_here kinds.Equal 61 (32 ∷ rest) refl refl (λ e. omega (arith, e)) (found_at text table refl 1 kinds.Equal (61 ∷ []) none (omega arith) refl refl)

pub minus_here : (d : ℕ) (rest : List ℕ) → (d ≡ 45 → ⊥) → (d ≡ 61 → ⊥) → IsTokenHere false kinds.Minus (45 ∷ []) (d ∷ rest)
unfolding spelling beginning_with
minus_here d rest no_minus no_equal =
    let text = 45 ∷ d ∷ rest in
    let table = kinds.MinusMinus ∷ kinds.MinusEqual ∷ kinds.Minus ∷ [] in
    let first = none_more text table 0 kinds.Minus (45 ∷ 45 ∷ []) (λ k other more below. absurd (omega (arith, below))) (omega arith) refl (λ more e. no_minus (ap (λ t. slice_index t 1) e)) in
    let none = none_more text table 1 kinds.Minus (45 ∷ 61 ∷ []) first (omega arith) refl (λ more e. no_equal (ap (λ t. slice_index t 1) e)) in
    single_here kinds.Minus 45 (d ∷ rest) refl refl (λ e. omega (arith, e)) (found_at text table refl 2 kinds.Minus (45 ∷ []) none (omega arith) refl refl)

-- a minus sign before digits
pub minus_before : (text : List ℕ) → is_ascii_digit (slice_index text 0) ≡ true → IsTokenHere false kinds.Minus (45 ∷ []) text
minus_before [] d = let t : false ≡ true = d in cc
minus_before (b ∷ text) d = minus_here b text (λ e. let t : false ≡ true = ap is_ascii_digit (sym e) ∙ d in cc) (λ e. let t : false ≡ true = ap is_ascii_digit (sym e) ∙ d in cc)

pub number_digit : (n : ℕ) (rest : List ℕ) → n < 10 ^ 64 → is_ascii_digit (slice_index (decimal n ++ rest) 0) ≡ true
number_digit n rest h =
    let d = (decimal_is_IsNumeral_wide n h).0 in
    ap is_ascii_digit (first_byte (decimal n) rest d.0) ∙ digit_from_value (slice_index (decimal n) 0) (digit_at (decimal n) 0 d.1 d.0)

-- ---- UTF-8

parts_scalar : (cs : List ℕ) → AllParts cs → scalars cs ≡ true
parts_scalar [] h = refl
parts_scalar (c ∷ cs) h = ap (λ b. b && scalars cs) h.0.0 ∙ parts_scalar cs h.1

pub token_utf8 : (kind : Kind) (text rest : List ℕ) → IsToken kind text rest → IsUtf8 text
token_utf8 kind text rest (name e h n) = (h.first ∷ h.others, (parts_scalar (h.first ∷ h.others) ((h.scalar, start_is_part h.first h.starts), h.parts), sym h.spelled))
token_utf8 kind text rest (number e h w) = let r = digits_run text h.digits in (text, (parts_scalar text r.0, r.1))
token_utf8 kind text rest (long_number e h w) = let r = long_run text h in (text, (parts_scalar text r.0, r.1))
token_utf8 kind text rest (fixed l e) = subst IsUtf8 (sym e) (spelled_utf8 kind (omega (arith, l, ap length e)))

pub here_utf8 : (kind : Kind) (text rest : List ℕ) → IsTokenHere false kind text rest → IsUtf8 text
here_utf8 kind text rest (anywhere h) = token_utf8 kind text rest h.token
here_utf8 kind text rest (within e h) = let t : false ≡ true = e in cc
