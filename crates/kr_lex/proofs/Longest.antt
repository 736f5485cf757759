-- The token at the front of a text.
use Rattle.std.proofs.Common.{◌≡◌, ℕ, ◌<◌, ◌≤◌, ◌⊎◌, inl, inr, true, false, List, [], ◌∷◌, ◌++◌, length, slice_index, take, drop, refl, sym, ap, ◌∙◌, arith}
use Rattle.std.specs.Char.{encode_utf8, is_ascii_digit}
use Rattle.std.specs.Str.{encode_utf8_all}
use Rattle.std.proofs.lemmas.Str.{encode_ascii, char_from_byte, byte_from_char}
use Rattle.std.proofs.lemmas.List.{take-append-drop, length-take-le, append_assoc, take_at}
use lib.Utf8.{low_scalar}
use Rattle.std.proofs.lemmas.Bool.{cases_lt}
use Rattle.std.proofs.lemmas.Bool.Decides.{nat_tests}
use Rattle.kr_lex.specs.declared.kind.Kind.{Kind}
use Rattle.kr_lex.specs.declared.kind.Kind.TheVariants as kinds
use Rattle.kr_lex.specs.Characters.{is_start, is_part, is_white, AllParts}
use Rattle.kr_lex.specs.Spelling.{spelling}
use Rattle.kr_lex.specs.Words.{IsName, IsNumber, IsLongNumber, IsToken, name, number, long_number, fixed}
use Rattle.kr_lex.specs.Gaps.{BeginsComment}
use Rattle.kr_lex.specs.Spells.{IsLongest}
use Rattle.kr_lex.specs.Pieces.{IsWordLength, StartsName, IsLongestFixed, BeginsNoFixed, IsSymbolic}
use Rattle.kr_lex.specs.Broken.{IsBadNumber, IsStray, BeginsEscape}
use Rattle.kr_lex.proofs.Fronts.{char_some, encode_some, same_char, ascii_front}
use Rattle.kr_lex.proofs.Numbers.{digit_from_test, long_some, number_byte, long_byte}
use Rattle.kr_lex.proofs.Listing.{is_symbol, all_small, IsSingle, listed}
use Rattle.kr_lex.proofs.Classes.{start_ascii, start_is_part, symbol_facts, no_symbol_at_name, no_symbol_at_digit, run_is_longest, first_byte, small_starts}

-- a comment begins with a slash
pub comment_slash : (text : List ℕ) → BeginsComment text → slice_index text 0 ≡ 47
comment_slash [] h = absurd h
comment_slash (a ∷ []) h = absurd h
comment_slash (a ∷ b ∷ more) h = h.0

start_slash : is_start 47 ≡ false
start_slash = start_ascii 47 (omega arith) ∙ refl

pub no_comment_at_name : (text : List ℕ) → StartsName text → BeginsComment text → ⊥
no_comment_at_name text h b =
    let z = comment_slash text b in
    let same : h.char ≡ slice_index text 0 = char_from_byte text h.rest h.char h.spelled (omega (arith, z)) (char_some text h.rest h.char h.spelled) in
    let f : is_start h.char ≡ false = ap is_start (same ∙ z) ∙ start_slash in
    let t : is_start h.char ≡ true = h.starts in
    cc

-- the word at the front, cut off
module _ (text : List ℕ) (n : ℕ) (w : IsWordLength text n) where
  split : text ≡ encode_utf8_all w.chars ++ drop n text
  split = sym (take-append-drop n text) ∙ ap (λ t. t ++ drop n text) w.spelled

  word_longest : is_symbol (slice_index text 0) ≡ false → (other : Kind) (longer more : List ℕ) → take n text ++ drop n text ≡ longer ++ more → IsToken other longer more
      → length longer ≤ length (take n text)
  word_longest plain other longer more e t =
      let p : is_symbol (slice_index (encode_utf8_all w.chars ++ drop n text) 0) ≡ false = ap (λ s. is_symbol (slice_index s 0)) (sym split) ∙ plain in
      let z : encode_utf8_all w.chars ++ drop n text ≡ longer ++ more = sym split ∙ (sym (take-append-drop n text) ∙ e) in
      omega (arith, run_is_longest w.chars (drop n text) longer more other w.longest p z t, ap length w.spelled)

  -- where it starts as names do, it is one
  pub word_name : StartsName text → IsName (take n text)
  word_name h = go w.chars w.parts w.spelled
    where
      go : (chars : List ℕ) → AllParts chars → take n text ≡ encode_utf8_all chars → IsName (take n text)
      go [] p e =
          let z : text ≡ drop n text = sym (take-append-drop n text) ∙ ap (λ t. t ++ drop n text) e in
          let f : is_part h.char ≡ false = w.longest h.char h.rest h.scalar (sym z ∙ h.spelled) in
          let t : is_part h.char ≡ true = start_is_part h.char h.starts in
          cc
      go (c ∷ cs) p e =
          let z : text ≡ encode_utf8 c ++ (encode_utf8_all cs ++ drop n text) =
          sym (take-append-drop n text) ∙ (ap (λ t. t ++ drop n text) e ∙ append_assoc (encode_utf8 c) (encode_utf8_all cs) (drop n text)) in
          let same : c ≡ h.char = same_char text (encode_utf8_all cs ++ drop n text) h.rest c h.char z h.spelled in
          record { first = c; others = cs; scalar = p.0.0; starts = ap is_start same ∙ h.starts; parts = p.1; spelled = e }

  -- and has a byte
  pub word_some : StartsName text → 0 < n
  word_some h =
      let i = word_name h in
      let l = char_some (take n text) (encode_utf8_all i.others) i.first i.spelled in
      omega (arith, length-take-le n text w.within, l)

  pub name_longest : (kind : Kind) → StartsName text → IsToken kind (take n text) (drop n text) → IsLongest kind (take n text) (drop n text)
  name_longest kind h t =
      record {
        token = t;
        longest = word_longest (no_symbol_at_name text h);
        no_comment = λ b. no_comment_at_name text h (rw (take-append-drop n text) at b);
      }

  digit_longest : (kind : Kind) → is_ascii_digit (slice_index text 0) ≡ true → IsToken kind (take n text) (drop n text) → IsLongest kind (take n text) (drop n text)
  digit_longest kind d t =
      record {
        token = t;
        longest = word_longest (no_symbol_at_digit (slice_index text 0) d);
        no_comment = λ b.
            let z = comment_slash text (rw (take-append-drop n text) at b) in
            let q = digit_from_test (slice_index text 0) d in
            omega (arith, z, q.2);
      }

  pub number_longest : is_ascii_digit (slice_index text 0) ≡ true → IsNumber (take n text) → IsLongest kinds.Number (take n text) (drop n text)
  number_longest d h = digit_longest kinds.Number d (number refl h w.longest)

  pub long_longest : is_ascii_digit (slice_index text 0) ≡ true → IsLongNumber (take n text) → IsLongest kinds.LongNumber (take n text) (drop n text)
  long_longest d h = digit_longest kinds.LongNumber d (long_number refl h w.longest)

  pub number_bad : is_ascii_digit (slice_index text 0) ≡ true → (IsNumber (take n text) → ⊥) → (IsLongNumber (take n text) → ⊥) → IsBadNumber text
  number_bad d h k =
      record { chars = w.chars; rest = drop n text; spelled = split; digit = d; parts = w.parts; longest = w.longest; bad = λ i. h (rw (← w.spelled) at i); bad_long = λ i. k (rw (← w.spelled) at i) }

-- the token of one spelling
module _ (text : List ℕ) (s : IsSymbolic text) where
  no_digits : (part rest : List ℕ) → text ≡ part ++ rest → 0 < length part → is_ascii_digit (slice_index part 0) ≡ true → ⊥
  no_digits part rest e l d =
      let first : slice_index text 0 ≡ slice_index part 0 = ap (λ t. slice_index t 0) e ∙ first_byte part rest l in
      let t : is_ascii_digit (slice_index text 0) ≡ true = ap is_ascii_digit first ∙ d in
      let f : is_ascii_digit (slice_index text 0) ≡ false = s.no_digit in
      cc

  -- every token here has one spelling
  pub only_fixed : (kind : Kind) (part rest : List ℕ) → text ≡ part ++ rest → IsToken kind part rest → (0 < length (spelling kind)) × (part ≡ spelling kind)
  only_fixed kind part rest e (name k h other) =
      let z : text ≡ encode_utf8 h.first ++ (encode_utf8_all h.others ++ rest) =
      e ∙ (ap (λ t. t ++ rest) h.spelled ∙ append_assoc (encode_utf8 h.first) (encode_utf8_all h.others) rest) in
      absurd (s.no_name (record { char = h.first; rest = encode_utf8_all h.others ++ rest; scalar = h.scalar; starts = h.starts; spelled = z }))
  only_fixed kind part rest e (number k h w) = absurd (no_digits part rest e h.some (number_byte 2147483648 part h))
  only_fixed kind part rest e (long_number k h w) = absurd (no_digits part rest e (omega (arith, long_some part h)) (long_byte part h))
  only_fixed kind part rest e (fixed l k) = (omega (arith, l, ap length k), k)

  pub fixed_longest : (kind : Kind) (n : ℕ) → n ≡ length (spelling kind) → IsLongestFixed text kind → IsLongest kind (take n text) (drop n text)
  fixed_longest kind n size h =
      let front : take n text ≡ spelling kind = ap (take n) h.spelled ∙ take_at (spelling kind) (drop (length (spelling kind)) text) n (sym size) in
      record {
        token = fixed (omega (arith, ap length front, h.some)) front;
        longest = λ other longer more e t.
            let z : text ≡ longer ++ more = sym (take-append-drop n text) ∙ e in
            let o = only_fixed other longer more z t in
            omega (arith, h.longest other more o.0 (z ∙ ap (λ l. l ++ more) o.1), ap length front, ap length o.1);
        no_comment = λ b. s.no_comment (rw (take-append-drop n text) at b);
      }

  char_is : (b : ℕ) (others : List ℕ) → b < 128 → slice_index (encode_utf8 s.character.char ++ others) 0 ≡ b → s.character.char ≡ b
  char_is b others low e =
      let part = encode_utf8 s.character.char ++ others in
      char_from_byte part others s.character.char refl (omega (arith, e)) (char_some part others s.character.char refl) ∙ e

  -- the first byte of whatever begins with this character
  same_byte : (others : List ℕ) → slice_index (encode_utf8 s.character.char ++ others) 0 ≡ slice_index text 0
  same_byte others =
      first_byte (encode_utf8 s.character.char) others (encode_some s.character.char)
      ∙ sym (ap (λ t. slice_index t 0) s.character.spelled ∙ first_byte (encode_utf8 s.character.char) s.character.rest (encode_some s.character.char))

  no_digit_with : (others : List ℕ) → is_ascii_digit (slice_index (encode_utf8 s.character.char ++ others) 0) ≡ true → ⊥
  no_digit_with others d =
      let t : is_ascii_digit (slice_index text 0) ≡ true = ap is_ascii_digit (sym (same_byte others)) ∙ d in
      let f : is_ascii_digit (slice_index text 0) ≡ false = s.no_digit in
      cc

  -- no token begins with this character where none begins the text
  no_token_with : BeginsNoFixed text → (kind : Kind) (others rest : List ℕ) → IsToken kind (encode_utf8 s.character.char ++ others) rest → ⊥
  no_token_with h kind others rest (name k i other) =
      let same = same_char (encode_utf8 s.character.char ++ others) others (encode_utf8_all i.others) s.character.char i.first refl i.spelled in
      s.no_name (record { char = s.character.char; rest = s.character.rest; scalar = s.character.scalar; starts = ap is_start same ∙ i.starts; spelled = s.character.spelled })
  no_token_with h kind others rest (number k i w) = no_digit_with others (number_byte 2147483648 (encode_utf8 s.character.char ++ others) i)
  no_token_with h kind others rest (long_number k i w) = no_digit_with others (long_byte (encode_utf8 s.character.char ++ others) i)
  no_token_with h kind others rest (fixed l e) = go (listed kind (omega (arith, l, ap length e))).shape
    where
      byte : slice_index (spelling kind) 0 ≡ slice_index text 0
      byte = ap (λ t. slice_index t 0) (sym e) ∙ same_byte others

      go : (all_small (spelling kind) ≡ true) ⊎ IsSingle (slice_index (spelling kind) 0) → ⊥
      go (inl small) =
          let t = small_starts (spelling kind) (omega (arith, l, ap length e)) small in
          let c = char_is (slice_index (spelling kind) 0) others t.0 (ap (λ x. slice_index x 0) e) in
          s.no_name (record { char = s.character.char; rest = s.character.rest; scalar = s.character.scalar; starts = ap is_start c ∙ t.1; spelled = s.character.spelled })
      go (inr k) =
          let q = symbol_facts (slice_index (spelling kind) 0) k.symbol in
          let c = char_is (slice_index (spelling kind) 0) others q.0 (ap (λ x. slice_index x 0) e) in
          let z : text ≡ slice_index (spelling kind) 0 ∷ s.character.rest =
          s.character.spelled ∙ ap (λ x. x ++ s.character.rest) (ap encode_utf8 c ∙ encode_ascii (slice_index (spelling kind) 0) q.0) in
          h k.kind s.character.rest (omega (arith, ap length k.spelled)) (z ∙ ap (λ x. x ++ s.character.rest) (sym k.spelled))

  no_white_there : is_white s.character.char ≡ false
  no_white_there = go (cases_lt s.character.char 128)
    where
      go : (s.character.char < 128) ⊎ (128 ≤ s.character.char) → is_white s.character.char ≡ false
      go (inl low) = ap is_white (sym (byte_from_char text s.character.rest s.character.char s.character.spelled low)) ∙ s.no_white
      go (inr high) = grind (arith, nat_tests)

  pub stray : BeginsNoFixed text → (BeginsEscape text → ⊥) → IsStray text
  stray h escape =
      record {
        char = s.character.char;
        more = s.character.rest;
        scalar = s.character.scalar;
        spelled = s.character.spelled;
        no_token = no_token_with h;
        no_white = no_white_there;
        no_escape = escape;
      }

-- a slash that begins no comment
pub slash_symbolic : (text : List ℕ) → 0 < length text → slice_index text 0 ≡ 47 → (BeginsComment text → ⊥) → IsSymbolic text
slash_symbolic text l z h =
    let low : slice_index text 0 < 128 = omega (arith, z) in
    record {
      character = record { char = slice_index text 0; rest = drop 1 text; scalar = low_scalar (slice_index text 0) (omega (arith, z)); spelled = ascii_front text l low };
      no_white = ap is_white z ∙ refl;
      no_digit = ap is_ascii_digit z ∙ refl;
      no_name = λ n.
          let same : n.char ≡ slice_index text 0 = char_from_byte text n.rest n.char n.spelled low l in
          let f : is_start n.char ≡ false = ap is_start (same ∙ z) ∙ start_slash in
          let t : is_start n.char ≡ true = n.starts in
          cc;
      no_comment = h;
    }

-- a comment begins with two slashes, or a slash and a star
pub comment_cases : (text : List ℕ) → BeginsComment text → (text ≡ 47 ∷ 47 ∷ drop 2 text) ⊎ (text ≡ 47 ∷ 42 ∷ drop 2 text)
comment_cases [] h = absurd h
comment_cases (a ∷ []) h = absurd h
comment_cases (a ∷ b ∷ more) h = go h.1
  where
    go : (b ≡ 47) ⊎ (b ≡ 42) → (a ∷ b ∷ more ≡ 47 ∷ 47 ∷ more) ⊎ (a ∷ b ∷ more ≡ 47 ∷ 42 ∷ more)
    go (inl e) = inl (rw (h.0, e) refl)
    go (inr e) = inr (rw (h.0, e) refl)
