-- Tokens and gaps end between characters.
use Rattle.std.proofs.Common.{◌≡◌, ℕ, ◌+◌, ◌<◌, ◌≤◌, ◌⊎◌, inl, inr, Bool, true, List, [], ◌∷◌, ◌++◌, length, slice_index, take, drop, refl, sym, ap, ◌∙◌, arith, length-append, append_assoc}
use Rattle.std.specs.Char.{encode_utf8}
use Rattle.std.specs.Str.{IsUtf8, encode_utf8_all, all_scalars}
use Rattle.std.proofs.lemmas.Str.{IsUtf8-append, IsUtf8-take, IsUtf8-drop, IsCharBoundary-before_ascii, IsCharBoundary-after_ascii, IsCharBoundary-from_take}
use Rattle.std.proofs.lemmas.List.{take_all, take_at, take-take, length-take-le, get_or-take, get_or_at, get_or_append_left, take-append-drop, length-drop, drop-append-le}
use Rattle.std.proofs.lemmas.Bool.{cases_lt, and_from, and_parts}
use Rattle.std.proofs.lemmas.Bool.Decides.{nat_tests}
use Rattle.kr_lex.specs.declared.kind.Kind.{Kind}
use Rattle.kr_lex.specs.Characters.{is_white, is_line_end, AllParts}
use Rattle.kr_lex.specs.Lexemes.{Lexeme}
use Rattle.kr_lex.specs.Words.{IsToken, name, number, long_number, fixed}
use Rattle.kr_lex.specs.Gaps.{IsGap, white, line, block, EndsLine}
use Rattle.kr_lex.specs.ContractLines.{head_of}
use Rattle.kr_lex.specs.Spells.{IsTokenHere, anywhere, within, Reaches, here, gap, token, contract}
use Rattle.kr_lex.specs.Pieces.{BeginsCharacter}
use Rattle.kr_lex.specs.Reading.{IsValidLength}
use Rattle.kr_lex.proofs.Shapes.{spelled_utf8}
use Rattle.kr_lex.proofs.Heads.{head_utf8, contract_token_utf8}
use Rattle.kr_lex.proofs.Classes.{digits_run, long_run, start_is_part}
use Rattle.kr_lex.proofs.Paths.{onward}

-- the front that is UTF-8
pub valid_utf8 : (bytes : List ℕ) (n : ℕ) → IsValidLength bytes n → IsUtf8 (take n bytes)
valid_utf8 bytes n (inl h) = rw (take_all n bytes (omega (arith, h.0))) h.1
valid_utf8 bytes n (inr h) = h.front

pub valid_within : (bytes : List ℕ) (n : ℕ) → IsValidLength bytes n → n ≤ length bytes
valid_within bytes n (inl h) = omega (arith, h.0)
valid_within bytes n (inr h) = omega (arith, h.short)

parts_scalar : (cs : List ℕ) → AllParts cs → all_scalars cs ≡ true
parts_scalar [] h = refl
parts_scalar (c ∷ cs) h = and_from _ _ h.0.0 (parts_scalar cs h.1)

-- a run of characters that names go on with is UTF-8
parts_utf8 : (cs text : List ℕ) → AllParts cs → encode_utf8_all cs ≡ text → IsUtf8 text
parts_utf8 cs text h e = (cs, (parts_scalar cs h, e))

pub token_utf8 : (kind : Kind) (text rest : List ℕ) → IsToken kind text rest → IsUtf8 text
token_utf8 kind text rest (name e h n) = parts_utf8 (h.first ∷ h.others) text ((h.scalar, start_is_part h.first h.starts), h.parts) (sym h.spelled)
token_utf8 kind text rest (number e h w) = let r = digits_run text h.digits in parts_utf8 text text r.0 r.1
token_utf8 kind text rest (long_number e h w) = let r = long_run text h in parts_utf8 text text r.0 r.1
token_utf8 kind text rest (fixed l e) = rw e (spelled_utf8 kind (omega (arith, l, ap length e)))

here_utf8 : (inside : Bool) (kind : Kind) (text rest : List ℕ) → IsTokenHere inside kind text rest → IsUtf8 text
here_utf8 inside kind text rest (anywhere t) = token_utf8 kind text rest t.token
here_utf8 inside kind text rest (within i t) = contract_token_utf8 kind text t

white_low : (b : ℕ) → is_white b ≡ true → b < 128
white_low b t = grind (arith, nat_tests)

line_end_low : (b : ℕ) → is_line_end b ≡ true → b < 128
line_end_low b t = grind (arith, nat_tests)

-- a cut before or after an ASCII byte
module _ (bytes : List ℕ) (valid : ℕ) (v : IsValidLength bytes valid) where
  cut_behind : (front rest : List ℕ) (b : ℕ) → bytes ≡ (front ++ b ∷ []) ++ rest → b < 128 → length (front ++ b ∷ []) ≤ valid → IsUtf8 (front ++ b ∷ [])
  cut_behind front rest b e low l =
      let n = length front in
      let long : length (front ++ b ∷ []) ≡ n + 1 = length-append front (b ∷ []) in
      let there : slice_index bytes n ≡ b =
      ap (λ t. slice_index t n) e ∙ (get_or_append_left (front ++ b ∷ []) rest 0 n (omega (arith, long)) ∙ get_or_at front b [] 0 n refl) in
      let in_valid : slice_index (take valid bytes) n ≡ b = get_or-take valid bytes n 0 (omega (arith, long, l)) ∙ there in
      let long_valid : length (take valid bytes) ≡ valid = length-take-le valid bytes (valid_within bytes valid v) in
      let boundary = IsCharBoundary-after_ascii (take valid bytes) n (valid_utf8 bytes valid v) (omega (arith, long_valid, long, l)) (omega (arith, in_valid, low)) in
      let cut = IsUtf8-take (take valid bytes) (n + 1) (valid_utf8 bytes valid v) boundary in
      let same : take (n + 1) (take valid bytes) ≡ front ++ b ∷ [] =
      take-take (n + 1) valid bytes (omega (arith, long, l)) ∙ (ap (take (n + 1)) e ∙ take_at (front ++ b ∷ []) rest (n + 1) long) in
      rw same at cut

  cut_before : (front rest : List ℕ) → bytes ≡ front ++ rest → EndsLine rest → length front ≤ valid → IsUtf8 front
  cut_before front rest e t l = go (cases_lt (length front) valid)
    where
      same : take (length front) (take valid bytes) ≡ front
      same = take-take (length front) valid bytes l ∙ (ap (take (length front)) e ∙ take_at front rest (length front) refl)

      at_line_end : (rest : List ℕ) → bytes ≡ front ++ rest → EndsLine rest → length front < valid → slice_index bytes (length front) < 128
      at_line_end [] z u less = absurd (omega (arith, ap length z, length-append {A = ℕ} front [], valid_within bytes valid v, less))
      at_line_end (b ∷ rest) z u less =
          let there : slice_index bytes (length front) ≡ b = ap (λ x. slice_index x (length front)) z ∙ get_or_at front b rest 0 (length front) refl in
          omega (arith, there, line_end_low b u)

      go : (length front < valid) ⊎ (valid ≤ length front) → IsUtf8 front
      go (inl less) =
          let long_valid : length (take valid bytes) ≡ valid = length-take-le valid bytes (valid_within bytes valid v) in
          let in_valid : slice_index (take valid bytes) (length front) ≡ slice_index bytes (length front) = get_or-take valid bytes (length front) 0 less in
          let boundary = IsCharBoundary-before_ascii (take valid bytes) (length front) (omega (arith, long_valid)) (omega (arith, in_valid, at_line_end rest e t less)) in
          rw same at (IsUtf8-take (take valid bytes) (length front) (valid_utf8 bytes valid v) boundary)
      go (inr same_length) =
          let n : length front ≡ valid = omega arith in
          let z : take valid bytes ≡ front = ap (λ k. take k bytes) (sym n) ∙ (ap (take (length front)) e ∙ take_at front rest (length front) refl) in
          rw z at (valid_utf8 bytes valid v)

  gap_utf8 : (front part rest : List ℕ) → bytes ≡ (front ++ part) ++ rest → IsGap part rest → length (front ++ part) ≤ valid → IsUtf8 (front ++ part)
  gap_utf8 front part rest e (white b w t) l = rw w (cut_behind front rest b (rw w at e) (white_low b t) (rw w at l))
  gap_utf8 front part rest e (line h) l = cut_before (front ++ part) rest e h.through l
  gap_utf8 front part rest e (block h) l =
      let inner : List ℕ = (47 ∷ 42 ∷ h.body) ++ 42 ∷ [] in
      let z : front ++ part ≡ (front ++ inner) ++ 47 ∷ [] =
      ap (λ t. front ++ t) (h.spelled ∙ sym (append_assoc (47 ∷ 42 ∷ h.body) (42 ∷ []) (47 ∷ []))) ∙ sym (append_assoc front inner (47 ∷ [])) in
      let low : 47 < 128 = omega arith in
      let long : length ((front ++ inner) ++ 47 ∷ []) ≤ valid = omega (arith, ap length z, l) in
      rw z (cut_behind (front ++ inner) rest 47 (e ∙ ap (λ t. t ++ rest) z) low long)

  -- the text reached is UTF-8 as far as the bytes are
  pub reached_utf8 : {file : ℕ} {inside last : Bool} {front text end left : List ℕ} {list : List Lexeme} → Reaches file inside front text list last end left → bytes ≡ front ++ text → IsUtf8 front
      → length end ≤ valid → IsUtf8 end
  reached_utf8 here e u l = u
  reached_utf8 (gap {front = front} part rest z g d) e u l =
      let s : bytes ≡ (front ++ part) ++ rest = e ∙ (ap (λ t. front ++ t) z ∙ sym (append_assoc front part rest)) in
      reached_utf8 d s (gap_utf8 front part rest s g (omega (arith, onward d, l))) l
  reached_utf8 (token {inside = inside} {front = front} kind part rest z g d) e u l =
      let s : bytes ≡ (front ++ part) ++ rest = e ∙ (ap (λ t. front ++ t) z ∙ sym (append_assoc front part rest)) in
      reached_utf8 d s (IsUtf8-append front part u (here_utf8 inside kind part rest g)) l
  reached_utf8 (contract {front = front} kind blank rest c d) e u l =
      let s : bytes ≡ (front ++ head_of kind blank) ++ rest = e ∙ (ap (λ t. front ++ t) c.spelled ∙ sym (append_assoc front (head_of kind blank) rest)) in
      reached_utf8 d s (IsUtf8-append front (head_of kind blank) u (head_utf8 kind blank c.word c.white)) l

-- where UTF-8 goes on a character begins
pub begins_character_at : (bytes : List ℕ) (valid at : ℕ) → IsValidLength bytes valid → at < valid → IsUtf8 (take at bytes) → BeginsCharacter (drop at bytes)
begins_character_at bytes valid at v l u =
    let long : length (take valid bytes) ≡ valid = length-take-le valid bytes (valid_within bytes valid v) in
    let same : take at (take valid bytes) ≡ take at bytes = take-take at valid bytes (omega arith) in
    let boundary = IsCharBoundary-from_take (take valid bytes) at (valid_utf8 bytes valid v) (omega (arith, long)) (rw (← same) at u) in
    let rest : IsUtf8 (drop at (take valid bytes)) = IsUtf8-drop (take valid bytes) at (valid_utf8 bytes valid v) boundary in
    go rest.0 rest.1.0 rest.1.1 (omega (arith, length-drop at (take valid bytes), long))
  where
    whole_rest : drop at bytes ≡ drop at (take valid bytes) ++ drop valid bytes
    whole_rest =
        ap (drop at) (sym (take-append-drop valid bytes))
        ∙ drop-append-le at (take valid bytes) (drop valid bytes) (omega (arith, length-take-le valid bytes (valid_within bytes valid v)))

    go : (cs : List ℕ) → all_scalars cs ≡ true → encode_utf8_all cs ≡ drop at (take valid bytes) → 0 < length (drop at (take valid bytes)) → BeginsCharacter (drop at bytes)
    go [] s e some = absurd (omega (arith, ap length e, some))
    go (c ∷ cs) s e some =
        record {
          char = c;
          rest = encode_utf8_all cs ++ drop valid bytes;
          scalar = (and_parts _ _ s).0;
          spelled = whole_rest ∙ (ap (λ t. t ++ drop valid bytes) (sym e) ∙ append_assoc (encode_utf8 c) (encode_utf8_all cs) (drop valid bytes));
        }
