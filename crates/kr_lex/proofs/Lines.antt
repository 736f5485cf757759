-- The contract line that a text begins with, part by part.
use Rattle.std.proofs.Common.{◌≡◌, ℕ, ◌+◌, ◌<◌, ◌≤◌, ◌⊎◌, inl, inr, false, ◌&&◌, ◌==◌, List, [], ◌∷◌, ◌++◌, length, slice_index, take, drop, refl, sym, ap, ◌∙◌, arith, length-append, append_assoc}
use Rattle.std.proofs.lemmas.List.{take-append-drop, drop-drop, drop_at, drop_more, length-drop, length-take-le}
use Rattle.std.proofs.lemmas.Bool.{both_ways, cases_eq, false_from_ne_true, and_parts, eqb-true}
use Rattle.kr_lex.specs.declared.kind.Kind.{Kind}
use Rattle.kr_lex.specs.declared.kind.Kind.TheVariants as kinds
use Rattle.kr_lex.specs.Characters.{is_line_end, is_part, EndsWord}
use Rattle.kr_lex.specs.ContractLines.{contract_spelling, BeginsContract, code_of, last_solid, has_block, head_of, IsContract}
use Rattle.kr_lex.specs.Pieces.{IsBlankLength, IsPartLength, IsWordOf, IsWordAt, BeginsNoWord, IsHead, IsNoContract}
use Rattle.kr_lex.proofs.Heads.{word_no_blank, same_word, blank_same}
use Rattle.kr_lex.proofs.Unique.{same_split}

-- the mark and what follows it
pub mark_front : (text : List ℕ) → BeginsContract text → text ≡ 47 ∷ 47 ∷ 64 ∷ drop 3 text
mark_front [] h = absurd h
mark_front (a ∷ []) h = absurd h
mark_front (a ∷ b ∷ []) h = absurd h
mark_front (a ∷ b ∷ c ∷ more) h = rw (h.0, h.1, h.2) refl

pub mark_long : (text : List ℕ) → BeginsContract text → 3 ≤ length text
mark_long text h = omega (arith, ap length (mark_front text h))

-- the word at the front
pub word_of : (text : List ℕ) (kind : Kind) (rest : List ℕ) → text ≡ contract_spelling kind ++ rest → EndsWord rest → IsWordOf text kind
word_of text kind rest e w =
    let z : drop (length (contract_spelling kind)) text ≡ rest = ap (drop (length (contract_spelling kind))) e ∙ drop_at (contract_spelling kind) rest (length (contract_spelling kind)) refl in
    record { spelled = e ∙ ap (λ t. contract_spelling kind ++ t) (sym z); whole = rw z w }

pub no_word : (text : List ℕ) → (IsWordOf text kinds.Requires → ⊥) → (IsWordOf text kinds.Ensures → ⊥) → (IsWordOf text kinds.Signals → ⊥) → BeginsNoWord text
no_word text f g h kind rest (inl k) e w = f (word_of text kinds.Requires rest (rw k at e) w)
no_word text f g h kind rest (inr (inl k)) e w = g (word_of text kinds.Ensures rest (rw k at e) w)
no_word text f g h kind rest (inr (inr k)) e w = h (word_of text kinds.Signals rest (rw k at e) w)

-- a part of a name at the front, or none
pub no_part : (text : List ℕ) (n : ℕ) → IsPartLength text n → EndsWord text → n ≡ 0
no_part text n h w = go (cases_eq n 0)
  where
    go : (n ≡ 0) ⊎ (n ≡ 0 → ⊥) → n ≡ 0
    go (inl e) = e
    go (inr f) =
        let p = h.some (omega (arith, f)) in
        absurd (both_ways (is_part p.char) (w p.char (drop n text) p.scalar p.spelled) p.part)

module _ (text : List ℕ) (n : ℕ) (l : IsBlankLength (drop 3 text) n) where
  -- the blanks and the rest are unique
  parts : (kind : Kind) (blank rest : List ℕ) → IsContract text kind blank rest → (take n (drop 3 text) ≡ blank) × (drop n (drop 3 text) ≡ contract_spelling kind ++ rest)
  parts kind blank rest c =
      let tail : drop 3 text ≡ blank ++ (contract_spelling kind ++ rest) = ap (drop 3) c.spelled ∙ append_assoc blank (contract_spelling kind) rest in
      let whole : take n (drop 3 text) ++ drop n (drop 3 text) ≡ blank ++ (contract_spelling kind ++ rest) = take-append-drop n (drop 3 text) ∙ tail in
      let long : length (take n (drop 3 text)) ≡ length blank =
      blank_same (take n (drop 3 text)) blank (drop n (drop 3 text)) (contract_spelling kind ++ rest) l.blank c.white l.longest (word_no_blank kind rest c.word) whole in
      same_split (take n (drop 3 text)) blank (drop n (drop 3 text)) (contract_spelling kind ++ rest) whole long

  pub none_without_word : BeginsNoWord (drop n (drop 3 text)) → IsNoContract text
  none_without_word h kind blank rest c = h kind rest c.word (parts kind blank rest c).1 c.whole

  pub none_unclosed : (kind : Kind) → IsWordAt (drop n (drop 3 text)) kind → (last_solid 0 (code_of (drop (length (contract_spelling kind)) (drop n (drop 3 text)))) ≡ 59 → ⊥) → IsNoContract text
  none_unclosed kind w f other blank rest c =
      let behind = drop (length (contract_spelling kind)) (drop n (drop 3 text)) in
      let z : contract_spelling other ++ rest ≡ contract_spelling kind ++ behind = sym (parts other blank rest c).1 ∙ w.stands.spelled in
      let k : other ≡ kind = same_word other kind rest behind c.word w.word z in
      let same = same_split (contract_spelling other) (contract_spelling kind) rest behind z (ap (λ x. length (contract_spelling x)) k) in
      f (ap (λ x. last_solid 0 (code_of x)) (sym same.1) ∙ c.closed)

  pub head_there : (kind : Kind) (word end : ℕ) → BeginsContract text → has_block text ≡ false → IsWordAt (drop n (drop 3 text)) kind → word ≡ 3 + n → end ≡ word + length (contract_spelling kind)
      → last_solid 0 (code_of (drop end text)) ≡ 59 → IsHead text (record { kind = kind; word = word; end = end })
  head_there kind word end b clear w e f closed =
      let len = length (contract_spelling kind) in
      let behind : drop len (drop n (drop 3 text)) ≡ drop end text =
      drop-drop len n (drop 3 text) ∙ (drop-drop (n + len) 3 text ∙ ap (λ k. drop k text) (omega (arith, e, f))) in
      let tail : drop 3 text ≡ take n (drop 3 text) ++ (contract_spelling kind ++ drop end text) =
      sym (take-append-drop n (drop 3 text)) ∙ ap (λ t. take n (drop 3 text) ++ t) (w.stands.spelled ∙ ap (λ t. contract_spelling kind ++ t) behind) in
      let spelled : text ≡ head_of kind (take n (drop 3 text)) ++ drop end text =
      mark_front text b ∙ (ap (λ t. 47 ∷ 47 ∷ 64 ∷ t) tail ∙ ap (λ t. 47 ∷ 47 ∷ 64 ∷ t) (sym (append_assoc (take n (drop 3 text)) (contract_spelling kind) (drop end text)))) in
      let long : length (take n (drop 3 text)) ≡ n = length-take-le n (drop 3 text) l.within in
      record {
        blank = take n (drop 3 text);
        contract = record { word = w.word; white = l.blank; spelled = spelled; whole = rw behind at w.stands.whole; closed = closed; no_block = clear };
        word = omega (arith, e, long);
        end = f;
        within = within_text kind word end b w e f;
      }
    where
      within_text : (kind : Kind) (word end : ℕ) → BeginsContract text → IsWordAt (drop n (drop 3 text)) kind → word ≡ 3 + n → end ≡ word + length (contract_spelling kind) → end ≤ length text
      within_text kind word end b w e f =
          let len = length (contract_spelling kind) in
          let size : length (drop n (drop 3 text)) ≡ len + length (drop len (drop n (drop 3 text))) =
          ap length w.stands.spelled ∙ length-append (contract_spelling kind) (drop len (drop n (drop 3 text))) in
          omega (arith, size, e, f, l.within, mark_long text b, length-drop n (drop 3 text), length-drop 3 text)

-- the test for two bytes side by side
first_there : (text : List ℕ) (y : ℕ) → 0 < y → slice_index text 0 ≡ y → text ≡ y ∷ drop 1 text
first_there [] y l e = absurd (omega (arith, l, e))
first_there (b ∷ text) y l e = ap (λ x. x ∷ text) e

pub no_pair : (text : List ℕ) (at x y : ℕ) → at < length text → 0 < y → ((rest : List ℕ) → drop at text ≡ x ∷ y ∷ rest → ⊥)
    → (slice_index text at == x && slice_index (drop (at + 1) text) 0 == y) ≡ false
no_pair text at x y l some none =
    false_from_ne_true (slice_index text at == x && slice_index (drop (at + 1) text) 0 == y) (λ t.
    let h = and_parts (slice_index text at == x) (slice_index (drop (at + 1) text) 0 == y) t in
    let first : slice_index text at ≡ x = eqb-true (slice_index text at) x h.0 in
    let second : slice_index (drop (at + 1) text) 0 ≡ y = eqb-true (slice_index (drop (at + 1) text) 0) y h.1 in
    let rest = drop (at + 1) text in
    none (drop 1 rest) (drop_more text at 0 l ∙ (ap (λ b. b ∷ rest) first ∙ ap (λ t. x ∷ t) (first_there rest y some second))))

pub block_goes_on : (text : List ℕ) (at : ℕ) → at < length text → is_line_end (slice_index text at) ≡ false → (slice_index text at == 47 && slice_index (drop (at + 1) text) 0 == 42) ≡ false
    → has_block (drop at text) ≡ has_block (drop (at + 1) text)
block_goes_on text at l t f = ap has_block (drop_more text at 0 l) ∙ rw (t, f) refl
