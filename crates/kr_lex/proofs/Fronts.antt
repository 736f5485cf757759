-- Characters at the front of a text.
use Rattle.std.proofs.Common.{◌≡◌, ℕ, ◌+◌, ◌<◌, ◌≤◌, Bool, true, false, ◌==◌, List, [], ◌∷◌, ◌++◌, length, slice_index, take, drop, Some, None, sym, ap, ◌∙◌, arith, length-append}
use Rattle.std.specs.Bool.{IsTrue}
use Rattle.std.specs.Char.{IsScalar, encode_utf8}
use Rattle.std.specs.Str.{encode_utf8_all}
use Rattle.std.proofs.lemmas.List.{drop_more, length-drop, nil_from_length, take_at, append-nil}
use Rattle.std.proofs.Math.Seq.{take-add}
use Rattle.std.proofs.lemmas.Bool.Decides.{nat_tests}
use Rattle.std.proofs.lemmas.Str.{encode_same, encode_ascii, length-encode, len_utf8_bounds, char_from_byte, encodes-append}
use Rattle.bstr.specs.Utf8.{decoded}
use Rattle.bstr.proofs.lemmas.EncodeLemmas.{decoded-encode}
use Rattle.bstr.proofs.lemmas.SoundLemmas.{SpellsChar, SpellsChar-decoded}
use Rattle.kr_lex.specs.Characters.{is_start, is_part, AllParts, EndsWord}
use Rattle.kr_lex.specs.Pieces.{IsPart, IsPartLength, StartsName, BeginsCharacter}

-- a character takes at least a byte
pub encode_some : (c : ℕ) → 0 < length (encode_utf8 c)
encode_some c = omega (arith, length-encode c, len_utf8_bounds c)

pub char_some : (text more : List ℕ) (c : ℕ) → text ≡ encode_utf8 c ++ more → 0 < length text
char_some text more c e = omega (arith, ap length e, length-append (encode_utf8 c) more, encode_some c)

pub no_char_in_nothing : (c : ℕ) (more : List ℕ) → [] ≡ encode_utf8 c ++ more → ⊥
no_char_in_nothing c more e = omega (arith, char_some [] more c e)

pub ends_nothing : EndsWord []
ends_nothing c more s e = absurd (no_char_in_nothing c more e)

-- `decoded` finds the character at the front
pub decoded_char : (text more : List ℕ) (c d : ℕ) → (decoded text).char ≡ Some d → IsScalar c → text ≡ encode_utf8 c ++ more → c ≡ d
decoded_char text more c d found s e =
    let z : (decoded (encode_utf8 c ++ more)).char ≡ Some c = ap (λ r. r.char) (decoded-encode c more s) in
    let y : (decoded text).char ≡ Some c = ap (λ t. (decoded t).char) e ∙ z in cc

pub decoded_none : (text more : List ℕ) (c : ℕ) → (decoded text).char ≡ None → IsScalar c → text ≡ encode_utf8 c ++ more → ⊥
decoded_none text more c none s e =
    let z : (decoded (encode_utf8 c ++ more)).char ≡ Some c = ap (λ r. r.char) (decoded-encode c more s) in
    let y : (decoded text).char ≡ Some c = ap (λ t. (decoded t).char) e ∙ z in cc

-- the text at an ASCII byte
pub ascii_front : (text : List ℕ) → 0 < length text → slice_index text 0 < 128 → text ≡ encode_utf8 (slice_index text 0) ++ drop 1 text
ascii_front text l a =
    let e : encode_utf8 (slice_index text 0) ≡ slice_index text 0 ∷ [] = encode_ascii (slice_index text 0) a in
    let d : text ≡ slice_index text 0 ∷ drop 1 text = drop_more text 0 0 l in
    d ∙ ap (λ front. front ++ drop 1 text) (sym e)

pub no_part_ascii : (text : List ℕ) → 0 < length text → slice_index text 0 < 128 → is_part (slice_index text 0) ≡ false → EndsWord text
no_part_ascii text l a p c more s e = rw (char_from_byte text more c e a l) p

pub part_decoded : (text : List ℕ) (c : ℕ) → (decoded text).char ≡ Some c → is_part c ≡ true → IsPart text (decoded text).size
part_decoded text c found p =
    let h : SpellsChar text c (decoded text).size = SpellsChar-decoded text c found in
    let n = (decoded text).size in
    let w : length text ≡ length (encode_utf8 c) + length (drop n text) = ap length h.bytes ∙ length-append (encode_utf8 c) (drop n text) in
    record { char = c; scalar = h.scalar; part = p; spelled = h.bytes; within = omega (arith, h.width, w) }

pub no_part_decoded : (text : List ℕ) (c : ℕ) → (decoded text).char ≡ Some c → is_part c ≡ false → EndsWord text
no_part_decoded text c found p d more s e = rw (decoded_char text more d c found s e) p

pub no_part_none : (text : List ℕ) → (decoded text).char ≡ None → EndsWord text
no_part_none text none d more s e = absurd (decoded_none text more d none s e)

-- a length that a test found to be 0, or not
pub length_none : (n : ℕ) (b : Bool) → b ≡ (n == 0) → b ≡ true → n ≡ 0
length_none n b e t = grind (arith, nat_tests)

pub length_some : (n : ℕ) (b : Bool) → b ≡ (n == 0) → b ≡ false → 0 < n
length_some n b e t = grind (arith, nat_tests)

pub part_len_some : (text : List ℕ) (n : ℕ) → IsPart text n → IsPartLength text n
part_len_some text n p =
    let w : length text ≡ length (encode_utf8 p.char) + length (drop n text) = ap length p.spelled ∙ length-append (encode_utf8 p.char) (drop n text) in
    record { some = λ h. p; none = λ e. absurd (omega (arith, encode_some p.char, length-drop n text, p.within, w, e)) }

pub part_len_none : (text : List ℕ) → EndsWord text → IsPartLength text 0
part_len_none text h = record { some = λ l. absurd (omega (arith, l)); none = λ e. h }

pub part_len_empty : (text : List ℕ) → length text ≡ 0 → IsPartLength text 0
part_len_empty text e = part_len_none text (rw (nil_from_length text e) ends_nothing)

pub part_width : (text : List ℕ) (n : ℕ) (p : IsPart text n) → length (encode_utf8 p.char) ≡ n
part_width text n p =
    let w : length text ≡ length (encode_utf8 p.char) + length (drop n text) = ap length p.spelled ∙ length-append (encode_utf8 p.char) (drop n text) in
    omega (arith, length-drop n text, p.within, w)

pub part_front : (text : List ℕ) (n : ℕ) (p : IsPart text n) → take n text ≡ encode_utf8 p.char
part_front text n p = ap (take n) p.spelled ∙ take_at (encode_utf8 p.char) (drop n text) n (part_width text n p)

pub all_parts_push : (cs : List ℕ) (c : ℕ) → AllParts cs → IsScalar c → is_part c ≡ true → AllParts (cs ++ c ∷ [])
all_parts_push [] c h s p = ((s, p), tt)
all_parts_push (d ∷ cs) c h s p = (h.0, all_parts_push cs c h.1 s p)

pub encodes_push : (cs : List ℕ) (c : ℕ) → encode_utf8_all (cs ++ c ∷ []) ≡ encode_utf8_all cs ++ encode_utf8 c
encodes_push cs c = encodes-append cs (c ∷ []) ∙ ap (λ t. encode_utf8_all cs ++ t) (append-nil (encode_utf8 c))

-- one character more
pub word_more : (text chars : List ℕ) (n m : ℕ) → n ≤ length text → AllParts chars → take n text ≡ encode_utf8_all chars → IsPart (drop n text) m
    → (n + m ≤ length text) × ((more : List ℕ) × AllParts more × (take (n + m) text ≡ encode_utf8_all more))
word_more text chars n m l h e p =
    let w : n + m ≤ length text = omega (arith, length-drop n text, p.within) in
    let t : take (n + m) text ≡ take n text ++ take m (drop n text) = take-add n m text in
    (w, (chars ++ p.char ∷ [], all_parts_push chars p.char h p.scalar p.part, t ∙ (ap (λ a. a ++ take m (drop n text)) e ∙ (ap (λ b. encode_utf8_all chars ++ b) (part_front (drop n text) m p) ∙ sym (encodes_push chars p.char)))))

-- only one character begins a text
pub same_char : (text more rest : List ℕ) (c d : ℕ) → text ≡ encode_utf8 c ++ more → text ≡ encode_utf8 d ++ rest → c ≡ d
same_char text more rest c d e z = (encode_same c d more rest (sym e ∙ z)).0

-- the test of the character that begins the text
pub starts_iff : (text : List ℕ) (h : BeginsCharacter text) (b : Bool) → b ≡ is_start h.char → (IsTrue b → StartsName text) × (StartsName text → IsTrue b)
starts_iff text h b e = (
  λ t. record { char = h.char; rest = h.rest; scalar = h.scalar; starts = sym e ∙ t; spelled = h.spelled },
  λ s. e ∙ (ap is_start (same_char text h.rest s.rest h.char s.char h.spelled s.spelled) ∙ s.starts),
)
