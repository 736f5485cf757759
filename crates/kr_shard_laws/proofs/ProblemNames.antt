-- A name of the lexer, or of an object domain, has no line feed; one of the lexer is a word.
use Rattle.std.proofs.Common.{◌≡◌, ℕ, ◌+◌, ◌≤◌, ◌<◌, ◌/◌, ◌==◌, cond, nat_lt, Bool, true, false, List, [], ◌∷◌, ◌++◌, length, sym, ap, ◌∙◌, subst, arith}
use Rattle.std.specs.Char.{encode_utf8}
use Rattle.std.specs.Prelude.{chars}
use Rattle.std.specs.List.{list_all}
use Rattle.std.specs.Str.{bytes_eq, encode_utf8_all, is_utf8}
use Rattle.std.proofs.lemmas.Bool.{and_parts}
use Rattle.std.proofs.lemmas.Slice.Eq.{bytes_eq-Decides}
use Rattle.kr_fin.specs.Identifiers.{is_identifier, is_name}
use Rattle.std.proofs.lemmas.Bool.Decides.{nat_tests}
use lib.Utf8.{next}
use Rattle.kr_lex.specs.Characters.{AllParts, is_part, is_start}
use Rattle.kr_lex.specs.Words.{IsName}
use Rattle.kr_lex.proofs.Classes.{part_ascii_is, start_is_part}
use Rattle.kr_shard_laws.proofs.Bytes.{without_append}
use Rattle.kr_shard_laws.proofs.Numbers.{IsLine}
use Rattle.kr_text.specs.Splitting.{IsWithout}

high : (f b : ℕ) → f < 128 → 128 ≤ b → (b == f) ≡ false
high f b small h = grind (arith, nat_tests)

other : (f c : ℕ) → (c ≡ f → ⊥) → (c == f) ≡ false
other f c h = grind (arith, nat_tests)

-- a character is written without any other one below 128
char_without : (f c : ℕ) → f < 128 → (c ≡ f → ⊥) → IsWithout f (encode_utf8 c)
unfolding encode_utf8
char_without f c small h = go (nat_lt c 128) (nat_lt c 2048) (nat_lt c 65536)
  where
    go : (x y z : Bool)
        → IsWithout f (cond x (c ∷ []) (cond y ((192 + c / 64) ∷ next c ∷ []) (cond z ((224 + c / 4096) ∷ next (c / 64) ∷ next c ∷ []) ((240 + c / 262144) ∷ next (c / 4096) ∷ next (c / 64) ∷ next c ∷ []))))
    go true y z = (other f c h, tt)
    go false true z = (high f (192 + c / 64) small (omega arith), (high f (next c) small (omega arith), tt))
    go false false true = (high f (224 + c / 4096) small (omega arith), (high f (next (c / 64)) small (omega arith), (high f (next c) small (omega arith), tt)))
    go false false false = (high f (240 + c / 262144) small (omega arith), (high f (next (c / 4096)) small (omega arith), (high f (next (c / 64)) small (omega arith), (high f (next c) small (omega arith), tt))))

char_line : (c : ℕ) → (c ≡ 10 → ⊥) → IsLine (encode_utf8 c)
char_line c h = char_without 10 c (omega arith) h

no_other : (f c : ℕ) → is_part f ≡ false → is_part c ≡ true → c ≡ f → ⊥
no_other f c n p e =
    let yes : is_part f ≡ true = ap is_part (sym e) ∙ p in
    absurd (cc (yes, n))

no_feed : (c : ℕ) → is_part c ≡ true → c ≡ 10 → ⊥
no_feed c p e = no_other 10 c (part_ascii_is 10 (omega arith)) p e

parts_without : (f : ℕ) → f < 128 → is_part f ≡ false → (cs : List ℕ) → AllParts cs → IsWithout f (encode_utf8_all cs)
parts_without f small n [] h = tt
parts_without f small n (c ∷ cs) h = without_append f (encode_utf8 c) (encode_utf8_all cs) (char_without f c small (no_other f c n h.0.1)) (parts_without f small n cs h.1)

-- a name has no character below 128 that is no part of names
name_without : (f : ℕ) → f < 128 → is_part f ≡ false → (text : List ℕ) → IsName text → IsWithout f text
name_without f small n text h =
    subst (IsWithout f) (sym h.spelled)
    (without_append f (encode_utf8 h.first) (encode_utf8_all h.others) (char_without f h.first small (no_other f h.first n (start_is_part h.first h.starts))) (parts_without f small n h.others h.parts))

pub name_line : (text : List ℕ) → IsName text → IsLine text
name_line text h = name_without 10 (omega arith) (part_ascii_is 10 (omega arith)) text h

pub name_word : (text : List ℕ) → IsName text → IsWithout 32 text
name_word text h = name_without 32 (omega arith) (part_ascii_is 32 (omega arith)) text h

some_char : (c : ℕ) (rest : List ℕ) → 0 < length (encode_utf8 c ++ rest)
unfolding encode_utf8
some_char c rest = go (nat_lt c 128) (nat_lt c 2048) (nat_lt c 65536)
  where
    go : (x y z : Bool)
        → 0 < length (cond x (c ∷ []) (cond y ((192 + c / 64) ∷ next c ∷ []) (cond z ((224 + c / 4096) ∷ next (c / 64) ∷ next c ∷ []) ((240 + c / 262144) ∷ next (c / 4096) ∷ next (c / 64) ∷ next c ∷ []))) ++ rest)
    go true y z = omega arith
    go false true z = omega arith
    go false false true = omega arith
    go false false false = omega arith

pub name_some : (text : List ℕ) → IsName text → 0 < length text
name_some text h = subst (λ (t : List ℕ). 0 < length t) (sym h.spelled) (some_char h.first (encode_utf8_all h.others))

-- ---- identifiers as texts

all_line : (cs : List ℕ) → list_all is_part cs ≡ true → IsLine (encode_utf8_all cs)
all_line [] h = tt
all_line (c ∷ cs) h =
    let parts = and_parts (is_part c) (list_all is_part cs) h in
    without_append 10 (encode_utf8 c) (encode_utf8_all cs) (char_line c (no_feed c parts.0)) (all_line cs parts.1)

chars_line : (cs : List ℕ) → is_name cs ≡ true → IsLine (encode_utf8_all cs)
chars_line [] h = absurd (cc (h))
chars_line (c ∷ cs) h =
    let parts = and_parts (is_start c) (list_all is_part cs) h in
    without_append 10 (encode_utf8 c) (encode_utf8_all cs) (char_line c (no_feed c (start_is_part c parts.0))) (all_line cs parts.1)

encoded : (text : List ℕ) → is_utf8 text ≡ true → encode_utf8_all (chars text) ≡ text
unfolding is_utf8
encoded text u = (bytes_eq-Decides (encode_utf8_all (chars text)) text).0 (and_parts _ (bytes_eq (encode_utf8_all (chars text)) text) u).1

pub identifier_line : (text : List ℕ) → is_identifier text ≡ true → IsLine text
unfolding is_identifier
identifier_line text h =
    let parts = and_parts (is_utf8 text) (is_name (chars text)) h in
    subst IsLine (encoded text parts.0) (chars_line (chars text) parts.1)
