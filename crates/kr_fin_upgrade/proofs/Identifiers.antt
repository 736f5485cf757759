-- A domain's name isn't written as an array type.
use Rattle.std.proofs.Common.{◌≡◌, ℕ, suc, zero, ◌+◌, ◌-◌, ◌≤◌, ◌/◌, ◌==◌, cond, nat_lt, Bool, true, false, not, ◌&&◌, List, [], ◌∷◌, ◌++◌, length, drop, codes, refl, sym, ap, ◌∙◌, subst, arith}
use Rattle.std.specs.Char.{encode_utf8}
use Rattle.std.specs.Prelude.{chars, nat_eq}
use Rattle.std.specs.List.{AllByRecursion, ends_with, list_all}
use Rattle.std.specs.Str.{bytes_eq, encode_utf8_all, is_utf8}
use Rattle.std.proofs.lemmas.Bool.{and_parts}
use Rattle.std.proofs.lemmas.Bool.Decides.{nat_tests}
use Rattle.std.proofs.lemmas.Slice.Eq.{bytes_eq-Decides}
use lib.Pointwise.{pointwise}
use lib.Utf8.{next}
use Rattle.kr_lex.specs.Characters.{is_part, is_start}
use Rattle.kr_lex.proofs.Classes.{part_ascii_is, start_is_part}
use Rattle.kr_fin.specs.Identifiers.{is_identifier, is_name}
use Rattle.kr_fin.specs.Shapes.{is_domain_name}
use Rattle.kr_space_meaning.proofs.Each.{each_of_both}

-- without a closing bracket
abbrev IsFree : List ℕ → Type 0
IsFree text = AllByRecursion (λ b. (b == 93) ≡ false) text

high : (b : ℕ) → 128 ≤ b → (b == 93) ≡ false
high b h = grind (arith, nat_tests)

other : (c : ℕ) → (c ≡ 93 → ⊥) → (c == 93) ≡ false
other c h = grind (arith, nat_tests)

both_free : (xs ys : List ℕ) → IsFree xs → IsFree ys → IsFree (xs ++ ys)
both_free xs ys a b = each_of_both (λ b. (b == 93) ≡ false) xs ys a b

char_free : (c : ℕ) → (c ≡ 93 → ⊥) → IsFree (encode_utf8 c)
unfolding encode_utf8
char_free c h = go (nat_lt c 128) (nat_lt c 2048) (nat_lt c 65536)
  where
    go : (x y z : Bool)
        → IsFree (cond x (c ∷ []) (cond y ((192 + c / 64) ∷ next c ∷ []) (cond z ((224 + c / 4096) ∷ next (c / 64) ∷ next c ∷ []) ((240 + c / 262144) ∷ next (c / 4096) ∷ next (c / 64) ∷ next c ∷ []))))
    go true y z = (other c h, tt)
    go false true z = (high (192 + c / 64) (omega arith), (high (next c) (omega arith), tt))
    go false false true = (high (224 + c / 4096) (omega arith), (high (next (c / 64)) (omega arith), (high (next c) (omega arith), tt)))
    go false false false = (high (240 + c / 262144) (omega arith), (high (next (c / 4096)) (omega arith), (high (next (c / 64)) (omega arith), (high (next c) (omega arith), tt))))

no_bracket : (c : ℕ) → is_part c ≡ true → c ≡ 93 → ⊥
no_bracket c p e =
    let yes : is_part 93 ≡ true = ap is_part (sym e) ∙ p in
    let no : is_part 93 ≡ false = part_ascii_is 93 (omega arith) in
    absurd (cc (yes, no))

all_free : (cs : List ℕ) → list_all is_part cs ≡ true → IsFree (encode_utf8_all cs)
all_free [] h = tt
all_free (c ∷ cs) h =
    let parts = and_parts (is_part c) (list_all is_part cs) h in
    both_free (encode_utf8 c) (encode_utf8_all cs) (char_free c (no_bracket c parts.0)) (all_free cs parts.1)

name_free : (cs : List ℕ) → is_name cs ≡ true → IsFree (encode_utf8_all cs)
name_free [] h = absurd (cc (h))
name_free (c ∷ cs) h =
    let parts = and_parts (is_start c) (list_all is_part cs) h in
    both_free (encode_utf8 c) (encode_utf8_all cs) (char_free c (no_bracket c (start_is_part c parts.0))) (all_free cs parts.1)

encoded : (text : List ℕ) → is_utf8 text ≡ true → encode_utf8_all (chars text) ≡ text
unfolding is_utf8
encoded text u = (bytes_eq-Decides (encode_utf8_all (chars text)) text).0 (and_parts _ (bytes_eq (encode_utf8_all (chars text)) text) u).1

identifier_free : (text : List ℕ) → is_identifier text ≡ true → IsFree text
unfolding is_identifier
identifier_free text h =
    let parts = and_parts (is_utf8 text) (is_name (chars text)) h in
    subst IsFree (encoded text parts.0) (name_free (chars text) parts.1)

-- ---- its end

drop_free : (k : ℕ) (xs : List ℕ) → IsFree xs → IsFree (drop k xs)
drop_free zero xs h = h
drop_free (suc k) [] h = tt
drop_free (suc k) (x ∷ xs) h = drop_free k xs h.1

no_end : (ys : List ℕ) → IsFree ys → pointwise nat_eq (91 ∷ 93 ∷ []) ys ≡ true → ⊥
no_end [] h e = cc (e)
no_end (a ∷ []) h e = let two = and_parts (nat_eq 91 a) false e in cc (two.1)
no_end (a ∷ b ∷ ys) h e =
    let two = and_parts (nat_eq 91 a) (nat_eq 93 b && pointwise nat_eq [] ys) e in
    let one = and_parts (nat_eq 93 b) (pointwise nat_eq [] ys) two.1 in
    let same : (b == 93) ≡ true = grind (arith, nat_tests, one.0) in
    absurd (cc (same, h.1.0))

-- a domain's name is no array type's
pub no_brackets : (name : List ℕ) → is_domain_name name ≡ true → ends_with nat_eq name (codes "[]") ≡ false
no_brackets name h = go (ends_with nat_eq name (codes "[]")) refl
  where
    free : IsFree name
    free = identifier_free name (and_parts (is_identifier name) (not (bytes_eq name (codes "null"))) h).0

    go : (b : Bool) → ends_with nat_eq name (codes "[]") ≡ b → b ≡ false
    go false e = refl
    go true e = absurd (no_end (drop (length name - 2) name) (drop_free (length name - 2) name free) e)
