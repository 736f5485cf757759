-- Tokens of one spelling are words of small letters, or begin with a symbol; no two are spelled alike.
use Rattle.std.proofs.Common.{◌≡◌, ℕ, zero, suc, ◌<◌, ◌⊎◌, inl, inr, true, nat_lt, List, [], ◌∷◌, Some, length, slice_index, ap, arith}
use Rattle.std.specs.Str.{IsUtf8, IsAscii}
use Rattle.std.proofs.lemmas.Str.{IsUtf8-from_ascii}
use Rattle.std.proofs.lemmas.Bool.{and_parts, ltb-true}
use Rattle.kr_lex.specs.declared.kind.Kind.{Kind}
use Rattle.kr_lex.specs.Spelling.{spelling}
use Rattle.kr_lex.specs.Table.{beginning_with}
use Rattle.kr_lex.proofs.Listing.{all_small, all_ascii, is_symbol, find, peers, IsSingle, listed}

pub shape : (kind : Kind) → 0 < length (spelling kind) → (all_small (spelling kind) ≡ true) ⊎ (is_symbol (slice_index (spelling kind) 0) ≡ true)
shape kind l = go (listed kind l).shape
  where
    go : (all_small (spelling kind) ≡ true) ⊎ IsSingle (slice_index (spelling kind) 0) → (all_small (spelling kind) ≡ true) ⊎ (is_symbol (slice_index (spelling kind) 0) ≡ true)
    go (inl s) = inl s
    go (inr s) = inr s.symbol

pub spelled_once : (a b : Kind) → 0 < length (spelling a) → spelling a ≡ spelling b → a ≡ b
spelled_once a b l e =
    let f : find (spelling a) (peers a) ≡ Some a = (listed a l).found in
    let g : find (spelling b) (peers b) ≡ Some b = (listed b (omega (arith, l, ap length e))).found in
    let same : find (spelling a) (peers a) ≡ find (spelling b) (peers b) = ap (λ t. find t (beginning_with (slice_index t 0))) e in
    cc

pub ascii_at : (bs : List ℕ) → all_ascii bs ≡ true → IsAscii bs
ascii_at [] h i = omega arith
ascii_at (b ∷ bs) h zero = ltb-true b 128 (and_parts (nat_lt b 128) (all_ascii bs) h).0
ascii_at (b ∷ bs) h (suc i) = ascii_at bs (and_parts (nat_lt b 128) (all_ascii bs) h).1 i

pub spelled_utf8 : (kind : Kind) → 0 < length (spelling kind) → IsUtf8 (spelling kind)
spelled_utf8 kind l = IsUtf8-from_ascii (spelling kind) (ascii_at (spelling kind) (listed kind l).ascii)
