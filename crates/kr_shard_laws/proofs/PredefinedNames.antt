-- The names of the predefined classes are identifiers: a capital letter, and letters.
use Rattle.std.proofs.Common.{◌≡◌, ◌⊎◌, inl, inr, ℕ, ◌<◌, Bool, true, false, not, ◌&&◌, ◌||◌, ◌==◌, nat_lt, List, [], ◌∷◌, ◌++◌, length, slice_index, refl, sym, ap, ◌∙◌, arith}
use Rattle.std.specs.Char.{is_ascii_alphabetic, is_ascii_alphanumeric, is_ascii_lowercase}
use Rattle.std.specs.List.{AllByRecursion}
use Rattle.std.specs.Str.{encode_utf8_all}
use Rattle.std.proofs.lemmas.Str.{encode_ascii}
use Rattle.std.proofs.lemmas.Bool.{and_parts, both_ways}
use Rattle.std.proofs.lemmas.Bool.Decides.{nat_tests}
use lib.Utf8.{low_scalar}
use Rattle.kr_lex.specs.declared.kind.Kind.{Kind}
use Rattle.kr_lex.specs.Characters.{AllParts}
use Rattle.kr_lex.specs.Spelling.{spelling}
use Rattle.kr_lex.proofs.Classes.{start_ascii, part_ascii_is}
use Rattle.kr_lex.proofs.Listing.{is_symbol, all_small}
use Rattle.kr_lex.proofs.Shapes.{shape}
use Rattle.kr_classes_table.specs.Predefined.{Predefined, predefined_classes}
use Rattle.kr_shard_laws.specs.Names.{IsIdentifier}

-- ---- characters

abbrev pub is_word : ℕ → Bool
is_word b = (is_ascii_alphanumeric b || b == 95) || b == 36

abbrev pub all_word : List ℕ → Bool
all_word [] = true
all_word (b ∷ bs) = (nat_lt b 128 && is_word b) && all_word bs

-- ASCII characters of names are their own bytes
pub ascii_run : (bs : List ℕ) → all_word bs ≡ true → AllParts bs × (encode_utf8_all bs ≡ bs)
ascii_run [] h = (tt, refl)
ascii_run (b ∷ bs) h =
    let p = and_parts (nat_lt b 128 && is_word b) (all_word bs) h in
    let q = and_parts (nat_lt b 128) (is_word b) p.0 in
    let low : b < 128 = grind (arith, nat_tests) in
    let r = ascii_run bs p.1 in
    (((low_scalar b (omega (arith, low)), part_ascii_is b low ∙ q.1), r.0), ap (λ t. t ++ encode_utf8_all bs) (encode_ascii b low) ∙ ap (λ t. b ∷ t) r.1)

-- ---- names with a capital

-- what no keyword begins with
abbrev is_capital : ℕ → Bool
is_capital b = nat_lt b 128 && (is_ascii_alphabetic b && (not (is_ascii_lowercase b) && not (is_symbol b)))

not_true : (b : Bool) → not b ≡ true → b ≡ false
not_true false e = refl
not_true true e = absurd (cc (e))

record IsCapital (b : ℕ) : Type 0 where
  low : b < 128
  letter : is_ascii_alphabetic b ≡ true
  large : is_ascii_lowercase b ≡ false
  plain : is_symbol b ≡ false

capital : (b : ℕ) → is_capital b ≡ true → IsCapital b
capital b h =
    let p = and_parts (nat_lt b 128) (is_ascii_alphabetic b && (not (is_ascii_lowercase b) && not (is_symbol b))) h in
    let q = and_parts (is_ascii_alphabetic b) (not (is_ascii_lowercase b) && not (is_symbol b)) p.1 in
    let r = and_parts (not (is_ascii_lowercase b)) (not (is_symbol b)) q.1 in
    let below : b < 128 = grind (arith, nat_tests) in
    record { low = below; letter = q.0; large = not_true (is_ascii_lowercase b) r.0; plain = not_true (is_symbol b) r.1 }

no_keyword : (b : ℕ) (bs : List ℕ) → IsCapital b → (kind : Kind) → b ∷ bs ≡ spelling kind → ⊥
no_keyword b bs c kind e = go (shape kind (omega (arith, ap length (sym e))))
  where
    go : (all_small (spelling kind) ≡ true) ⊎ (is_symbol (slice_index (spelling kind) 0) ≡ true) → ⊥
    go (inl s) =
        let small : (is_ascii_lowercase b && all_small bs) ≡ true = ap all_small e ∙ s in
        both_ways (is_ascii_lowercase b) c.large (and_parts (is_ascii_lowercase b) (all_small bs) small).0
    go (inr s) = both_ways (is_symbol b) c.plain (ap (λ t. is_symbol (slice_index t 0)) e ∙ s)

capital_name : (b : ℕ) (bs : List ℕ) → is_capital b ≡ true → all_word bs ≡ true → IsIdentifier (b ∷ bs)
capital_name b bs first others =
    let c = capital b first in
    let r = ascii_run bs others in
    record {
      name = record {
        first = b;
        others = bs;
        scalar = low_scalar b (omega (arith, c.low));
        starts = start_ascii b c.low ∙ ap (λ (t : Bool). t || (b == 95 || b == 36)) c.letter;
        parts = r.0;
        spelled = sym (ap (λ t. t ++ encode_utf8_all bs) (encode_ascii b c.low) ∙ ap (λ t. b ∷ t) r.1);
      };
      own = no_keyword b bs c;
    }

-- ---- the predefined classes

abbrev is_capital_name : List ℕ → Bool
is_capital_name [] = false
is_capital_name (b ∷ bs) = is_capital b && all_word bs

abbrev all_capital : List Predefined → Bool
all_capital [] = true
all_capital (c ∷ cs) = is_capital_name c.name && all_capital cs

of_name : (name : List ℕ) → is_capital_name name ≡ true → IsIdentifier name
of_name [] h = absurd (cc (h))
of_name (b ∷ bs) h = let p = and_parts (is_capital b) (all_word bs) h in capital_name b bs p.0 p.1

of_classes : (cs : List Predefined) → all_capital cs ≡ true → AllByRecursion (λ c. IsIdentifier c.name) cs
of_classes [] h = tt
of_classes (c ∷ cs) h = let p = and_parts (is_capital_name c.name) (all_capital cs) h in (of_name c.name p.0, of_classes cs p.1)

pub predefined_names : AllByRecursion (λ c. IsIdentifier c.name) predefined_classes
predefined_names = of_classes predefined_classes refl
