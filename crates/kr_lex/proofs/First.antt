-- The broken rule of the least place.
use Rattle.std.proofs.Common.{◌≡◌, ℕ, ◌+◌, ◌<◌, ◌≤◌, ◌⊎◌, inl, inr, Bool, false, List, [], ◌++◌, length, take, drop, refl, sym, ap, ◌∙◌, arith, length-append}
use Rattle.std.specs.Str.{IsUtf8, IsValidUpTo}
use Rattle.std.proofs.lemmas.List.{take_all, take_at, take-append-drop, length-take-le}
use Rattle.std.proofs.lemmas.Bool.{cases_order, cases_lt}
use Rattle.kr_base.specs.declared.place.Place.{Place}
use Rattle.kr_lex.specs.declared.refusal.LexRule.{LexRule}
use Rattle.kr_lex.specs.declared.refusal.LexRule.TheVariants as rules
use Rattle.kr_lex.specs.Lexemes.{Lexeme, Lexemes}
use Rattle.kr_lex.specs.Places.{place_after}
use Rattle.kr_lex.specs.Spells.{Reaches, AreTokens}
use Rattle.kr_lex.specs.Broken.{BreaksHere, Breaks, encoding, reached, rank, IsFirstBroken}
use Rattle.kr_lex.specs.Reading.{IsValidLength}
use Rattle.kr_lex.proofs.Encoding.{valid_within}
use Rattle.kr_lex.proofs.Unique.{same_split}
use Rattle.kr_lex.proofs.Stuck.{rule_is, rule_of, breaks_some}
use Rattle.kr_lex.proofs.Paths.{whole, none_before}

-- a text of UTF-8 has no longest front that is less
pub not_utf8_all : (bytes : List ℕ) (n : ℕ) → IsUtf8 bytes → IsValidUpTo bytes n → ⊥
not_utf8_all bytes n u h = h.longest (length bytes) h.short (rw (take_all (length bytes) bytes (omega arith)) u)

pub valid_once : (bytes : List ℕ) (m n : ℕ) → IsValidUpTo bytes m → IsValidUpTo bytes n → m ≡ n
valid_once bytes m n g h = go (cases_order m n)
  where
    go : (m ≡ n) ⊎ ((m < n) ⊎ (n < m)) → m ≡ n
    go (inl e) = e
    go (inr (inl less)) = absurd (g.longest n less h.front)
    go (inr (inr more)) = absurd (h.longest m more g.front)

rank_some : (rule : LexRule) → 1 ≤ rank rule
rank_some rules.NotUtf8 = omega arith
rank_some rules.StrayCharacter = omega arith
rank_some rules.UnclosedComment = omega arith
rank_some rules.BadNumber = omega arith
rank_some rules.UnicodeEscape = omega arith
rank_some rules.ContractLine = omega arith

module _ (file : ℕ) (bytes : List ℕ) (valid : ℕ) (v : IsValidLength bytes valid) where
  -- where the encoding breaks
  encoding_at : (n : ℕ) → IsValidUpTo bytes n → n ≡ valid
  encoding_at n h = go v
    where
      go : IsValidLength bytes valid → n ≡ valid
      go (inl w) = absurd (not_utf8_all bytes n w.1 h)
      go (inr w) = valid_once bytes n valid h w

  -- a rule that is broken where tokens and gaps lead, before the encoding breaks
  pub first_reached : (inside : Bool) (front text : List ℕ) (list : List Lexeme) (place : Place) (rule : LexRule) → Reaches file false [] bytes list inside front text → length front < valid
      → BreaksHere inside rule text → place ≡ place_after file front → IsFirstBroken file bytes place rule
  first_reached inside front text list place rule d l h p =
      record { front = front; breaks = reached inside list text d h; at = p; least = least }
    where
      least : (other : List ℕ) (r : LexRule) → Breaks file bytes other r → (length front < length other) ⊎ ((front ≡ other) × (rank rule ≤ rank r))
      least other r (encoding rest e s u) = inl (omega (arith, encoding_at (length other) u, l))
      least other r (reached there more rest c b) = go (cases_lt (length front) (length other))
        where
          go : (length front < length other) ⊎ (length other ≤ length front) → (length front < length other) ⊎ ((front ≡ other) × (rank rule ≤ rank r))
          go (inl less) = inl less
          go (inr more_or_same) =
              let up = none_before r d c b in
              let z : front ++ text ≡ other ++ rest = sym (whole d) ∙ whole c in
              let same = same_split front other text rest z (omega (arith, up, more_or_same)) in
              let rules_same : rule ≡ r = rule_is inside rule text h ∙ (ap rule_of same.1 ∙ sym (rule_is there r rest b)) in
              inr (same.0, omega (arith, ap rank rules_same))

  -- the encoding, where nothing else is broken before
  pub first_encoding : (place : Place) → valid < length bytes → place ≡ place_after file (take valid bytes)
      → ((inside : Bool) (list : List Lexeme) (other rest : List ℕ) (r : LexRule) → Reaches file false [] bytes list inside other rest → BreaksHere inside r rest → valid ≤ length other)
      → IsFirstBroken file bytes place rules.NotUtf8
  first_encoding place short p none =
      record { front = take valid bytes; breaks = encoding (drop valid bytes) refl (sym (take-append-drop valid bytes)) up_to; at = p; least = least }
    where
      size : length (take valid bytes) ≡ valid
      size = length-take-le valid bytes (valid_within bytes valid v)

      up_to : IsValidUpTo bytes (length (take valid bytes))
      up_to = go v
        where
          go : IsValidLength bytes valid → IsValidUpTo bytes (length (take valid bytes))
          go (inl w) = absurd (omega (arith, w.0, short))
          go (inr w) = rw size w

      front_is : (other rest : List ℕ) → bytes ≡ other ++ rest → length other ≡ valid → take valid bytes ≡ other
      front_is other rest e n = ap (take valid) e ∙ take_at other rest valid n

      least : (other : List ℕ) (r : LexRule) → Breaks file bytes other r
          → (length (take valid bytes) < length other) ⊎ ((take valid bytes ≡ other) × (rank rules.NotUtf8 ≤ rank r))
      least other r (encoding rest e s u) = inr (front_is other rest s (encoding_at (length other) u), rank_some r)
      least other r (reached there more rest c b) = go (cases_lt valid (length other))
        where
          go : (valid < length other) ⊎ (length other ≤ valid) → (length (take valid bytes) < length other) ⊎ ((take valid bytes ≡ other) × (rank rules.NotUtf8 ≤ rank r))
          go (inl less) = inl (omega (arith, size, less))
          go (inr same) = inr (front_is other rest (whole c) (omega (arith, none there more other rest r c b, same)), rank_some r)

-- a source that tokens spell breaks no rule
pub unbroken : (file : ℕ) (bytes front : List ℕ) (tokens : Lexemes) (rule : LexRule) → AreTokens file bytes tokens → Breaks file bytes front rule → ⊥
unbroken file bytes front tokens rule t (encoding rest e s u) = not_utf8_all bytes (length front) t.utf8 u
unbroken file bytes front tokens rule t (reached inside list rest d h) =
    let up = none_before rule t.spelled.1 d h in
    let long : length bytes ≡ length front + length rest = ap length (whole d) ∙ length-append front rest in
    omega (arith, up, long, breaks_some inside rule rest h)
