-- How lines and columns grow, byte by byte.
use Rattle.std.proofs.Common.{◌≡◌, ℕ, ◌+◌, ◌-◌, ◌<◌, ◌≤◌, ◌⊎◌, inl, inr, Bool, true, false, not, ◌&&◌, ◌||◌, ◌==◌, cond, List, [], ◌∷◌, ◌++◌, length, slice_index, get_or, take, refl, sym, ap, ◌∙◌, arith}
use Rattle.std.proofs.lemmas.List.{take_more, length-take-le}
use Rattle.std.proofs.lemmas.Bool.{cases_eq, cond-true, cond-false, and_left, or_parts, or_from, ne_eqb}
use Rattle.kr_lex.specs.declared.cursor.Cursor.{Cursor}
use Rattle.kr_lex.specs.Characters.{is_line_end, begins_character}
use Rattle.kr_lex.specs.Places.{ends_line, line_ends, has_line_end, last_line, characters, line_after, column_after}
use Rattle.kr_lex.specs.Cursors.{Stands, byte_before, one_if}

-- the last byte of a text, or the given one
abbrev last : ℕ → List ℕ → ℕ
last before [] = before
last before (b ∷ bs) = last b bs

last_push : (before b : ℕ) (bs : List ℕ) → last before (bs ++ b ∷ []) ≡ b
last_push before b [] = refl
last_push before b (c ∷ bs) = last_push c b bs

-- the byte before an index is the last one before it
last_take : (bytes : List ℕ) (at : ℕ) → at < length bytes → last 0 (take at bytes) ≡ byte_before bytes at
last_take bytes at l = go (cases_eq at 0)
  where
    go : (at ≡ 0) ⊎ (at ≡ 0 → ⊥) → last 0 (take at bytes) ≡ byte_before bytes at
    go (inl z) = rw z refl
    go (inr n) =
        let before = at - 1 in
        let same : at ≡ before + 1 = omega (arith, n) in
        let t : take at bytes ≡ take before bytes ++ get_or bytes before 0 ∷ [] = ap (λ k. take k bytes) same ∙ take_more bytes before 0 (omega arith) in
        ap (last 0) t ∙ (last_push 0 (get_or bytes before 0) (take before bytes) ∙ sym (cond-false (at == 0) 0 (get_or bytes before 0) (ne_eqb at 0 n)))

line_ends_push : (before b : ℕ) (bs : List ℕ) → line_ends before (bs ++ b ∷ []) ≡ line_ends before bs + cond (ends_line (last before bs) b) 1 0
line_ends_push before b [] = omega arith
line_ends_push before b (c ∷ bs) = omega (arith, line_ends_push c b bs)

line_ends_le : (before : ℕ) (bs : List ℕ) → line_ends before bs ≤ length bs
line_ends_le before [] = omega arith
line_ends_le before (c ∷ bs) = omega (arith, line_ends_le c bs, at_most_one (ends_line before c))
  where
    at_most_one : (t : Bool) → cond t 1 0 ≤ 1
    at_most_one true = omega arith
    at_most_one false = omega arith

pub or_false : (x : Bool) → (x || false) ≡ x
or_false true = refl
or_false false = refl

pub or_assoc : (x y z : Bool) → (x || (y || z)) ≡ ((x || y) || z)
or_assoc true y z = refl
or_assoc false y z = refl

pub has_line_end_push : (b : ℕ) (bs : List ℕ) → has_line_end (bs ++ b ∷ []) ≡ (has_line_end bs || is_line_end b)
has_line_end_push b [] = or_false (is_line_end b)
has_line_end_push b (c ∷ bs) = ap (λ t. is_line_end c || t) (has_line_end_push b bs) ∙ or_assoc (is_line_end c) (has_line_end bs) (is_line_end b)

pub line_cases : (x y z : Bool) (l m : List ℕ) (b c : ℕ) → cond (x || (y || z)) (cond z [] (l ++ b ∷ [])) (c ∷ m ++ b ∷ []) ≡ cond z [] (cond (x || y) l (c ∷ m) ++ b ∷ [])
line_cases true true true l m b c = refl
line_cases true true false l m b c = refl
line_cases true false true l m b c = refl
line_cases true false false l m b c = refl
line_cases false true true l m b c = refl
line_cases false true false l m b c = refl
line_cases false false true l m b c = refl
line_cases false false false l m b c = refl

pub last_line_push : (b : ℕ) (bs : List ℕ) → last_line (bs ++ b ∷ []) ≡ cond (is_line_end b) [] (last_line bs ++ b ∷ [])
last_line_push b [] = ap (λ t. cond t [] (b ∷ [])) (or_false (is_line_end b))
last_line_push b (c ∷ bs) =
    ap (λ t. cond (is_line_end c || t) (last_line (bs ++ b ∷ [])) (c ∷ bs ++ b ∷ [])) (has_line_end_push b bs)
    ∙ (ap (λ l. cond (is_line_end c || (has_line_end bs || is_line_end b)) l (c ∷ bs ++ b ∷ [])) (last_line_push b bs)
    ∙ line_cases (is_line_end c) (has_line_end bs) (is_line_end b) (last_line bs) bs b c)

pub characters_push : (b : ℕ) (bs : List ℕ) → characters (bs ++ b ∷ []) ≡ characters bs + cond (begins_character b) 1 0
characters_push b [] = omega arith
characters_push b (c ∷ bs) = omega (arith, characters_push b bs)

column_at_end : (b : ℕ) (bs : List ℕ) → is_line_end b ≡ true → column_after (bs ++ b ∷ []) ≡ 1
column_at_end b bs e = ap (λ l. 1 + characters l) (last_line_push b bs ∙ cond-true (is_line_end b) [] (last_line bs ++ b ∷ []) e)

column_in_line : (b : ℕ) (bs : List ℕ) → is_line_end b ≡ false → column_after (bs ++ b ∷ []) ≡ column_after bs + cond (begins_character b) 1 0
column_in_line b bs e =
    let l : last_line (bs ++ b ∷ []) ≡ last_line bs ++ b ∷ [] = last_line_push b bs ∙ cond-false (is_line_end b) [] (last_line bs ++ b ∷ []) e in
    omega (arith, ap characters l, characters_push b (last_line bs))

line_in_line : (before b : ℕ) → is_line_end b ≡ false → ends_line before b ≡ false
line_in_line before b e =
    let h = or_parts (b == 10) (b == 13) e in
    or_from (b == 13) (b == 10 && not (before == 13)) h.1 (and_left (b == 10) (not (before == 13)) h.0)

-- the cursor one byte further
module _ (bytes : List ℕ) (cursor : Cursor) (h : Stands bytes cursor) (more : cursor.at < length bytes) where
  front : take (cursor.at + 1) bytes ≡ take cursor.at bytes ++ slice_index bytes cursor.at ∷ []
  front = take_more bytes cursor.at 0 more

  line_there : line_after (take (cursor.at + 1) bytes) ≡ cursor.line + cond (ends_line (byte_before bytes cursor.at) (slice_index bytes cursor.at)) 1 0
  line_there =
      let b = slice_index bytes cursor.at in
      let pushed = line_ends_push 0 b (take cursor.at bytes) in
      let same : one_if (ends_line (last 0 (take cursor.at bytes)) b) ≡ one_if (ends_line (byte_before bytes cursor.at) b) =
      ap (λ x. one_if (ends_line x b)) (last_take bytes cursor.at more) in
      omega (arith, ap (line_ends 0) front, pushed, same, h.line)

  pub line_bound : cursor.line ≤ cursor.at + 1
  line_bound = omega (arith, h.line, line_ends_le 0 (take cursor.at bytes), length-take-le cursor.at bytes h.within)

  pub stands_at_end : (line : ℕ) → is_line_end (slice_index bytes cursor.at) ≡ true
      → line ≡ cursor.line + one_if (ends_line (byte_before bytes cursor.at) (slice_index bytes cursor.at))
      → Stands bytes (record { at = cursor.at + 1; line = line; origin = cursor.at + 1 })
  stands_at_end line e l =
      record {
        within = omega arith;
        line = l ∙ sym line_there;
        column = omega (arith, ap column_after front, column_at_end (slice_index bytes cursor.at) (take cursor.at bytes) e);
      }

  pub stands_in_line : (origin : ℕ) → is_line_end (slice_index bytes cursor.at) ≡ false → one_if (begins_character (slice_index bytes cursor.at)) + origin ≡ cursor.origin + 1
      → Stands bytes (record { at = cursor.at + 1; line = cursor.line; origin = origin })
  stands_in_line origin e o =
      let none : one_if (ends_line (byte_before bytes cursor.at) (slice_index bytes cursor.at)) ≡ 0 =
      cond-false _ 1 0 (line_in_line (byte_before bytes cursor.at) (slice_index bytes cursor.at) e) in
      record {
        within = omega arith;
        line = omega (arith, line_there, none);
        column = omega (arith, ap column_after front, column_in_line (slice_index bytes cursor.at) (take cursor.at bytes) e, h.column, o);
      }

pub one_at_most : (t : Bool) → one_if t ≤ 1
one_at_most true = omega arith
one_at_most false = omega arith
