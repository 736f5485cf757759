-- The places of a text go onward, and by a character that ends no line they go on.
use Rattle.std.proofs.Common.{◌≡◌, ℕ, ◌+◌, ◌<◌, ◌≤◌, ◌⊎◌, inl, inr, Bool, true, false, ◌||◌, cond, List, [], ◌∷◌, ◌++◌, refl, sym, ap, ◌∙◌, subst, arith, append_assoc}
use Rattle.std.proofs.lemmas.List.{append-nil}
use Rattle.std.proofs.lemmas.Bool.Decides.{nat_tests}
use Rattle.kr_lex.specs.Characters.{is_line_end, begins_character}
use Rattle.kr_lex.specs.Cursors.{one_if}
use Rattle.kr_lex.specs.Places.{ends_line, line_ends, has_line_end, last_line, characters, line_after, column_after}
use Rattle.kr_lex.proofs.Positions.{or_false, last_line_push, characters_push}

-- ---- lines and columns

-- the first place is not after the second
abbrev pub IsUpTo : ℕ → ℕ → ℕ → ℕ → Type 0
IsUpTo l c m d = (l < m) ⊎ ((l ≡ m) × (c ≤ d))

-- the first place is before the second
abbrev pub IsBefore : ℕ → ℕ → ℕ → ℕ → Type 0
IsBefore l c m d = (l < m) ⊎ ((l ≡ m) × (c < d))

up_to_trans : (l c m d n e : ℕ) → IsUpTo l c m d → IsUpTo m d n e → IsUpTo l c n e
up_to_trans l c m d n e (inl h) (inl k) = inl (omega arith)
up_to_trans l c m d n e (inl h) (inr k) = inl (omega (arith, k.0))
up_to_trans l c m d n e (inr h) (inl k) = inl (omega (arith, h.0))
up_to_trans l c m d n e (inr h) (inr k) = inr (h.0 ∙ k.0, omega (arith, h.1, k.1))

pub before_trans : (l c m d n e : ℕ) → IsBefore l c m d → IsUpTo m d n e → IsBefore l c n e
before_trans l c m d n e (inl h) (inl k) = inl (omega arith)
before_trans l c m d n e (inl h) (inr k) = inl (omega (arith, k.0))
before_trans l c m d n e (inr h) (inl k) = inl (omega (arith, h.0))
before_trans l c m d n e (inr h) (inr k) = inr (h.0 ∙ k.0, omega (arith, h.1, k.1))

-- ---- one byte more

last : ℕ → List ℕ → ℕ
last before [] = before
last before (b ∷ bs) = last b bs

line_ends_push : (before b : ℕ) (bs : List ℕ) → line_ends before (bs ++ b ∷ []) ≡ line_ends before bs + cond (ends_line (last before bs) b) 1 0
unfolding last
line_ends_push before b [] = omega arith
line_ends_push before b (c ∷ bs) = omega (arith, line_ends_push c b bs)

column_push : (b : ℕ) (bs : List ℕ) → is_line_end b ≡ false → column_after (bs ++ b ∷ []) ≡ column_after bs + cond (begins_character b) 1 0
column_push b bs e =
    let l : last_line (bs ++ b ∷ []) ≡ last_line bs ++ b ∷ [] = last_line_push b bs ∙ ap (λ t. cond t [] (last_line bs ++ b ∷ [])) e in
    omega (arith, ap characters l, characters_push b (last_line bs))

-- after a line end comes column 1
has_end : (b : ℕ) (bs : List ℕ) → is_line_end (last b bs) ≡ true → has_line_end (b ∷ bs) ≡ true
unfolding last
has_end b [] e = or_false (is_line_end b) ∙ e
has_end b (c ∷ bs) e = ap (λ t. is_line_end b || t) (has_end c bs e) ∙ always (is_line_end b)
  where
    always : (x : Bool) → (x || true) ≡ true
    always true = refl
    always false = refl

nothing_behind : (b : ℕ) (bs : List ℕ) → is_line_end (last b bs) ≡ true → last_line (b ∷ bs) ≡ []
unfolding last
nothing_behind b [] e = ap (λ t. cond t [] (b ∷ [])) (has_end b [] e)
nothing_behind b (c ∷ bs) e = ap (λ t. cond t (last_line (c ∷ bs)) (b ∷ c ∷ bs)) (has_end b (c ∷ bs) e) ∙ nothing_behind c bs e

-- a line end that ends no line of its own is a LF after a CR
no_line : (before b : ℕ) → is_line_end b ≡ true → ends_line before b ≡ false → before ≡ 13
no_line before b e n = grind (arith, nat_tests)

-- a character that ends a line or not
line_stays : (before b : ℕ) → is_line_end b ≡ false → ends_line before b ≡ false
line_stays before b e = grind (arith, nat_tests)

line_end_13 : is_line_end 13 ≡ true
line_end_13 = refl

column_1 : (bs : List ℕ) → last 0 bs ≡ 13 → column_after bs ≡ 1
unfolding last
column_1 [] e = absurd (omega (arith, e))
column_1 (b ∷ bs) e = let n = nothing_behind b bs (ap is_line_end e ∙ line_end_13) in omega (arith, ap characters n)

column_end : (b : ℕ) (bs : List ℕ) → is_line_end b ≡ true → column_after (bs ++ b ∷ []) ≡ 1
column_end b bs e = let n : last_line (bs ++ b ∷ []) ≡ [] = last_line_push b bs ∙ ap (λ t. cond t [] (last_line bs ++ b ∷ [])) e in omega (arith, ap characters n)

-- ---- onward

abbrev Onward : List ℕ → List ℕ → Type 0
Onward front longer = IsUpTo (line_after front) (column_after front) (line_after longer) (column_after longer)

one_onward : (front : List ℕ) (b : ℕ) → Onward front (front ++ b ∷ [])
one_onward front b = go (is_line_end b) refl (ends_line (last 0 front) b) refl
  where
    pushed : line_ends 0 (front ++ b ∷ []) ≡ line_ends 0 front + cond (ends_line (last 0 front) b) 1 0
    pushed = line_ends_push 0 b front

    go : (x : Bool) → is_line_end b ≡ x → (y : Bool) → ends_line (last 0 front) b ≡ y → Onward front (front ++ b ∷ [])
    go true e true q = let n = ap one_if q in inl (omega (arith, pushed, n))
    go true e false q =
        let n = ap one_if q in
        inr (omega (arith, pushed, n), omega (arith, column_1 front (no_line (last 0 front) b e q), column_end b front e))
    go false e y q =
        let n = ap one_if (line_stays (last 0 front) b e) in
        inr (omega (arith, pushed, n), omega (arith, column_push b front e))

pub onward : (part front : List ℕ) → Onward front (front ++ part)
onward [] front = subst (Onward front) (sym (append-nil front)) (inr (refl, omega arith))
onward (b ∷ part) front =
    let more = front ++ b ∷ [] in
    let longer = more ++ part in
    subst (Onward front) (append_assoc front (b ∷ []) part)
    (up_to_trans (line_after front) (column_after front) (line_after more) (column_after more) (line_after longer) (column_after longer) (one_onward front b) (onward part more))

-- a text that begins with a character, and with no line end
pub record Starts (part : List ℕ) : Type 0 where
  pub byte : ℕ
  pub rest : List ℕ
  pub is : part ≡ byte ∷ rest
  pub in_line : is_line_end byte ≡ false
  pub begins : begins_character byte ≡ true

abbrev pub Passes : List ℕ → List ℕ → Type 0
Passes front longer = IsBefore (line_after front) (column_after front) (line_after longer) (column_after longer)

pub passes : (part front : List ℕ) → Starts part → Passes front (front ++ part)
passes part front s =
    let more = front ++ s.byte ∷ [] in
    let longer = more ++ s.rest in
    let same : longer ≡ front ++ part = append_assoc front (s.byte ∷ []) s.rest ∙ ap (λ t. front ++ t) (sym s.is) in
    let pushed = line_ends_push 0 s.byte front in
    let n = ap one_if (line_stays (last 0 front) s.byte s.in_line) in
    let one = ap one_if s.begins in
    let first : Passes front more = inr (omega (arith, pushed, n), omega (arith, column_push s.byte front s.in_line, one)) in
    subst (Passes front) same
    (before_trans (line_after front) (column_after front) (line_after more) (column_after more) (line_after longer) (column_after longer) first (onward s.rest more))
