-- A text up to its first byte of a kind, and after that; lines at the front of a text.
use Rattle.std.proofs.Common.{◌≡◌, ℕ, suc, ◌+◌, ◌<◌, ◌≤◌, Bool, true, false, List, [], ◌∷◌, ◌++◌, length, take, drop, get_or, refl, sym, ap, ◌∙◌, subst, arith, append_assoc}
use Rattle.std.specs.Prelude.{◌==◌, flat_map}
use Rattle.std.specs.List.{position_or_len, before_first, after_first}
use Rattle.std.proofs.lemmas.Bool.{eqb-true, eq-eqb}
use Rattle.std.proofs.lemmas.Grind.{flat_map-append}
use Rattle.std.proofs.lemmas.List.{length-append, take_all}
use Rattle.std.proofs.lemmas.List.Sums.{position_or_len_is}
use Rattle.std.proofs.Math.ListN.{drop_of_length-le}
use Rattle.std.proofs.Math.Seq.{drop-append-add}
use Rattle.kr_text.specs.Splitting.{IsWithout, ended, lines_in, onto, unended}

-- ---- the first byte of a kind

pub first_here : (c b : ℕ) (bs : List ℕ) → (b == c) ≡ true → position_or_len (λ x. x == c) (b ∷ bs) ≡ 0
first_here c b bs is = rw is refl

pub first_later : (c b : ℕ) (bs : List ℕ) → (b == c) ≡ false → position_or_len (λ x. x == c) (b ∷ bs) ≡ suc (position_or_len (λ x. x == c) bs)
first_later c b bs is = rw is (omega arith)

-- it parts there
abbrev Parts : ℕ → List ℕ → ℕ → Type 0
Parts c text k = (text ≡ take k text ++ c ∷ drop (k + 1) text) × IsWithout c (take k text)

-- a text parts at its first such byte
pub parts_at : (c : ℕ) (text : List ℕ) → position_or_len (λ x. x == c) text < length text
    → (text ≡ before_first (λ x. x == c) text ++ c ∷ after_first (λ x. x == c) text) × IsWithout c (before_first (λ x. x == c) text)
parts_at c [] h = absurd (omega arith)
parts_at c (b ∷ bs) h = go (b == c) refl (λ small. parts_at c bs small)
  where
    go : (t : Bool) → (b == c) ≡ t → (position_or_len (λ x. x == c) bs < length bs → Parts c bs (position_or_len (λ x. x == c) bs)) → Parts c (b ∷ bs) (position_or_len (λ x. x == c) (b ∷ bs))
    go true is later = subst (Parts c (b ∷ bs)) (sym (first_here c b bs is)) (ap (λ (k : ℕ). k ∷ bs) (eqb-true b c is), tt)
    go false is later =
        let e : position_or_len (λ x. x == c) (b ∷ bs) ≡ suc (position_or_len (λ x. x == c) bs) = first_later c b bs is in
        let rest = later (omega (arith, e, h)) in
        let next : suc (position_or_len (λ x. x == c) bs) + 1 ≡ suc (position_or_len (λ x. x == c) bs + 1) = omega arith in
        subst (Parts c (b ∷ bs)) (sym e) (rw next (ap (λ (t : List ℕ). b ∷ t) rest.0), (is, rest.1))

-- a text without such a byte
pub none_at : (c : ℕ) (text : List ℕ) → length text ≤ position_or_len (λ x. x == c) text → IsWithout c text
none_at c [] h = tt
none_at c (b ∷ bs) h = go (b == c) refl (λ long. none_at c bs long)
  where
    go : (t : Bool) → (b == c) ≡ t → (length bs ≤ position_or_len (λ x. x == c) bs → IsWithout c bs) → IsWithout c (b ∷ bs)
    go true is later = absurd (omega (arith, first_here c b bs is, h))
    go false is later = (is, later (omega (arith, first_later c b bs is, h)))

-- ---- the first line

pub lines_of_line : (line rest : List ℕ) → IsWithout 10 line → lines_in (line ++ 10 ∷ rest) ≡ line ∷ lines_in rest
lines_of_line [] rest h = refl
lines_of_line (b ∷ bs) rest h = rw h.0 (ap (onto b) (lines_of_line bs rest h.1))

pub no_lines : (text : List ℕ) → IsWithout 10 text → lines_in text ≡ []
no_lines [] h = refl
no_lines (b ∷ bs) h = rw h.0 (ap (onto b) (no_lines bs h.1))

-- the place of the first such byte
pub place_found : (c : ℕ) (text : List ℕ) (i : ℕ) → i < length text → ((k : ℕ) → k < i → (get_or text k 0 == c) ≡ false) → get_or text i 0 ≡ c → i ≡ position_or_len (λ x. x == c) text
place_found c text i h before here = sym (position_or_len_is (λ x. x == c) text i 0 (omega arith) before (λ below. eq-eqb (get_or text i 0) c here))

pub place_none : (c : ℕ) (text : List ℕ) (i : ℕ) → length text ≡ i → ((k : ℕ) → k < length text → (get_or text k 0 == c) ≡ false) → i ≡ position_or_len (λ x. x == c) text
place_none c text i h before = sym (position_or_len_is (λ x. x == c) text i 0 (omega arith) (λ k below. before k (omega arith)) (λ below. absurd (omega arith)))

-- without such a byte all is before it
pub no_parts : (c : ℕ) (text : List ℕ) → length text ≤ position_or_len (λ x. x == c) text → (text ≡ before_first (λ x. x == c) text) × ([] ≡ after_first (λ x. x == c) text)
no_parts c text h = (sym (take_all (position_or_len (λ x. x == c) text) text h), sym (drop_of_length-le text (omega (arith, h))))

pub first_line_is : (text : List ℕ) → position_or_len (λ x. x == 10) text < length text
    → (lines_in text ≡ before_first (λ x. x == 10) text ∷ lines_in (after_first (λ x. x == 10) text)) × (text ≡ ended (before_first (λ x. x == 10) text) ++ after_first (λ x. x == 10) text)
first_line_is text h =
    let before = before_first (λ x. x == 10) text in
    let after = after_first (λ x. x == 10) text in
    let parts = parts_at 10 text h in
    (ap lines_in parts.0 ∙ lines_of_line before after parts.1, parts.0 ∙ sym (append_assoc before (10 ∷ []) after))

pub first_line_by : (text line after : List ℕ) (at : ℕ) → at ≡ position_or_len (λ x. x == 10) text → at < length text → line ≡ take at text → after ≡ drop (at + 1) text
    → (lines_in text ≡ line ∷ lines_in after) × (text ≡ ended line ++ after)
first_line_by text line after at e h line_is after_is =
    let same : (lines_in text ≡ take at text ∷ lines_in (drop (at + 1) text)) × (text ≡ ended (take at text) ++ drop (at + 1) text) =
    subst (λ (k : ℕ). (lines_in text ≡ take k text ∷ lines_in (drop (k + 1) text)) × (text ≡ ended (take k text) ++ drop (k + 1) text)) (sym e) (first_line_is text (subst (λ (k : ℕ). k < length text) e h)) in
    subst (λ (l : List ℕ). (lines_in text ≡ l ∷ lines_in after) × (text ≡ ended l ++ after)) (sym line_is)
    (subst (λ (r : List ℕ). (lines_in text ≡ take at text ∷ lines_in r) × (text ≡ ended (take at text) ++ r)) (sym after_is) same)

pub no_line_is : (text : List ℕ) → length text ≤ position_or_len (λ x. x == 10) text → lines_in text ≡ []
no_line_is text h = no_lines text (none_at 10 text h)

-- ---- after the lines

-- some lines at the front, and what follows the rest's lines
pub unended_after : (lines : List (List ℕ)) (text rest : List ℕ) → text ≡ flat_map ended lines ++ rest → lines_in text ≡ lines ++ lines_in rest → unended text ≡ unended rest
unended_after lines text rest is are =
    let front = flat_map ended lines in
    let long : length (flat_map ended (lines_in text)) ≡ length front + length (flat_map ended (lines_in rest)) =
    ap (λ (ls : List (List ℕ)). length (flat_map ended ls)) are ∙ (ap length (flat_map-append ended lines (lines_in rest)) ∙ length-append front (flat_map ended (lines_in rest))) in
    ap (λ (n : ℕ). drop n text) long ∙ (ap (drop (length front + length (flat_map ended (lines_in rest)))) is ∙ drop-append-add front rest (length (flat_map ended (lines_in rest))))
