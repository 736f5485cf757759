-- The closed segments at the front of a list.
use Rattle.std.proofs.Common.{◌≡◌, ℕ, suc, ◌+◌, ◌-◌, ◌^◌, ◌<◌, ◌≤◌, List, [], ◌∷◌, true, false, length, drop, take, get_or, set, refl, ap, ◌∙◌, arith, cond, length-drop}
use Rattle.std.specs.List.{sum_by}
use Rattle.std.proofs.lemmas.List.{at_drop_all}
use Rattle.kr_core.specs.declared.segment.Segment.{Segment}
use Rattle.kr_base.specs.Causes.{capped}
use Rattle.kr_core.specs.States.{is_closed}
use Rattle.kr_core.specs.Steps.{front, gone, left}

abbrev pub rows_in : List Segment → ℕ
rows_in ss = sum_by (λ s. s.rows) (front ss)

-- all of them closed
pub rows_all : (i rows : ℕ) (ss : List Segment) → length ss ≤ i → capped (rows_in ss) ≡ capped (rows + rows_in (drop i ss)) → rows ≤ 2 ^ 64 - 1 → rows ≡ capped (rows_in ss)
rows_all i rows ss h before fits =
    let e : rows_in (drop i ss) ≡ 0 = at_drop_all rows_in ss i h in
    omega (arith, e, before)

pub gone_short : (ss : List Segment) → length ss ≤ 1 → gone ss ≡ []
gone_short [] h = refl
gone_short (s ∷ []) h = refl
gone_short (s ∷ t ∷ ss) h = absurd (omega (arith, h))

pub count_all : (i n : ℕ) (ss : List Segment) → length ss ≤ i + 1 → n ≡ i + length (gone (drop i ss)) → i ≡ n
count_all i n ss h before =
    let e : length (gone (drop i ss)) ≡ 0 = ap (λ (xs : List Segment). length xs) (gone_short (drop i ss) (omega (arith, h, length-drop i ss))) in
    omega (arith, e, before)

pub gone_le : (ss : List Segment) → length (gone ss) ≤ length ss
gone_le [] = omega arith
gone_le (s ∷ []) = omega arith
gone_le (s ∷ t ∷ ss) =
    elim (is_closed s) as (λ b. length (cond b (s ∷ gone (t ∷ ss)) []) ≤ suc (length (t ∷ ss))) [ true ↦ omega (arith, gone_le (t ∷ ss)) | false ↦ omega arith ]

-- they are the first ones
pub gone_take : (ss : List Segment) → take (length (gone ss)) ss ≡ gone ss
gone_take [] = refl
gone_take (s ∷ []) = refl
gone_take (s ∷ t ∷ ss) =
    elim (is_closed s) as (λ b. take (length (cond b (s ∷ gone (t ∷ ss)) [])) (s ∷ t ∷ ss) ≡ cond b (s ∷ gone (t ∷ ss)) []) [
      | true ↦ ap (λ (xs : List Segment). s ∷ xs) (gone_take (t ∷ ss))
      | false ↦ refl
    ]

abbrev pub without_rows : List Segment → List Segment
without_rows [] = []
without_rows (s ∷ ss) = record s { rows = 0 } ∷ ss

-- the others are what is left
pub left_drop : (ss : List Segment) → without_rows (drop (length (gone ss)) ss) ≡ left ss
left_drop [] = refl
left_drop (s ∷ []) = refl
left_drop (s ∷ t ∷ ss) =
    elim (is_closed s) as (λ b. without_rows (drop (length (cond b (s ∷ gone (t ∷ ss)) [])) (s ∷ t ∷ ss)) ≡ cond b (left (t ∷ ss)) (record s { rows = 0 } ∷ (t ∷ ss))) [
      | true ↦ left_drop (t ∷ ss)
      | false ↦ refl
    ]

-- what a drain reads and writes, where the count is that of those that go
pub count_within : (n : ℕ) (ss xs : List Segment) → n ≡ length (gone ss) → ss ≡ xs → n ≤ length xs
count_within n ss xs e same = omega (arith, e, gone_le ss, ap (λ (ys : List Segment). length ys) same)

pub tried_taken : (n m : ℕ) (ss xs ys : List Segment) → n ≡ length (gone ss) → ss ≡ ys → xs ≡ ys → m ≡ capped (sum_by (λ s. s.tried) (take n xs))
    → m ≡ capped (sum_by (λ s. s.tried) (gone ys))
tried_taken n m ss xs ys e same as_it is =
    let F : List Segment → ℕ = λ zs. capped (sum_by (λ s. s.tried) zs) in
    let n' : n ≡ length (gone ys) = e ∙ ap (λ (zs : List Segment). length (gone zs)) same in
    is ∙ (ap (λ (zs : List Segment). F (take n zs)) as_it ∙ (ap (λ (k : ℕ). F (take k ys)) n' ∙ ap F (gone_take ys)))

left_here : (n : ℕ) (ss ys new : List Segment) → n ≡ length (gone ss) → ss ≡ ys → new ≡ drop n ys → without_rows new ≡ left ys
left_here n ss ys new e same is =
    let n' : n ≡ length (gone ys) = e ∙ ap (λ (zs : List Segment). length (gone zs)) same in
    ap without_rows (is ∙ ap (λ (k : ℕ). drop k ys) n') ∙ left_drop ys

pub left_none : (n : ℕ) (ss ys new : List Segment) → n ≡ length (gone ss) → ss ≡ ys → new ≡ drop n ys → length new ≡ 0 → new ≡ left ys
left_none n ss ys [] e same is none = left_here n ss ys [] e same is
left_none n ss ys (x ∷ xs) e same is none = absurd (omega (arith, none))

pub left_some : (n : ℕ) (ss ys new : List Segment) (s w : Segment) → n ≡ length (gone ss) → ss ≡ ys → new ≡ drop n ys → 0 < length new → s ≡ get_or new 0 s
    → w ≡ record s { rows = 0 } → set new 0 w ≡ left ys
left_some n ss ys [] s w e same is some at written = absurd (omega (arith, some))
left_some n ss ys (x ∷ xs) s w e same is some at written =
    ap (λ (t : Segment). t ∷ xs) (written ∙ ap (λ (t : Segment). record t { rows = 0 }) at) ∙ left_here n ss ys (x ∷ xs) e same is
