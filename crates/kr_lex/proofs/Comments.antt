-- Comments that a star and a slash close.
use Rattle.std.proofs.Common.{◌≡◌, ℕ, zero, suc, ◌+◌, ◌<◌, ◌≤◌, List, [], ◌∷◌, ◌++◌, length, slice_index, take, drop, refl, sym, ap, ◌∙◌, arith, length-append, append_assoc}
use Rattle.std.proofs.lemmas.List.{drop_more, drop-drop, take_at, length-take-le, length-drop}
use Rattle.std.proofs.Math.Seq.{take-add}
use Rattle.kr_lex.specs.Gaps.{IsGap, line, block}
use Rattle.kr_lex.specs.ContractLines.{BeginsContract}
use Rattle.kr_lex.specs.Pieces.{IsBodyLength, IsLineLength}

-- the first two bytes of a text
pub two_front : (text : List ℕ) (a b : ℕ) → 1 < length text → slice_index text 0 ≡ a → slice_index text 1 ≡ b → text ≡ a ∷ b ∷ drop 2 text
two_front text a b l p q =
    drop_more text 0 0 (omega arith) ∙ (ap (λ x. x ∷ drop 1 text) p ∙ ap (λ t. a ∷ t) (drop_more text 1 0 l ∙ ap (λ x. x ∷ drop 2 text) q))

-- a comment up to the first `*/` after its own `/*`
pub block_gap : (text : List ℕ) (n : ℕ) → 1 < length text → slice_index text 0 ≡ 47 → slice_index text 1 ≡ 42 → IsBodyLength (drop 2 text) n
    → (n + 4 ≤ length text) × IsGap (take (n + 4) text) (drop (n + 4) text)
block_gap text n l p q h =
    let body = take n (drop 2 text) in
    let rest : drop (n + 2) (drop 2 text) ≡ drop (n + 4) text = drop-drop (n + 2) 2 text ∙ ap (λ k. drop k text) (omega arith) in
    let within : n + 4 ≤ length text = omega (arith, h.within, length-drop 2 text) in
    let size : length body ≡ n = length-take-le n (drop 2 text) (omega (arith, h.within)) in
    let left : drop 2 text ≡ body ++ 42 ∷ 47 ∷ drop (n + 4) text = h.closed ∙ ap (λ r. body ++ 42 ∷ 47 ∷ r) rest in
    let whole : text ≡ (47 ∷ 42 ∷ body ++ 42 ∷ 47 ∷ []) ++ drop (n + 4) text =
    two_front text 47 42 l p q ∙ (ap (λ t. 47 ∷ 42 ∷ t) left ∙ sym (append_assoc (47 ∷ 42 ∷ body) (42 ∷ 47 ∷ []) (drop (n + 4) text))) in
    let long : length (47 ∷ 42 ∷ body ++ 42 ∷ 47 ∷ []) ≡ n + 4 = omega (arith, length-append body (42 ∷ 47 ∷ []), size) in
    let front : take (n + 4) text ≡ 47 ∷ 42 ∷ body ++ 42 ∷ 47 ∷ [] = ap (take (n + 4)) whole ∙ take_at (47 ∷ 42 ∷ body ++ 42 ∷ 47 ∷ []) (drop (n + 4) text) (n + 4) long in (
      within,
      block (record {
        body = body;
        spelled = front;
        first = λ other more e. omega (arith, h.first other more (left ∙ e), size);
      }),
    )

-- a comment up to the line's end, where no contract line begins
first_of_front : (text : List ℕ) (n b : ℕ) → 0 < b → slice_index (take n text) 0 ≡ b → text ≡ b ∷ drop 1 text
first_of_front [] zero b l e = absurd (omega (arith, l, e))
first_of_front [] (suc n) b l e = absurd (omega (arith, l, e))
first_of_front (x ∷ text) zero b l e = absurd (omega (arith, l, e))
first_of_front (x ∷ text) (suc n) b l e = ap (λ y. y ∷ text) e

begins_at : (text : List ℕ) → text ≡ 47 ∷ 47 ∷ 64 ∷ drop 3 text → BeginsContract text
begins_at text e = rw e (refl, refl, refl)

pub line_gap : (text : List ℕ) (n : ℕ) → 1 < length text → slice_index text 0 ≡ 47 → slice_index text 1 ≡ 47 → (BeginsContract text → ⊥) → IsLineLength (drop 2 text) n
    → (2 + n ≤ length text) × IsGap (take (2 + n) text) (drop (2 + n) text)
line_gap text n l p q none h =
    let body = take n (drop 2 text) in
    let two : text ≡ 47 ∷ 47 ∷ drop 2 text = two_front text 47 47 l p q in
    let front : take (2 + n) text ≡ 47 ∷ 47 ∷ body = take-add 2 n text ∙ ap (λ t. t ++ body) (ap (take 2) two) in
    let rest : drop n (drop 2 text) ≡ drop (2 + n) text = drop-drop n 2 text in (
      omega (arith, h.within, length-drop 2 text, l),
      line (record {
        body = body;
        spelled = front;
        no_contract = λ z. none (begins_at text (two ∙ ap (λ t. 47 ∷ 47 ∷ t) (first_of_front (drop 2 text) n 64 (omega arith) z ∙ ap (λ t. 64 ∷ t) (drop-drop 1 2 text))));
        in_line = h.in_line;
        through = rw rest at h.through;
      }),
    )
