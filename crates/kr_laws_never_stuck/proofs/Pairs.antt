-- A key of two parts is taken apart at its dot.
use Rattle.std.proofs.Common.{◌≡◌, ℕ, ◌+◌, Bool, true, false, not, ◌&&◌, ◌==◌, cond, List, [], ◌∷◌, ◌++◌, length, take, drop, refl, sym, ap, ◌∙◌, arith, append_assoc}
use Rattle.std.specs.Prelude.{codes}
use Rattle.std.specs.List.{before_first, after_first, position_or_len}
use Rattle.kr_fin.specs.Shapes.{is_dot, has_no_dot, is_part, is_pair}
use Rattle.kr_space_meaning.specs.Keys.{owner_part, name_part}

no_dot : (xs ys : List ℕ) → has_no_dot (xs ++ 46 ∷ ys) ≡ true → ⊥
no_dot [] ys e = cc (e)
no_dot (x ∷ xs) ys e = go (not (is_dot x)) e (no_dot xs ys)
  where
    go : (b : Bool) → (b && has_no_dot (xs ++ 46 ∷ ys)) ≡ true → (has_no_dot (xs ++ 46 ∷ ys) ≡ true → ⊥) → ⊥
    go true e r = r e
    go false e r = cc (e)

parts : (a b : List ℕ) → has_no_dot (after_first is_dot (a ++ 46 ∷ b)) ≡ true → (before_first is_dot (a ++ 46 ∷ b) ≡ a) × (after_first is_dot (a ++ 46 ∷ b) ≡ b)
parts [] b e = (refl, refl)
parts (x ∷ a) b e = go (is_dot x) e (parts a b)
  where
    n : ℕ
    n = position_or_len is_dot (a ++ 46 ∷ b)

    go : (d : Bool) → has_no_dot (drop (cond (not d) (1 + n) 0 + 1) (x ∷ a ++ 46 ∷ b)) ≡ true
        → (has_no_dot (after_first is_dot (a ++ 46 ∷ b)) ≡ true → (before_first is_dot (a ++ 46 ∷ b) ≡ a) × (after_first is_dot (a ++ 46 ∷ b) ≡ b))
        → (take (cond (not d) (1 + n) 0) (x ∷ a ++ 46 ∷ b) ≡ x ∷ a) × (drop (cond (not d) (1 + n) 0 + 1) (x ∷ a ++ 46 ∷ b) ≡ b)
    go true e r = absurd (no_dot a b e)
    go false e r =
        let one : 1 + n ≡ Rattle.std.proofs.Common.suc n = omega arith in
        let two : 1 + n + 1 ≡ Rattle.std.proofs.Common.suc (n + 1) = omega arith in
        let here = ap (λ (k : ℕ). drop k (x ∷ a ++ 46 ∷ b)) two in
        let rest = r (ap has_no_dot (sym here) ∙ e) in
        (ap (λ (k : ℕ). take k (x ∷ a ++ 46 ∷ b)) one ∙ ap (λ (ys : List ℕ). x ∷ ys) rest.0, here ∙ rest.1)

pub record IsApart (key owner name : List ℕ) : Type 0 where
  pub owner_is : owner_part key ≡ owner
  pub name_is : name_part key ≡ name

second : (a b c : Bool) → (a && (b && c)) ≡ true → c ≡ true
second true true c e = e
second true false c e = absurd (cc (e))
second false b c e = absurd (cc (e))

pub apart : (owner name : List ℕ) → is_pair (owner ++ 46 ∷ name) ≡ true → IsApart (owner ++ 46 ∷ name) owner name
apart owner name e =
    let key = owner ++ 46 ∷ name in
    let p = parts owner name (second (is_part (before_first is_dot key)) (not (length (after_first is_dot key) == 0)) (has_no_dot (after_first is_dot key)) e) in
    record { owner_is = p.0; name_is = p.1 }

-- likewise of a key that is written with its dot
pub dotted : (owner name : List ℕ) → owner ++ codes "." ++ name ≡ owner ++ 46 ∷ name
dotted owner name = append_assoc owner (46 ∷ []) name
