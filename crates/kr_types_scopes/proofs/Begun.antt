-- Scopes with the places where searches begin.
use Rattle.std.proofs.Common.{◌≡◌, refl, sym, ap, ℕ, zero, suc, ◌+◌, ◌<◌, ◌⊎◌, inl, inr, List, [], ◌∷◌, length, get_or, subst, arith, get_or-set_other, get_or-set_same}
use Rattle.std.proofs.Math.ListN.{set}
use Rattle.std.proofs.lemmas.Bool.{cases_eq}
use Rattle.kr_ast.specs.Arena.{Arena}
use Rattle.kr_types_scopes.specs.declared.within.Binding.{Binding}
use Rattle.kr_types_scopes.specs.declared.within.Within.{Within}
use Rattle.kr_types_scopes.specs.Kept.{begun}
use Rattle.kr_types_scopes.specs.Scoped.{AreStarts, nowhere}
use Rattle.kr_types_scopes.specs.Newest.{IsStart}

abbrev pub with_start : Within → ℕ → Within
with_start w s = record w { start = s }

pub begun_length : (ws : List Within) (ss : List ℕ) → length (begun ws ss) ≡ length ws
begun_length [] ss = refl
begun_length (w ∷ ws) [] = refl
begun_length (w ∷ ws) (s ∷ ss) = ap (λ n. suc n) (begun_length ws ss)

pub begun_at : (ws : List Within) (ss : List ℕ) (i d : ℕ) → length ss ≡ length ws → i < length ss → get_or (begun ws ss) i nowhere ≡ with_start (get_or ws i nowhere) (get_or ss i d)
begun_at [] [] i d e l = absurd (omega (arith, l))
begun_at [] (s ∷ ss) i d e l = absurd (omega (arith, e))
begun_at (w ∷ ws) [] i d e l = absurd (omega (arith, e))
begun_at (w ∷ ws) (s ∷ ss) zero d e l = refl
begun_at (w ∷ ws) (s ∷ ss) (suc i) d e l = begun_at ws ss i d (omega (arith, e)) (omega (arith, l))

-- also where there is no node
pub begun_any : (ws : List Within) (ss : List ℕ) (i : ℕ) → length ss ≡ length ws → get_or (begun ws ss) i nowhere ≡ with_start (get_or ws i nowhere) (get_or ss i 0)
begun_any [] [] i e = refl
begun_any [] (s ∷ ss) i e = absurd (omega (arith, e))
begun_any (w ∷ ws) [] i e = absurd (omega (arith, e))
begun_any (w ∷ ws) (s ∷ ss) zero e = refl
begun_any (w ∷ ws) (s ∷ ss) (suc i) e = begun_any ws ss i (omega (arith, e))

-- one node more
pub more_starts : (tree : Arena) (bs : List Binding) (ws : List Within) (ss : List ℕ) (at i s : ℕ) → at ≡ i + 1 → i < length ss → AreStarts tree bs ws ss at → IsStart tree bs (get_or ws i nowhere).top i s → AreStarts tree bs ws (set ss i s) i
more_starts tree bs ws ss at i s e lt h made k le l = go (cases_eq k i)
  where
    go : (k ≡ i) ⊎ (k ≡ i → ⊥) → IsStart tree bs (get_or ws k nowhere).top k (get_or (set ss i s) k 0)
    go (inl eq) =
        subst (λ (j : ℕ). IsStart tree bs (get_or ws j nowhere).top j (get_or (set ss i s) j 0)) (sym eq)
        (subst (λ (q : ℕ). IsStart tree bs (get_or ws i nowhere).top i q) (sym (get_or-set_same ss i s 0 lt)) made)
    go (inr ne) = subst (λ (q : ℕ). IsStart tree bs (get_or ws k nowhere).top k q) (sym (get_or-set_other ss i k s 0 ne)) (h k (omega (arith, e, le, ne)) l)
