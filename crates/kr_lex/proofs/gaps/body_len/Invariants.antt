use Rattle.std.proofs.Common.{◌≡◌, ◌-◌, ◌≤◌, ◌∷◌, ◌++◌, List, ℕ, length}
use Rattle.kr_lex.proofs.gaps.body_len.Given as goal

-- no `*/` so far
abbrev pub invariant-loop-len : goal.invariant-loop-len
invariant-loop-len l = (l.len ≤ length l.text) × ((other more : List ℕ) → l.text ≡ other ++ 42 ∷ 47 ∷ more → l.len ≤ length other)

abbrev pub decreases-loop-len : goal.decreases-loop-len
decreases-loop-len l = length l.text - l.len
