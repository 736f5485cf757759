use Rattle.std.proofs.Common.{◌≡◌, ◌<◌, ◌++◌, ℕ, List, get_or}
use Rattle.kr_lex.specs.declared.kind.Kind.{Kind}
use Rattle.kr_lex.specs.Spelling.{spelling}
use Rattle.kr_lex.proofs.fixed.longest_fixed.Given as goal

-- none of the kinds so far fits
abbrev pub invariant-loop-kind : goal.invariant-loop-kind
invariant-loop-kind l = (k : ℕ) (kind : Kind) (more : List ℕ) → k < l.kind-index → kind ≡ get_or l.table k kind → l.text ≡ spelling kind ++ more → ⊥
