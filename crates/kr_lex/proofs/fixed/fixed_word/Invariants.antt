use Rattle.std.proofs.Common.{◌≡◌, ◌<◌, ℕ, get_or}
use Rattle.kr_lex.specs.declared.kind.Kind.{Kind}
use Rattle.kr_lex.specs.Spelling.{spelling}
use Rattle.kr_lex.proofs.fixed.fixed_word.Given as goal

-- none of the kinds so far has this spelling
abbrev pub invariant-loop-kind : goal.invariant-loop-kind
invariant-loop-kind l = (k : ℕ) (kind : Kind) → k < l.kind-index → kind ≡ get_or l.table k kind → l.word ≡ spelling kind → ⊥
