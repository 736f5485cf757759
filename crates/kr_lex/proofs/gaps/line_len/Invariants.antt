use Rattle.std.proofs.Common.{◌≡◌, false, take}
use Rattle.std.specs.List.{AllByRecursion}
use Rattle.kr_lex.specs.Characters.{is_line_end}
use Rattle.kr_lex.proofs.gaps.line_len.Given as goal

abbrev pub invariant-loop-b : goal.invariant-loop-b
invariant-loop-b l = (l.len ≡ l.b-index) × AllByRecursion (λ b. is_line_end b ≡ false) (take l.b-index l.text)
