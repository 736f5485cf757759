use Rattle.std.proofs.Common.{◌≡◌, true, take}
use Rattle.std.specs.List.{AllByRecursion}
use Rattle.kr_lex.specs.ContractLines.{is_blank}
use Rattle.kr_lex.proofs.contract.blank_len.Given as goal

abbrev pub invariant-loop-b : goal.invariant-loop-b
invariant-loop-b l = (l.len ≡ l.b-index) × AllByRecursion (λ b. is_blank b ≡ true) (take l.b-index l.text)
