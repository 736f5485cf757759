use Rattle.std.proofs.Common.{◌≡◌, drop}
use Rattle.kr_lex.specs.ContractLines.{code_of, last_solid}
use Rattle.kr_lex.proofs.contract.is_closed.Given as goal

-- the rest of the text decides
abbrev pub invariant-loop-at : goal.invariant-loop-at
invariant-loop-at l = last_solid 0 (code_of l.text) ≡ last_solid l.last (code_of (drop l.at l.text))
