use Rattle.std.proofs.Common.{◌≡◌, ◌≤◌, ℕ, drop}
use Rattle.kr_lex.specs.ContractLines.{has_block}
use Rattle.kr_lex.proofs.contract.clear_len.Given as goal

-- the rest of the text decides, from each byte so far
abbrev pub invariant-loop-at : goal.invariant-loop-at
invariant-loop-at l = (k : ℕ) → k ≤ l.at → has_block (drop k l.text) ≡ has_block (drop l.at l.text)
