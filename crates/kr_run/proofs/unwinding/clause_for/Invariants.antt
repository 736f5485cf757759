use Rattle.std.proofs.Common.{◌≡◌, length}
use Rattle.kr_code.specs.Tables.{listed}
use Rattle.kr_run.specs.Unwinding.{clause_at}
use Rattle.kr_run.proofs.unwinding.clause_for.Given as goal

-- the first clause that fits is among those that are left
abbrev pub invariant-clauses : goal.invariant-clauses
invariant-clauses l = clause_at l.code l.kind (listed l.code l.fn.clauses) ≡ clause_at l.code l.kind (listed l.code l.left)

abbrev pub decreases-clauses : goal.decreases-clauses
decreases-clauses l = length (listed l.code l.left)
