use Rattle.kr_code.specs.Tables.{listed}
use Rattle.kr_run_lookahead.proofs.Leading.{LeadsAlike}
use Rattle.kr_run_lookahead.proofs.flows.all.Given as goal

-- the rest leads where all of them lead
abbrev pub invariant-statements : goal.invariant-statements
invariant-statements g l = LeadsAlike l.code l.world l.fn.fuel (listed l.code l.fn.nodes) l.fuel_left (listed l.code l.left)
