use Rattle.kr_mean.specs.declared.row.Row.{Row}
use Rattle.kr_plain.proofs.Told.{structure_same}
use Rattle.kr_plain.proofs.plain.list_plain.Goals as goal

pub returns-clause-entries : goal.returns-clause-entries
returns-clause-entries g c = λ problem laid runs. c.in_ok-found.ensures.entries problem runs (λ (row : Row). row.structure) (λ v iv. structure_same problem c.args.layout.now v laid)
