use Rattle.std.proofs.Common.{refl}
use Rattle.kr_mean.specs.declared.row.Row.{Row}
use Rattle.kr_plain.proofs.plain.list_keys.Goals as goal

pub returns-clause-entries : goal.returns-clause-entries
returns-clause-entries g c = λ problem runs. c.in_ok-found.ensures.entries problem runs (λ (row : Row). tt) (λ v iv. refl)
