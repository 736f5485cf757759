use Rattle.kr_run_frames.specs.declared.frame.Waiting.TheVariants as kept
use Rattle.kr_run_lookahead.specs.declared.leaving.Point.TheVariants as points
use Rattle.kr_run_lookahead.proofs.Lefts.{passes_as, scope_on}
use Rattle.kr_run_lookahead.proofs.leaving.is_in_body.Goals as goal

pub returns-in-Scope : goal.returns-in-Scope
returns-in-Scope c = λ e code u n. passes_as code c.args.waiting.now (kept.Scope c.in-Scope.field-0) (record { point = points.Gives u; fuel = n }) (record { point = points.Gives u; fuel = n }) c.in-Scope.is (scope_on code c.in-Scope.field-0 n u)
