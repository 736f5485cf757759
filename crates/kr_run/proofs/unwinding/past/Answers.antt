use Rattle.std.proofs.Common.{sym, subst}
use Rattle.std.specs.Prelude.{MatchOption}
use Rattle.kr_run.specs.Unwinding.{MayAwait, PassesBy}
use Rattle.kr_run.specs.declared.unwinding.Passing.{Passing}
use Rattle.kr_run.proofs.unwinding.past.Goals as goal

pub returns-in-Stop : goal.returns-in-Stop
returns-in-Stop c = subst (λ (p : Passing). MatchOption c.stop_behind.result (MayAwait c.args.code.now c.args.frame.now p) (λ ends. PassesBy c.args.code.now c.args.frame.now p ends)) (sym c.in-Stop.is) c.stop_behind.ensures
