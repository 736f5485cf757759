use Rattle.std.proofs.Common.{subst, sym}
use Rattle.std.specs.List.{All}
use Rattle.kr_judge_replay.specs.Going.{IsHeld}
use Rattle.kr_judge_replay.proofs.checks.Checks.cut.Goals as goal

pub returns-clause-held : goal.returns-clause-held
returns-clause-held c = subst (All (IsHeld c.args.accesses.now c.args.fresh)) (sym c.truncate.ensures) c.holding-count.ensures.held
