use Rattle.kr_space_problem.specs.Posed.{posed}
use Rattle.kr_judge_prepared.proofs.Laid.{slots_are}
use Rattle.kr_judge_replay.proofs.runner.RunnerSlots.slots.Goals as goal

pub returns : goal.returns
returns c = rw (← c.self.view_is) (slots_are (posed c.self.inside.prepared.now.problem) c.self.inside.layout.now c.self.invariant.5.laid c.slots.result c.slots.ensures)
