use Rattle.std.proofs.Common.{◌<◌, subst, sym}
use Rattle.kr_mean.specs.Space.{space_of}
use Rattle.kr_space_problem.specs.Posed.{posed}
use Rattle.kr_judge_prepared.proofs.Laid.{slot_in, size_is}
use Rattle.kr_judge_replay.specs.Seen.{Seen}
use Rattle.kr_judge_replay.proofs.runner.RunnerSlots.size.Goals as goal

pub size-requires : goal.size-requires
size-requires c = slot_in (posed c.self.inside.prepared.now.problem) c.self.inside.layout.now c.self.invariant.5.laid c.args.slot (subst (λ (s : Seen). c.args.slot < (space_of (posed s.problem)).slots) (sym c.self.view_is) c.requires)

pub returns : goal.returns
returns c = rw (← c.self.view_is) (size_is (posed c.self.inside.prepared.now.problem) c.self.inside.layout.now c.self.invariant.5.laid c.args.slot c.size.result c.size.ensures)
