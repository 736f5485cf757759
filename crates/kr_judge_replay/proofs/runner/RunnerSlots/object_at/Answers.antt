use Rattle.std.proofs.Common.{◌<◌, subst, sym}
use Rattle.kr_mean.specs.Space.{space_of}
use Rattle.kr_space_problem.specs.Posed.{posed}
use Rattle.kr_judge_prepared.proofs.Laid.{slot_in, index_in, object_is}
use Rattle.kr_judge_replay.specs.Seen.{Seen}
use Rattle.kr_judge_replay.proofs.runner.RunnerSlots.object_at.Goals as goal

pub object-requires-clause-slot : goal.object-requires-clause-slot
object-requires-clause-slot c = slot_in (posed c.self.inside.prepared.now.problem) c.self.inside.layout.now c.self.invariant.5.laid c.args.slot (subst (λ (s : Seen). c.args.slot < (space_of (posed s.problem)).slots) (sym c.self.view_is) c.requires.slot)

pub object-requires-clause-index : goal.object-requires-clause-index
object-requires-clause-index c = index_in (posed c.self.inside.prepared.now.problem) c.self.inside.layout.now c.self.invariant.5.laid c.args.slot c.args.index (subst (λ (s : Seen). c.args.index < (space_of (posed s.problem)).size c.args.slot) (sym c.self.view_is) c.requires.index)

pub returns : goal.returns
returns c = rw (← c.self.view_is) (object_is (posed c.self.inside.prepared.now.problem) c.self.inside.layout.now c.self.invariant.5.laid c.args.slot c.args.index c.object.result c.object.ensures)
