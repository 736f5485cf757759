use Rattle.std.proofs.Common.{◌<◌, subst, sym}
use Rattle.kr_iso.specs.Rows.{IsRow}
use Rattle.kr_mean.specs.Space.{Space, space_of}
use Rattle.kr_space_problem.specs.Posed.{posed}
use Rattle.kr_judge_prepared.proofs.Laid.{slot_in, index_in, space_same}
use Rattle.kr_judge_replay.specs.Seen.{Seen}
use Rattle.kr_judge_replay.proofs.runner.RunnerSlots.row.Goals as goal

pub row-requires-clause-slot : goal.row-requires-clause-slot
row-requires-clause-slot c = slot_in (posed c.self.inside.prepared.now.problem) c.self.inside.layout.now c.self.invariant.5.laid c.args.slot (subst (λ (s : Seen). c.args.slot < (space_of (posed s.problem)).slots) (sym c.self.view_is) c.requires.slot)

pub row-requires-clause-index : goal.row-requires-clause-index
row-requires-clause-index c = index_in (posed c.self.inside.prepared.now.problem) c.self.inside.layout.now c.self.invariant.5.laid c.args.slot c.args.index (subst (λ (s : Seen). c.args.index < (space_of (posed s.problem)).size c.args.slot) (sym c.self.view_is) c.requires.index)

pub returns : goal.returns
returns c = rw (← c.self.view_is) (subst (λ (S : Space). IsRow S c.args.slot c.args.index c.row.result) (sym (space_same (posed c.self.inside.prepared.now.problem) c.self.inside.layout.now c.self.invariant.5.laid)) c.row.ensures)
