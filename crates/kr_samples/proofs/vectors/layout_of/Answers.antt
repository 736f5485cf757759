use Rattle.std.proofs.Common.{◌<◌, ◌^◌, length, subst}
use Rattle.kr_judge_prepared.proofs.Laid.{well_formed}
use Rattle.kr_mean.specs.Problem.{Problem, slots}
use Rattle.kr_space_problem.specs.Posed.{posed}
use Rattle.kr_samples.proofs.vectors.layout_of.Goals as goal

pub returns-clause-well : goal.returns-clause-well
returns-clause-well c = well_formed (posed c.args.prepared.now.problem) c.layout.result.now c.layout.ensures.laid c.laws.ensures.well

pub returns-clause-small : goal.returns-clause-small
returns-clause-small c = subst (λ (p : Problem). length (slots p) < 2 ^ 31) c.layout.ensures.laid c.laws.ensures.small
