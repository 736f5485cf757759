use Rattle.std.proofs.Common.{sym, subst}
use Rattle.kr_mean.specs.Space.{Space, IsVector}
use Rattle.kr_judge_prepared.proofs.Laid.{space_same}
use Rattle.kr_space_problem.specs.Posed.{posed}
use Rattle.kr_samples.proofs.vectors.is_vector.Goals as goal

pub returns : goal.returns
returns c = λ e.
    subst (λ (s : Space). IsVector s c.args.vector.now) (sym (space_same (posed c.args.prepared.now.problem) c.layout.result.now c.layout.ensures.laid)) (c.fits.ensures e)
