use Rattle.std.proofs.Common.{◌∙◌, ap, length, sym}
use Rattle.kr_space_layout.specs.Bounds.{bare}
use Rattle.kr_build.proofs.Changed.{vector_long}
use Rattle.kr_judge_replay.proofs.fresh.refresh.Goals as goal

pub copy_from-requires : goal.copy_from-requires
copy_from-requires c = c.requires.long ∙ sym (vector_long (bare c.args.layout.now) c.args.vector.now c.requires.vector)

pub returns-in_err-heap-clause-long : goal.returns-in_err-heap-clause-long
returns-in_err-heap-clause-long c = ap length c.copy_from.ensures ∙ (vector_long (bare c.args.layout.now) c.args.vector.now c.requires.vector ∙ sym c.requires.long)

pub returns-clause-long : goal.returns-clause-long
returns-clause-long c = ap length c.copy_from.ensures ∙ (vector_long (bare c.args.layout.now) c.args.vector.now c.requires.vector ∙ sym c.requires.long)
