use Rattle.std.proofs.Common.{refl}
use Rattle.kr_base.specs.Cuts.{cut_text}
use Rattle.kr_base.specs.Writing.{stopped_early, writes_exit, writes_then}
use Rattle.kr_shard.proofs.faults.put_cut.Goals as goal

pub returns-in_err-put_all : goal.returns-in_err-put_all
returns-in_err-put_all g c = writes_exit c.from_residual.result c.from_residual.ensures.0 (stopped_early (cut_text c.args.cut.now) c.in_err-put_all.ensures refl)

pub returns : goal.returns
returns g c = writes_then c.write.new.out (cut_text c.args.cut.now) c.write.result c.in_ok-put_all.ensures c.write.ensures refl
