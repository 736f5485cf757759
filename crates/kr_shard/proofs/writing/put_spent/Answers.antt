use Rattle.std.proofs.Common.{refl}
use Rattle.std.specs.Prelude.{codes}
use Rattle.kr_base.specs.Writing.{stopped_early, writes_exit, writes_then}
use Rattle.kr_shard.proofs.writing.put_spent.Goals as goal

pub returns-in_err-put_cut : goal.returns-in_err-put_cut
returns-in_err-put_cut g c = writes_exit c.from_residual.result c.from_residual.ensures.0 (stopped_early (codes "\n") c.in_err-put_cut.ensures refl)

pub returns : goal.returns
returns g c = writes_then c.put_all.new.out (codes "\n") c.put_all.result c.in_ok-put_cut.ensures c.put_all.ensures refl
