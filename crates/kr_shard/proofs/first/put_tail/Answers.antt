use Rattle.std.proofs.Common.{refl}
use Rattle.kr_base.specs.Writing.{stopped_early, writes_exit, writes_then}
use Rattle.kr_shard.specs.Texts.{to_text}
use Rattle.kr_shard.proofs.first.put_tail.Goals as goal

pub returns-in_err-put_all : goal.returns-in_err-put_all
returns-in_err-put_all g c = writes_exit c.from_residual.result c.from_residual.ensures.0 (stopped_early (to_text c.args.upto.now) c.in_err-put_all.ensures refl)

pub returns : goal.returns
returns g c = writes_then c.put_to.new.out (to_text c.args.upto.now) c.put_to.result c.in_ok-put_all.ensures c.put_to.ensures refl
