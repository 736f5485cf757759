use Rattle.std.proofs.Common.{refl}
use Rattle.kr_base.specs.Writing.{stopped_early, writes_exit, writes_then}
use Rattle.kr_shard.specs.Texts.{from_text}
use Rattle.kr_shard.proofs.first.put_head.Goals as goal

pub returns-in_err-put_all : goal.returns-in_err-put_all
returns-in_err-put_all g c = writes_exit c.from_residual.result c.from_residual.ensures.0 (stopped_early (from_text c.args.after.now) c.in_err-put_all.ensures refl)

pub returns : goal.returns
returns g c = writes_then c.put_from.new.out (from_text c.args.after.now) c.put_from.result c.in_ok-put_all.ensures c.put_from.ensures refl
