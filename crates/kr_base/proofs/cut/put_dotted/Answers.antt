use Rattle.std.proofs.Common.{refl, decimal}
use Rattle.kr_base.specs.Writing.{stopped_early, writes_then, writes_exit}
use Rattle.kr_base.proofs.cut.put_dotted.Goals as goal

pub returns-in_err-put_all : goal.returns-in_err-put_all
returns-in_err-put_all g c =
    writes_exit c.from_residual.result c.from_residual.ensures.0
    (stopped_early (decimal c.args.number) c.in_err-put_all.ensures refl)

pub returns : goal.returns
returns g c = writes_then c.put_number.new.out (decimal c.args.number) c.put_number.result c.in_ok-put_all.ensures c.put_number.ensures refl
