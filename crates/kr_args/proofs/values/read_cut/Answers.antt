use Rattle.kr_args.proofs.Numbers.{cut_refused}
use Rattle.kr_args.proofs.values.read_cut.Goals as goal

pub returns-in-Ok : goal.returns-in-Ok
returns-in-Ok c = (c.reading_law.ensures.computed c.args.text.now c.in-Ok.cut).complete c.in-Ok.ensures

pub returns-in-Err-Malformed : goal.returns-in-Err-Malformed
returns-in-Err-Malformed c = λ usage.
    cut_refused c.args.text.now c.in-Err-Malformed.field-0 c.reading_law.ensures.computed c.reading_law.ensures.one c.in-Err-Malformed.ensures (rw c.in-Err-Malformed.field-0-is tt)

pub returns-in-Err-TooLong : goal.returns-in-Err-TooLong
returns-in-Err-TooLong c = λ usage.
    cut_refused c.args.text.now c.in-Err-TooLong.field-0 c.reading_law.ensures.computed c.reading_law.ensures.one c.in-Err-TooLong.ensures (rw c.in-Err-TooLong.field-0-is tt)
