use Rattle.kr_text.proofs.Readings.{cut_read, cut_refused, no_text}
use Rattle.kr_text.proofs.reading.cut_of.Goals as goal

pub returns-in_default : goal.returns-in_default
returns-in_default c = no_text c.args.text.now c.in_default.ensures.cases.0

pub returns-in-Ok-parse : goal.returns-in-Ok-parse
returns-in-Ok-parse c = cut_read c.args.text.now c.in-Ok.text.now c.in-Ok-parse.cut c.in-Ok.ensures.cases.0 c.in-Ok-parse.ensures

pub returns-in-Err-Malformed : goal.returns-in-Err-Malformed
returns-in-Err-Malformed c = cut_refused c.args.text.now c.in-Ok.text.now c.in-Err-Malformed.field-0 c.in-Ok.ensures.cases.0 c.in-Err-Malformed.ensures (rw c.in-Err-Malformed.field-0-is tt)

pub returns-in-Err-TooLong : goal.returns-in-Err-TooLong
returns-in-Err-TooLong c = cut_refused c.args.text.now c.in-Ok.text.now c.in-Err-TooLong.field-0 c.in-Ok.ensures.cases.0 c.in-Err-TooLong.ensures (rw c.in-Err-TooLong.field-0-is tt)
