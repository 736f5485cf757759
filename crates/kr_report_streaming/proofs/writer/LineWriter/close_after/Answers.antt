use Rattle.std.proofs.Common.{refl}
use Rattle.kr_report_streaming.specs.Followed.{led_by}
use Rattle.kr_report_streaming.specs.Lines.{entries_answer}
use Rattle.kr_report_streaming.proofs.Closed.{halted_put, led_put}
use Rattle.kr_report_streaming.proofs.Endings.{ends_broken}
use Rattle.kr_report_streaming.proofs.writer.LineWriter.close_after.Goals as goal

pub returns-in-Err : goal.returns-in-Err
returns-in-Err g c = λ a from es h.
    let answer = entries_answer c.args.mode.now a.limit es in
    ends_broken answer (led_by c.args.text.now answer) c.put_halt.result refl
    (c.put_halt.ensures.ends answer from (halted_put g.K.Sink.taken g.K.Sink.faults c.args.mode.now es a c.args.self from c.args.out.now c.args.put c.in-Err.halt c.in-Err.is h))

pub returns-in-Ok : goal.returns-in-Ok
returns-in-Ok g c = λ a from es h.
    led_put g.K.Sink.taken g.K.Sink.faults c.args.mode.now es a c.args.self from c.args.out.now c.args.text.now c.args.put c.in-Ok.end c.closing-closing.result c.put_led.new.out c.once_written.result c.put_led.result
    c.in-Ok.is h c.closing-closing.ensures c.put_led.ensures c.once_written.ensures
