use Rattle.std.proofs.Common.{refl}
use Rattle.kr_report_streaming.specs.Followed.{followed_by}
use Rattle.kr_report_streaming.specs.Lines.{entries_answer}
use Rattle.kr_report_streaming.specs.Traces.{trace_text}
use Rattle.kr_report_streaming.proofs.Closed.{ended_put, halted, halted_put}
use Rattle.kr_report_streaming.proofs.Endings.{ends_broken}
use Rattle.kr_report_streaming.proofs.writer.LineWriter.close.Goals as goal

pub returns-in-Err-clause-ends : goal.returns-in-Err-clause-ends
returns-in-Err-clause-ends g c = λ a from es h.
    let answer = entries_answer c.args.mode.now a.limit es in
    ends_broken answer (followed_by (trace_text c.args.log.now) answer) c.put_halt.result refl
    (c.put_halt.ensures.ends answer from (halted_put g.K.Sink.taken g.K.Sink.faults c.args.mode.now es a c.args.self from c.args.out.now c.args.put c.in-Err.halt c.in-Err.is h))

pub returns-in-Err-clause-halted : goal.returns-in-Err-clause-halted
returns-in-Err-clause-halted g c = rw c.in-Err.is (λ a from es h.
    c.put_halt.ensures.ends (entries_answer c.args.mode.now a.limit es) from (halted g.K.Sink.taken g.K.Sink.faults c.args.mode.now es a c.args.self from c.args.out.now c.in-Err.halt h))

pub returns-in-Ok-clause-ends : goal.returns-in-Ok-clause-ends
returns-in-Ok-clause-ends g c = λ a from es h.
    ended_put g.K.Sink.taken g.K.Sink.faults c.args.mode.now es a c.args.self from c.args.out.now (trace_text c.args.log.now) c.args.put c.in-Ok.end c.closing-closing.result c.put_closing.new.out c.once_written.result c.put_closing.result
    c.in-Ok.is h c.closing-closing.ensures c.put_closing.ensures c.once_written.ensures
