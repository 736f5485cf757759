use Rattle.kr_report_streaming.specs.Tallies.{count_answer}
use Rattle.std.proofs.Common.{refl}
use Rattle.kr_report_streaming.proofs.Counted.{ended_put, halted_put}
use Rattle.kr_report_streaming.proofs.Endings.{ends_broken}
use Rattle.kr_report_streaming.proofs.counter.Counter.close.Goals as goal

pub returns-in-Err-clause-ends : goal.returns-in-Err-clause-ends
returns-in-Err-clause-ends g c = λ a from es h.
    let answer = count_answer c.args.nodes es in
    ends_broken answer answer c.put_halt.result refl (c.put_halt.ensures.ends answer from (halted_put g.K.Sink.taken g.K.Sink.faults c.args.nodes es a c.args.self from c.args.out.now c.args.put c.in-Err.halt c.in-Err.is h))

pub returns-in-Ok-clause-ends : goal.returns-in-Ok-clause-ends
returns-in-Ok-clause-ends g c = λ a from es h.
    ended_put g.K.Sink.taken g.K.Sink.faults c.args.nodes es a c.args.self from c.args.out.now c.args.put c.in-Ok.end c.summary-summary.result c.status.result c.summary_text.new.out c.once_written.result c.summary_text.result
    c.in-Ok.is h c.summary-summary.ensures c.status.ensures c.summary_text.ensures c.once_written.ensures
