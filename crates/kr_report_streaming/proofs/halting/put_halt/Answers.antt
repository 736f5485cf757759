use Rattle.kr_report_streaming.proofs.Endings.{halted_memory, halted_sink}
use Rattle.kr_report_streaming.proofs.halting.put_halt.Goals as goal

pub returns-in-Sink-clause-ends : goal.returns-in-Sink-clause-ends
returns-in-Sink-clause-ends g c = λ answer from h. halted_sink g.K.Sink.taken g.K.Sink.faults from c.args.out.now answer c.args.halt c.in-Sink.is h

pub returns-in-Memory-clause-ends : goal.returns-in-Memory-clause-ends
returns-in-Memory-clause-ends g c = λ answer from h.
    halted_memory g.K.Sink.taken g.K.Sink.faults from c.args.out.now answer c.put_out_of_memory.new.out c.args.halt c.in-Memory.field-0 c.once_written.result c.put_out_of_memory.result c.in-Memory.is h c.put_out_of_memory.ensures c.once_written.ensures
