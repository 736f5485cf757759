use Rattle.kr_emit.specs.Writers.{entries_numbered}
use Rattle.kr_emit.proofs.Numbered.{hands_lines}
use Rattle.kr_emit.proofs.writer.BuilderWriter.close.Goals as goal

pub returns : goal.returns
returns g c = λ a from es h. c.close_after.ensures a.lines from (entries_numbered 0 es) (hands_lines g.K.Sink.taken g.K.Sink.faults es a c.args.self from c.args.out.now c.args.put h)
