use Rattle.std.proofs.Common.{refl}
use Rattle.kr_report_streaming.proofs.Written.{row_stopped, row_written}
use Rattle.kr_report_streaming.proofs.writing.LineWriterRowTaker.take_row.Goals as goal

pub returns-in-Err : goal.returns-in-Err
returns-in-Err g c = λ start from done h. row_stopped start.limit done c.args.row.now c.args.self.now h.0 h.1 c.put_all.new.out c.as_slice.result.now c.as_slice.ensures c.if-self.false c.args.self.now.fits c.in-Err.ensures

pub returns-in-Ok : goal.returns-in-Ok
returns-in-Ok g c = λ start from done h.
    row_written start.limit done c.args.row.now c.args.self.now h.0 h.1 _ c.put_all.new.out c.as_slice.result.now c.from.result c.as_slice.ensures c.if-self.false c.args.self.now.fits c.in-Ok.ensures refl refl refl c.from.ensures c.swap.ensures.x_after
