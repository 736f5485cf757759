use Rattle.std.proofs.Common.{◌≡◌, ◌-◌, List, ap, arith, length}
use Rattle.kr_report_streaming.specs.declared.row_line.RowLine.{RowLine}
use Rattle.kr_report_streaming.proofs.Written.{piece_fits, piece_past, piece_stopped, piece_written}
use Rattle.kr_report_streaming.proofs.writing.LineWriterTaker.take.Goals as goal

pub returns-in-Err-clause-took : goal.returns-in-Err-clause-took
returns-in-Err-clause-took g c = λ start from done h.
    let own = c.args.self.now in
    piece_stopped start.limit (own.limit - own.valid) done c.args.rows own h.0 h.1 (ap (λ n. n - own.valid) h.0.limit_is) c.put_rows.new.out c.truncate.new.self.items c.into_vec-rows.result.items c.as_slice.result.now
    c.into_vec-rows.ensures c.truncate.ensures.items c.as_slice.ensures.value c.in-Err.ensures

pub returns-then-is_past-clause-took : goal.returns-then-is_past-clause-took
returns-then-is_past-clause-took g c = λ start from done h.
    let own = c.args.self.now in
    let left = ap (λ n. n - own.valid) h.0.limit_is in
    let long : c.len.result ≡ length c.args.rows = omega (arith, c.len.ensures, c.into_vec-rows.result.ok.0, ap (λ (l : List RowLine). length l) c.into_vec-rows.ensures) in
    let k = c.count.ensures in (
      piece_written start.limit (own.limit - own.valid) done c.args.rows own h.0 h.1 left c.count.new.self c.put_rows.new.out c.truncate.new.self.items c.into_vec-rows.result.items c.as_slice.result.now
          c.into_vec-rows.ensures c.truncate.ensures.items c.as_slice.ensures.value c.in-Ok.ensures k.limit k.valid k.failing k.last,
      piece_past start.limit (own.limit - own.valid) done c.args.rows own h.0 h.1 left c.len.result long c.if-is_past.true,
    )

pub returns-else-is_past-clause-took : goal.returns-else-is_past-clause-took
returns-else-is_past-clause-took g c = λ start from done h.
    let own = c.args.self.now in
    let left = ap (λ n. n - own.valid) h.0.limit_is in
    let long : c.len.result ≡ length c.args.rows = omega (arith, c.len.ensures, c.into_vec-rows.result.ok.0, ap (λ (l : List RowLine). length l) c.into_vec-rows.ensures) in
    let k = c.count.ensures in (
      piece_written start.limit (own.limit - own.valid) done c.args.rows own h.0 h.1 left c.count.new.self c.put_rows.new.out c.truncate.new.self.items c.into_vec-rows.result.items c.as_slice.result.now
          c.into_vec-rows.ensures c.truncate.ensures.items c.as_slice.ensures.value c.in-Ok.ensures k.limit k.valid k.failing k.last,
      piece_fits start.limit (own.limit - own.valid) done c.args.rows own h.0 h.1 left c.len.result long c.if-is_past.false,
    )
