use Rattle.std.proofs.Common.{◌++◌, ap}
use Rattle.kr_base.specs.Writing.{stopped_early, writes_exit, writes_then}
use Rattle.kr_report.specs.Reports.{lines}
use Rattle.kr_shard.specs.Found.{merged_answer}
use Rattle.kr_shard.proofs.Pieces.{rows_are}
use Rattle.kr_shard.proofs.writing.put_merged.Goals as goal

pub returns-in_err-put_rows : goal.returns-in_err-put_rows
returns-in_err-put_rows g c =
    let own = c.args.merged.now in
    writes_exit c.from_residual.result c.from_residual.ensures.0
    (stopped_early (merged_answer own).last c.in_err-put_rows.ensures (ap (λ rows. lines rows ++ (merged_answer own).last) (rows_are own.rows own.tried own.spent)))

pub returns : goal.returns
returns g c =
    let own = c.args.merged.now in
    writes_then c.put_last.new.out (merged_answer own).last c.put_last.result c.in_ok-put_rows.ensures c.put_last.ensures (ap (λ rows. lines rows ++ (merged_answer own).last) (rows_are own.rows own.tried own.spent))
