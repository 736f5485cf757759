use Rattle.std.proofs.Common.{◌++◌, rules, refl}
use Rattle.std.specs.Slice.Iter.{chunks_rest}
use Rattle.kr_base.specs.Writing.{added_then, stopped_then, stopped_early, writes_exit}
use Rattle.kr_report.specs.Reports.{lines}
use Rattle.kr_report_streaming.specs.Lines.{texts}
use Rattle.kr_report_streaming.proofs.Lists.{lines_both, lines_run, run_more}
use Rattle.kr_report_streaming.proofs.putting.put_rows.Goals as goal

pub loop-run-preserved : goal.loop-run-preserved
loop-run-preserved g c =
    let front = c.loop-run.invariant.front in
    let run = c.in-Some.run'.now in
    record {
      next = search rules;
      finite = tt;
      front = front ++ run;
      parts = run_more c.args.rows.now front (chunks_rest c.loop-run.run-iterator) run (chunks_rest c.next.new.self) c.loop-run.invariant.parts c.in-Some.ensures.steps.1.0;
      put = added_then c.loop-run.invariant.put c.in_ok-put_run.ensures (lines_both front run);
    }

pub returns-in_err-put_run : goal.returns-in_err-put_run
returns-in_err-put_run g c =
    let front = c.loop-run.invariant.front in
    let run = c.in-Some.run'.now in
    let left = chunks_rest c.next.new.self in
    let parts = run_more c.args.rows.now front (chunks_rest c.loop-run.run-iterator) run left c.loop-run.invariant.parts c.in-Some.ensures.steps.1.0 in
    writes_exit c.from_residual.result c.from_residual.ensures.0
    (stopped_early (lines (texts left)) (stopped_then c.loop-run.invariant.put c.in_err-put_run.ensures refl) (lines_run c.args.rows.now front run left parts))
