use Rattle.std.proofs.Common.{◌+◌, ◌≡◌, ◌≤◌, ap, arith, length, take}
use Rattle.kr_report_streaming.specs.Lines.{failing_lines}
use Rattle.kr_report_streaming.proofs.Lists.{failing_more, front_more, one_most}
use Rattle.kr_report_streaming.proofs.writer.count_failing.Goals as goal

pub overflow_add-count : goal.overflow_add-count
overflow_add-count c = let one : c.from-count.result ≤ 1 = omega (arith, one_most c.row-item.result.failing, c.from-count.ensures) in omega (arith, c.loop-row.invariant.few, c.requires, one, c.loop-row-test.true)

pub loop-row-preserved : goal.loop-row-preserved
loop-row-preserved c =
    let rows = c.args.rows.now in
    let i = c.loop-row.row-index in
    let row = c.row-item.result in
    let one : c.from-count.result ≤ 1 = omega (arith, one_most row.failing, c.from-count.ensures) in
    let front : take (i + 1) rows ≡ _ = front_more rows i row c.loop-row-test.true c.row-item.is in
    let more = failing_more (take i rows) row c.from-count.result c.from-count.ensures in
    record {
      failing = let all = ap (λ ls. length (failing_lines ls)) front in omega (arith, c.loop-row.invariant.failing, all, more);
      few = omega (arith, c.loop-row.invariant.few, one);
    }
