use Rattle.std.proofs.Common.{◌≡◌, sym, false, arith}
use Rattle.kr_classes_table.specs.Table.{is_below}
use Rattle.kr_classes_members.specs.Shown.{table_in}
use Rattle.kr_code_bodies.proofs.Rows.{whole_row}
use Rattle.kr_code_bodies.proofs.Lines.{below_past}
use Rattle.kr_code_bodies.proofs.instances.heirs.Goals as goal

pub returns : goal.returns
returns c = λ files h.
    let count = c.len-count.ensures.all files h in
    whole_row false (λ d b. b ≡ is_below (table_in files) d c.args.class) c.loop-column.column c.loop-column.row.items (c.loop-column.invariant files h)
    (λ d l. sym (below_past (table_in files) d (omega (arith, l, count, c.max-columns.ensures)) c.args.class (λ e. absurd (omega (arith, e, l, c.max-columns.ensures)))))
