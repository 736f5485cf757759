use Rattle.std.proofs.Common.{◌≡◌, ◌≤◌, ◌+◌, ℕ, arith, length}
use Rattle.std.specs.Prelude.{if◌then◌else◌}
use Rattle.kr_trace.proofs.Keys.{not_passing, passing, rows_more, table_more}
use Rattle.kr_trace.proofs.rows.Rows.with_row.Goals as goal
use Rattle.kr_trace.proofs.rows.Rows.with_row.Goals.{then-passes, else-passes}

pub invariant_of-result : goal.invariant_of-result
invariant_of-result c =
    let own = c.self.inside in
    let end = c.len.result + length c.args.key.now in
    let is : end ≡ length own.numbers.items + length c.args.key.now = omega (arith, c.len.ensures, own.numbers.ok.0) in
    let more : c.if-passes.failing ≤ own.failing + 1 = elim c.if-passes.branch [ then-passes w ↦ omega (arith, w.failing-is) | else-passes w ↦ omega (arith, w.failing-is) ] in
    table_more own.numbers.items c.args.key.now own.ends.items c.extend_from_slice.new.self.items c.push.new.self.items end own.failing c.if-passes.failing c.self.invariant is more
    c.in_ok-extend_from_slice.ensures.items c.in_ok-push.ensures.items

pub returns : goal.returns
returns c =
    let own = c.self.inside in
    let end = c.len.result + length c.args.key.now in
    let is : end ≡ length own.numbers.items + length c.args.key.now = omega (arith, c.len.ensures, own.numbers.ok.0) in
    let failing : c.if-passes.failing ≡ (if c.args.passes then own.failing else own.failing + 1) = elim c.if-passes.branch [
      | then-passes w ↦ passing c.args.passes own.failing c.if-passes.failing w.if-passes.true w.failing-is
      | else-passes w ↦ not_passing c.args.passes own.failing c.if-passes.failing w.if-passes.false w.failing-is
    ] in
    rows_more own.numbers.items c.args.key.now own.ends.items c.extend_from_slice.new.self.items c.push.new.self.items end own.failing c.if-passes.failing c.args.passes c.args.self c.self.invariant.tiles is
    c.in_ok-extend_from_slice.ensures.items c.in_ok-push.ensures.items failing c.self.view_is
