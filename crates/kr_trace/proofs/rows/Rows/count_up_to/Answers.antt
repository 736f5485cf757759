use Rattle.std.proofs.Common.{◌+◌, ◌-◌, ◌/◌, ◌∙◌, arith, sym}
use Rattle.kr_trace.proofs.Searches.{to_the_left, to_the_right}
use Rattle.kr_trace.proofs.rows.Rows.count_up_to.Goals as goal

pub loop-low-preserved-then-is_below_key : goal.loop-low-preserved-then-is_below_key
loop-low-preserved-then-is_below_key c =
    let low = c.loop-low.low in
    let high = c.loop-low.high in
    to_the_left c.args.bound.now c.args.self.now.keys low high (low + (high - low) / 2) c.key.result.now c.requires c.loop-low.invariant (omega arith) (omega (arith, c.loop-low-test.true))
    c.key.ensures (sym c.is_below_key.ensures ∙ c.if-is_below_key.true)

pub loop-low-preserved : goal.loop-low-preserved
loop-low-preserved c =
    let low = c.loop-low.low in
    let high = c.loop-low.high in
    to_the_right c.args.bound.now c.args.self.now.keys low high (low + (high - low) / 2) c.key.result.now c.requires c.loop-low.invariant (omega arith) (omega (arith, c.loop-low-test.true))
    c.key.ensures (sym c.is_below_key.ensures ∙ c.if-is_below_key.false)
