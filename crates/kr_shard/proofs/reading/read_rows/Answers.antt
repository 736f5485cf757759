use Rattle.std.proofs.Common.{◌∙◌, sym, arith}
use Rattle.kr_shard.proofs.Fronts.{at_next, rest_length}
use Rattle.kr_shard.proofs.reading.read_rows.Goals as goal

pub overflow_add-count : goal.overflow_add-count
overflow_add-count c =
    let few = rest_length c.args.span.now c.args.text.now c.loop-line.rest.now c.loop-line.count c.loop-line.last c.loop-line.invariant in
    omega (arith, few)

pub loop-line-preserved : goal.loop-line-preserved
loop-line-preserved c =
    at_next c.args.span.now c.args.text.now c.loop-line.rest.now c.in-Some.line.now c.in-Some.after.now c.loop-line.count c.loop-line.last c.in-Some-2.key
    c.loop-line.invariant c.in-Some.ensures.0 c.in-Some.ensures.1 (sym c.in_ok-key.ensures ∙ c.in-Some-2.is)
