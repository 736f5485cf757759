use Rattle.kr_base.specs.declared.span.Bound.TheVariants.{At}
use Rattle.kr_trace.proofs.Opened.{opened}
use Rattle.kr_trace.proofs.nodes.nodes_at.Goals as goal

pub returns : goal.returns
returns c =
    opened c.loop-cut.number c.loop-cut.cut-index (At c.loop-cut.begin.now) c.args.end.now c.in_ok-try_clone-2.field-0 c.args.cuts.now c.loop-cut.nodes.items c.push-2.new.self.items _ c.in_ok-untouched-2.field-0 c.loop-cut-test.false c.loop-cut.invariant.0 c.loop-cut.invariant.1 c.in_ok-try_clone-2.ensures c.in_ok-untouched-2.ensures c.in_ok-push-2.ensures.items
