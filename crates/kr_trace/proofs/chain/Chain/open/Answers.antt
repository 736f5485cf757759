use Rattle.kr_base.specs.declared.span.Bound.TheVariants.{At}
use Rattle.kr_trace.proofs.Opened.{chain_begins}
use Rattle.kr_trace.proofs.chain.Chain.open.Goals as goal

pub invariant_of-result : goal.invariant_of-result
invariant_of-result c = (chain_begins c.in_ok-nodes.nodes.items (At c.args.after.now) c.args.cuts.now c.args.end.now c.in_ok-nodes.ensures).holds

pub returns : goal.returns
returns c =
    let begins = chain_begins c.in_ok-nodes.nodes.items (At c.args.after.now) c.args.cuts.now c.args.end.now c.in_ok-nodes.ensures in
    (begins.segments, begins.made_is)
