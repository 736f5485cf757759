use Rattle.std.proofs.Common.{Option, ◌≡◌, ap, arith, sym}
use Rattle.std.specs.Option.{option_map}
use Rattle.kr_trace.specs.declared.nodes.Node.{Node}
use Rattle.kr_trace.proofs.Numbered.{node_beyond, node_missing, node_read}
use Rattle.kr_trace.proofs.nodes.find.Goals as goal

pub returns-then-number-nodes-clause-none : goal.returns-then-number-nodes-clause-none
returns-then-number-nodes-clause-none c = node_beyond c.args.nodes.now c.args.number (omega (arith, c.if-number-nodes.true))

pub returns-then-node-clause-some : goal.returns-then-node-clause-some
returns-then-node-clause-some c =
    let x = c.index-nodes-number.result in
    ap (option_map (λ (y : Node). y.segment)) (node_read c.args.nodes.now c.args.number x (omega (arith, c.if-number-nodes.false)) c.index-nodes-number.is c.if-node.true)

pub returns-else-node-clause-none : goal.returns-else-node-clause-none
returns-else-node-clause-none c = node_missing c.args.nodes.now c.args.number c.index-nodes-number.result (omega (arith, c.if-number-nodes.false)) c.index-nodes-number.is c.if-node.false
