use Rattle.std.proofs.Common.{◌∙◌}
use Rattle.kr_space_names.proofs.Walked.{shrunk, walked_on}
use Rattle.kr_space_names.proofs.walk.nodes_of.Goals as goal

pub loop-node-smaller : goal.loop-node-smaller
loop-node-smaller c =
    shrunk c.args.tree.now c.loop-node.left.items c.add_reversed.new.left.items c.pop.new.self.items c.as_slice.result.now _ c.in-Some.node
    c.entry-entry.ensures.parts c.in-Some.ensures.items (c.as_slice.ensures.all ∙ c.parts-parts.ensures) c.as_slice.ensures.few c.in_ok-add_reversed.ensures

pub loop-node-preserved : goal.loop-node-preserved
loop-node-preserved c =
    walked_on c.args.tree.now c.loop-node.found.items c.add_own.new.found.items c.loop-node.left.items c.add_reversed.new.left.items c.pop.new.self.items c.as_slice.result.now c.in-Some.node c.entry-entry.result
    c.entry-entry.ensures.parts c.entry-entry.ensures.tree c.in-Some.ensures.items (c.as_slice.ensures.all ∙ c.parts-parts.ensures) c.in_ok-add_own.ensures c.in_ok-add_reversed.ensures c.loop-node.invariant
