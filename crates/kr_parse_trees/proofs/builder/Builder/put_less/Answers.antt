use Rattle.kr_parse_trees.proofs.Chains.{named_at, less_fits}
use Rattle.kr_parse_trees.proofs.builder.Builder.put_less.Goals as goal

pub put_operand-requires-clause-named : goal.put_operand-requires-clause-named
put_operand-requires-clause-named c = rw c.value-value.ensures (named_at c.args.self.now.forest.text c.args.self.now.values c.args.depth c.requires.built.named)

pub put-requires-clause-fits : goal.put-requires-clause-fits
put-requires-clause-fits c =
    let o = c.in_ok-put_operand.ensures in
    rw (c.tree.ensures, c.place-place.ensures, c.node.ensures, c.node-2.ensures)
    (less_fits c.put_operand.new.self.forest.text c.args.self.now.values c.put_operand.new.self.values _ o.kept.0 c.requires.top o.kept.1)
