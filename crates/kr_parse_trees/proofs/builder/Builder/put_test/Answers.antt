use Rattle.std.proofs.Common.{None, arith}
use Rattle.std.proofs.Math.ListN.{length-set}
use Rattle.kr_parse_trees.proofs.Growing.{put_built, put_free}
use Rattle.kr_parse_trees.proofs.Chains.{pulled, test, pulled_built, pulled_fits, tree_within}
use Rattle.kr_parse_trees.proofs.builder.Builder.put_test.Goals as goal

pub put-requires-clause-free : goal.put-requires-clause-free
put-requires-clause-free c =
    rw (c.node-operand.ensures, c.node-tested.ensures)
    (put_free c.args.self.now.forest (pulled c.args.self.now.values c.args.depth) (test c.args.self.now.values c.args.depth) None
    (pulled_built c.args.self.now.forest c.args.self.now.values c.args.depth c.requires.built c.requires.top c.requires.tree c.requires.apart)
    (pulled_fits c.args.self.now.forest.text c.args.self.now.values c.args.depth))

pub mark-requires : goal.mark-requires
mark-requires c = tree_within c.args.self.now.values c.args.depth c.requires.tree

pub drop_top-requires : goal.drop_top-requires
drop_top-requires c =
    let l = tree_within c.args.self.now.values c.args.depth c.requires.tree in
    rw (c.mark.ensures, length-set) (omega arith)

pub returns-clause-built : goal.returns-clause-built
returns-clause-built c =
    let o = c.in_ok-node.ensures in
    let t = rw (c.place-place.ensures, c.node-operand.ensures, c.node-tested.ensures) at o.trees in
    let r = rw (c.node-operand.ensures, c.node-tested.ensures) at o.roots in
    let e = rw (c.place-place.ensures, c.drop_top.ensures, c.mark.ensures) at c.in_ok-push.ensures.pushed in
    (put_built c.args.self.now.forest c.put.new.self (pulled c.args.self.now.values c.args.depth) c.push.new.self (test c.args.self.now.values c.args.depth) None c.in_ok-node.node
    (pulled_built c.args.self.now.forest c.args.self.now.values c.args.depth c.requires.built c.requires.top c.requires.tree c.requires.apart)
    (pulled_fits c.args.self.now.forest.text c.args.self.now.values c.args.depth) o.at o.count o.text t r e).0

pub returns-clause-shown : goal.returns-clause-shown
returns-clause-shown c =
    let o = c.in_ok-node.ensures in
    let t = rw (c.place-place.ensures, c.node-operand.ensures, c.node-tested.ensures) at o.trees in
    let r = rw (c.node-operand.ensures, c.node-tested.ensures) at o.roots in
    let e = rw (c.place-place.ensures, c.drop_top.ensures, c.mark.ensures) at c.in_ok-push.ensures.pushed in
    (put_built c.args.self.now.forest c.put.new.self (pulled c.args.self.now.values c.args.depth) c.push.new.self (test c.args.self.now.values c.args.depth) None c.in_ok-node.node
    (pulled_built c.args.self.now.forest c.args.self.now.values c.args.depth c.requires.built c.requires.top c.requires.tree c.requires.apart)
    (pulled_fits c.args.self.now.forest.text c.args.self.now.values c.args.depth) o.at o.count o.text t r e).1
