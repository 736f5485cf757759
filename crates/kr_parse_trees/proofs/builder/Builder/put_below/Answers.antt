use Rattle.std.proofs.Common.{Some}
use Rattle.kr_parse_reduction.specs.Kept.{value_at}
use Rattle.kr_parse_trees.proofs.Growing.{put_built, put_free, put_named}
use Rattle.kr_parse_trees.proofs.builder.Builder.put_below.Goals as goal

pub put-requires-clause-free : goal.put-requires-clause-free
put-requires-clause-free c = put_free c.args.self.now.forest c.args.self.now.values c.args.under (Some (value_at c.args.self.now.values c.args.depth)) c.requires.built c.requires.fits

pub put-requires-clause-named : goal.put-requires-clause-named
put-requires-clause-named c = put_named c.args.self.now.forest.text c.args.self.now.values c.args.under (Some (value_at c.args.self.now.values c.args.depth)) c.requires.fits

pub returns-clause-built : goal.returns-clause-built
returns-clause-built c =
    let o = c.in_ok-node.ensures in
    (put_built c.args.self.now.forest c.put.new.self c.args.self.now.values c.tuck.new.self c.args.under (Some (value_at c.args.self.now.values c.args.depth)) c.in_ok-node.node
    c.requires.built c.requires.fits o.at o.count o.text o.trees o.roots c.tuck.ensures).0

pub returns-clause-shown : goal.returns-clause-shown
returns-clause-shown c =
    let o = c.in_ok-node.ensures in
    (put_built c.args.self.now.forest c.put.new.self c.args.self.now.values c.tuck.new.self c.args.under (Some (value_at c.args.self.now.values c.args.depth)) c.in_ok-node.node
    c.requires.built c.requires.fits o.at o.count o.text o.trees o.roots c.tuck.ensures).1

pub returns-clause-kept : goal.returns-clause-kept
returns-clause-kept c = (c.in_ok-node.node, c.tuck.ensures)
