use Rattle.std.proofs.Common.{None}
use Rattle.kr_parse_trees.proofs.Growing.{put_built, put_free, put_named, stacked_none}
use Rattle.kr_parse_trees.proofs.builder.Builder.put.Goals as goal

pub put-requires-clause-free : goal.put-requires-clause-free
put-requires-clause-free c = put_free c.args.self.now.forest c.args.self.now.values c.args.plan None c.requires.built c.requires.fits

pub put-requires-clause-named : goal.put-requires-clause-named
put-requires-clause-named c = put_named c.args.self.now.forest.text c.args.self.now.values c.args.plan None c.requires.fits

pub returns-clause-built : goal.returns-clause-built
returns-clause-built c =
    let e = stacked_none c.args.plan c.in_ok-node.node c.args.self.now.values c.push.new.self c.drop_top.new.self c.drop_top.ensures c.in_ok-push.ensures.pushed in
    let o = c.in_ok-node.ensures in
    (put_built c.args.self.now.forest c.put.new.self c.args.self.now.values c.push.new.self c.args.plan None c.in_ok-node.node c.requires.built c.requires.fits o.at o.count o.text o.trees o.roots e).0

pub returns-clause-shown : goal.returns-clause-shown
returns-clause-shown c =
    let e = stacked_none c.args.plan c.in_ok-node.node c.args.self.now.values c.push.new.self c.drop_top.new.self c.drop_top.ensures c.in_ok-push.ensures.pushed in
    let o = c.in_ok-node.ensures in
    (put_built c.args.self.now.forest c.put.new.self c.args.self.now.values c.push.new.self c.args.plan None c.in_ok-node.node c.requires.built c.requires.fits o.at o.count o.text o.trees o.roots e).1

pub returns-clause-kept : goal.returns-clause-kept
returns-clause-kept c = (c.in_ok-node.node, stacked_none c.args.plan c.in_ok-node.node c.args.self.now.values c.push.new.self c.drop_top.new.self c.drop_top.ensures c.in_ok-push.ensures.pushed)
