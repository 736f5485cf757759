use Rattle.std.proofs.Common.{◌∙◌}
use Rattle.kr_parse_trees.proofs.Heads.{both, lower_fits}
use Rattle.kr_parse_trees.proofs.builder.Builder.put_both.Goals as goal

pub put-requires-clause-fits : goal.put-requires-clause-fits
put-requires-clause-fits c =
    lower_fits c.args.make c.args.self.now.forest c.args.self.now.values c.lower-lower_node.result c.requires.name c.requires.values c.requires.two c.requires.built c.lower-lower_node.ensures

pub put-requires-2-clause-fits : goal.put-requires-2-clause-fits
put-requires-2-clause-fits c =
    let o = c.in_ok-put.ensures in
    (both c.args.make c.args.self.now.forest c.put.new.self.forest c.args.self.now.values c.put.new.self.values c.lower-lower_node.result c.upper-upper_node.result o.kept.0
    c.requires.name c.requires.values c.requires.two c.requires.built c.lower-lower_node.ensures o.built o.kept.1 o.shown c.upper-upper_node.ensures).0

pub returns-clause-shown : goal.returns-clause-shown
returns-clause-shown c =
    let o = c.in_ok-put.ensures in
    c.in_ok-put-2.ensures.shown
    ∙ (both c.args.make c.args.self.now.forest c.put.new.self.forest c.args.self.now.values c.put.new.self.values c.lower-lower_node.result c.upper-upper_node.result o.kept.0
    c.requires.name c.requires.values c.requires.two c.requires.built c.lower-lower_node.ensures o.built o.kept.1 o.shown c.upper-upper_node.ensures).1
