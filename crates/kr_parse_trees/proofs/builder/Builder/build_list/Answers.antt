use Rattle.std.proofs.Common.{◌∙◌}
use Rattle.kr_parse_trees.proofs.Heads.{one_below}
use Rattle.kr_parse_trees.proofs.builder.Builder.build_list.Goals as goal

pub put_below-requires : goal.put_below-requires
put_below-requires c =
    let o = (one_below c.args.make c.args.self.now.forest c.args.self.now.values c.below-list.result c.staying-depth.result c.requires.list c.requires.values c.requires.built c.below-list.ensures c.staying-depth.ensures) in
    record { built = c.requires.built; room = o.0; above = o.1; fits = o.2 }

pub returns-clause-shown : goal.returns-clause-shown
returns-clause-shown c =
    c.in_ok-put_below.ensures.shown
    ∙ (one_below c.args.make c.args.self.now.forest c.args.self.now.values c.below-list.result c.staying-depth.result c.requires.list c.requires.values c.requires.built c.below-list.ensures c.staying-depth.ensures).3
