use Rattle.std.proofs.Common.{◌∙◌}
use Rattle.kr_parse_trees.proofs.Heads.{one_name}
use Rattle.kr_parse_trees.proofs.builder.Builder.build_name.Goals as goal

pub put-requires-clause-fits : goal.put-requires-clause-fits
put-requires-clause-fits c = (one_name c.args.make c.args.self.now.forest c.args.self.now.values c.in-Some.node c.requires.values c.requires.built c.in-Some.ensures).0

pub returns-in_ok-put-in-Some-clause-shown : goal.returns-in_ok-put-in-Some-clause-shown
returns-in_ok-put-in-Some-clause-shown c =
    c.in_ok-put-in-Some.ensures.shown ∙ (one_name c.args.make c.args.self.now.forest c.args.self.now.values c.in-Some.node c.requires.values c.requires.built c.in-Some.ensures).1
