use Rattle.std.proofs.Common.{◌∙◌}
use Rattle.kr_parse_trees.proofs.Moved.{one_move}
use Rattle.kr_parse_trees.proofs.builder.Builder.build_values.Goals as goal

pub put_again-requires-clause-fits : goal.put_again-requires-clause-fits
put_again-requires-clause-fits c =
    (one_move c.args.make c.args.self.now.forest c.args.self.now.values c.move_of-change.result c.requires.again c.requires.values c.requires.built c.move_of-change.ensures).0

pub returns-clause-shown : goal.returns-clause-shown
returns-clause-shown c =
    c.in_ok-put_again.ensures.shown
    ∙ (one_move c.args.make c.args.self.now.forest c.args.self.now.values c.move_of-change.result c.requires.again c.requires.values c.requires.built c.move_of-change.ensures).1
