use Rattle.kr_parse_trees.proofs.Growing.{move_built, moved_none, moved_some}
use Rattle.kr_parse_trees.proofs.builder.Builder.put_again.Goals as goal

pub returns-in_ok-push-in-None-clause-built : goal.returns-in_ok-push-in-None-clause-built
returns-in_ok-push-in-None-clause-built c =
    move_built c.args.self.now.forest c.args.self.now.values c.push.new.self c.args.change c.requires.built c.requires.fits
    (moved_none c.args.change c.args.self.now.values c.push.new.self c.drop_top.new.self c.in-None.is c.drop_top.ensures c.in_ok-push-in-None.ensures.pushed)

pub returns-in_ok-push-in-Some-2-clause-built : goal.returns-in_ok-push-in-Some-2-clause-built
returns-in_ok-push-in-Some-2-clause-built c =
    move_built c.args.self.now.forest c.args.self.now.values c.push-in-Some-2.new.self c.args.change c.requires.built c.requires.fits
    (moved_some c.args.change c.in-Some.below c.args.self.now.values c.push-in-Some-2.new.self c.push-in-Some.new.self c.drop_top.new.self c.in-Some.is c.drop_top.ensures c.in_ok-push-in-Some.ensures.pushed c.in_ok-push-in-Some-2.ensures.pushed)
