use Rattle.kr_types_judging.proofs.throws.caught_rule.Goals as goal

pub returns-clause-within : goal.returns-clause-within
returns-clause-within c = c.fine_if.ensures.within c.args.classes.now.types.now
