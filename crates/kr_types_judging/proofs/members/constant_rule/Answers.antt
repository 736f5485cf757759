use Rattle.kr_types_judging.proofs.members.constant_rule.Goals as goal

pub returns-in-Some-clause-within : goal.returns-in-Some-clause-within
returns-in-Some-clause-within c = c.ask.ensures.within c.args.classes.now.types.now c.value_of.ensures.within
