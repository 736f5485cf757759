use Rattle.kr_types_judging.proofs.declarations.return_rule.Goals as goal

pub returns-in-None-clause-within : goal.returns-in-None-clause-within
returns-in-None-clause-within c = c.fine_if.ensures.within c.args.types.now

pub returns-in-Some-clause-within : goal.returns-in-Some-clause-within
returns-in-Some-clause-within c = c.fine_if-in-Some.ensures.within c.args.types.now
