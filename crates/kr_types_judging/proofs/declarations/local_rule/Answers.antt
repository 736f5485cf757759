use Rattle.kr_types_judging.proofs.declarations.local_rule.Goals as goal

pub returns-clause-within : goal.returns-clause-within
returns-clause-within c = c.ask.ensures.within c.args.types.now (c.fine_if.ensures.within c.args.types.now)
