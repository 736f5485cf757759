use Rattle.kr_types_judging.proofs.writes.written_rule.Goals as goal

pub returns-clause-within : goal.returns-clause-within
returns-clause-within c = c.ask-2.ensures.within c.args.types.now (c.ask.ensures.within c.args.types.now (c.value.ensures.within c.args.types.now c.requires))
