use Rattle.kr_types_judging.proofs.calls.result_rule.Goals as goal

pub returns-clause-within : goal.returns-clause-within
returns-clause-within c = c.ask.ensures.within c.args.classes.now.types.now c.value_of.ensures.within
