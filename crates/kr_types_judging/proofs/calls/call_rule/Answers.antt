use Rattle.kr_types_judging.proofs.calls.call_rule.Goals as goal

pub returns-after-method-clause-within : goal.returns-after-method-clause-within
returns-after-method-clause-within c = c.ask.ensures.within c.args.classes.now.types.now c.arguments_rule.ensures.within
