use Rattle.kr_types_judging.proofs.members.field_name_rule.Goals as goal

pub returns-clause-within : goal.returns-clause-within
returns-clause-within c = c.ask.ensures.within c.args.classes.now.types.now c.variable_of.ensures.within
