use Rattle.kr_types_expressions.proofs.creations.creation_rule.Goals as goal

pub returns-clause-within : goal.returns-clause-within
returns-clause-within c = c.ask.ensures.within c.args.classes.now.types.now (c.value_if.ensures.within c.args.classes.now.types.now c.requires.created)
