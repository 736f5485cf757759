use Rattle.kr_types_expressions.proofs.operators.unary_note.Goals as goal

pub returns-in-None-clause-within : goal.returns-in-None-clause-within
returns-in-None-clause-within c = c.plain.ensures.within c.args.types.now

pub returns-in-Some-clause-within : goal.returns-in-Some-clause-within
returns-in-Some-clause-within c = c.conclude.ensures.within c.args.types.now c.unary_rule.ensures.within
