use Rattle.kr_types_expressions.proofs.creations.array_creation_rule.Goals as goal

pub returns-clause-within : goal.returns-clause-within
returns-clause-within c = c.ask.ensures.within c.number.new.self (c.value_if.ensures.within c.number.new.self c.in_ok-array.ensures.number.within)
