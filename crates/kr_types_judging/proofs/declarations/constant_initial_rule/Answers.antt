use Rattle.kr_types_judging.proofs.declarations.constant_initial_rule.Goals as goal

pub returns-then-not-is_known-clause-within : goal.returns-then-not-is_known-clause-within
returns-then-not-is_known-clause-within c = c.fine.ensures.within c.args.types.now

pub returns-clause-within : goal.returns-clause-within
returns-clause-within c = c.ask.ensures.within c.args.types.now (c.ask-valued.ensures.within c.args.types.now (c.fine_if-kind.ensures.within c.args.types.now))
