use Rattle.kr_types_statements.proofs.classes.constructor_verdict.Goals as goal

pub returns-in-None-clause-within : goal.returns-in-None-clause-within
returns-in-None-clause-within c = c.fine.ensures.within c.args.classes.now.types.now
