use Rattle.kr_types_statements.proofs.classes.class_verdict.Goals as goal

pub returns-clause-within : goal.returns-clause-within
returns-clause-within c = c.fine.ensures.within c.args.classes.now.types.now
