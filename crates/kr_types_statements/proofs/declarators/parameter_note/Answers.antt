use Rattle.kr_types_statements.proofs.declarators.parameter_note.Goals as goal

pub returns-clause-within : goal.returns-clause-within
returns-clause-within c = c.conclude.ensures.within c.args.types.now (c.fine_if-verdict.ensures.within c.args.types.now)
