use Rattle.kr_types_expressions.proofs.calls.object_call_verdict.Goals as goal

pub returns-in-None-clause-within : goal.returns-in-None-clause-within
returns-in-None-clause-within c = c.fine.ensures.within c.args.classes.now.types.now

pub returns-in-None-arguments-clause-within : goal.returns-in-None-arguments-clause-within
returns-in-None-arguments-clause-within c = c.fine-in-None-arguments.ensures.within c.args.classes.now.types.now
