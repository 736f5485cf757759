use Rattle.kr_pool_workers.proofs.leading.Leading.step.Goals as goal

pub new-requires-clause-short : goal.new-requires-clause-short
new-requires-clause-short g c = (c.in-Some-Go.ensures.lease c.in-Some-Go.lease c.in-Some-Go.field-0-is).short
