use Rattle.kr_samples.proofs.reading.finitized.Goals as goal

pub spaced-requires-clause-limits : goal.spaced-requires-clause-limits
spaced-requires-clause-limits c = c.limits_law.ensures c.as_bytes.result.now c.in-Ok.document c.in-Ok.ensures.read
