-- To be believed: how far a worker came with a lease.
use Rattle.kr_pool_workers.specs.declared.working.Course.{Course}
use Rattle.kr_pool_workers.specs.declared.working.Course.TheVariants.{Done, Held, Leave, Refused}

-- where the lease's segment is done
abbrev pub IfDone : Course → Type 0 → Type 0
IfDone Done P = P
IfDone Held P = Unit {0}
IfDone Leave P = Unit {0}
IfDone (Refused why) P = Unit {0}
