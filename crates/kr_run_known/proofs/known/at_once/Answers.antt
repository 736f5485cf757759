use Rattle.std.proofs.Common.{refl}
use Rattle.kr_run_known.proofs.known.at_once.Goals as goal

pub returns-in-Some : goal.returns-in-Some
returns-in-Some c = λ x a. (record { allowed = a; frozen_before = λ e. e; same = λ e. refl; long = refl }, λ d i. c.in-Some.ensures x a d i)
