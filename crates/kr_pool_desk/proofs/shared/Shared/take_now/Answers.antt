use Rattle.std.proofs.Common.{rules, inr}
use Rattle.kr_pool_desk.proofs.shared.Shared.take_now.Goals as goal

pub returns-in-Ok-Some-Finished-clause-observed : goal.returns-in-Ok-Some-Finished-clause-observed
returns-in-Ok-Some-Finished-clause-observed g c = inr (c.args.seat.now.calls.amount, inr (search rules))
