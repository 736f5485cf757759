use Rattle.std.proofs.Common.{ap, rules}
use Rattle.std.specs.Prelude.{ℕ, nat_eq}
use Rattle.kr_run_known.proofs.Told.{asked_empty, asked_size}
use Rattle.kr_run_known.proofs.places.asked_of.Goals as goal

pub returns-in-IsEmpty : goal.returns-in-IsEmpty
returns-in-IsEmpty c = rw c.in-IsEmpty.is (asked_empty c.args.world.now c.args.object c.args.number _ c.requires.made c.requires.collection (ap (λ (n : ℕ). nat_eq n 0) c.size_of.ensures.is))

pub returns-in-Size : goal.returns-in-Size
returns-in-Size c = rw c.in-Size.is (asked_size c.args.world.now c.args.object c.args.number c.size_value.result c.requires.made c.requires.collection (search rules))
