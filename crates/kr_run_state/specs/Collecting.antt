-- Between crates: what a call on the members of a collection answers and leaves.
use Rattle.std.specs.Prelude.{◌≡◌, List, Option, Some, None, Result, Ok, Err}
use Rattle.kr_value.specs.declared.value.Value.{Value}
use Rattle.kr_mean.specs.declared.kind.Stop.TheVariants as ends
use Rattle.kr_mean.specs.Collections.{Collected, gives}
use Rattle.kr_run_state.specs.declared.world.Halt.{Halt}
use Rattle.kr_run_state.specs.declared.world.Halt.TheVariants.{Ended, Memory}

-- The call gives a value or traps, and leaves its members; where there is no such call it is stuck, and nothing changes.
abbrev pub Collects : Result Value Halt → List Value → List Value → Option Collected → Type 0
Collects (Ok v) old new c = c ≡ gives v new
Collects (Err (Ended (ends.Trapped k))) old new c = c ≡ Some (record { given = Err k; members = new })
Collects (Err (Ended ends.Stuck)) old new c = (c ≡ None) × (new ≡ old)
Collects (Err (Ended ends.OutOfFuel)) old new c = ⊥
Collects (Err (Memory why)) old new c = Unit {0}
