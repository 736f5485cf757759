-- Between crates: what is answered of one condition: going on from it is going on from the answer, whatever follows.
use Rattle.std.specs.Prelude.{◌≡◌, ℕ, Bool, List, Result, Ok, Err}
use Rattle.kr_value.specs.declared.value.Value.TheVariants.{Bool as Truth}
use Rattle.kr_mean.specs.Places.{SlotPlace}
use Rattle.kr_mean.specs.Steps.{State, Run, ◌>>=◌}
use Rattle.kr_mean.specs.Runs.{where_true}
use Rattle.kr_code.specs.declared.code.Code.{Code}
use Rattle.kr_code.specs.Doing.{Doing, IsMeaning}
use Rattle.kr_run_state.specs.declared.world.World.{World}
use Rattle.kr_run_state.specs.declared.world.Halt.{Halt}
use Rattle.kr_run_state.specs.declared.world.Halt.TheVariants.{Ended, Memory}
use Rattle.kr_run_state.specs.Noting.{noting}
use Rattle.kr_run_state.specs.Worlds.{state_of}

abbrev pub OneAs : Code → Result Bool Halt → World → List SlotPlace → ℕ → State → Type 0
OneAs code (Ok b) w seen i s = (d : Doing) → IsMeaning code d → (m : Run Bool) → noting seen ((d.value i >>= (λ v. where_true v m)) s) ≡ noting w.reads (where_true (Truth b) m (state_of w))
OneAs code (Err (Ended e)) w seen i s = (d : Doing) → IsMeaning code d → (m : Run Bool) → noting seen ((d.value i >>= (λ v. where_true v m)) s) ≡ record { said = Err e; after = state_of w; reads = w.reads }
OneAs code (Err (Memory why)) w seen i s = Unit {0}
