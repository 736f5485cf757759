-- Between crates: what is answered of conditions.
use Rattle.std.specs.Prelude.{◌≡◌, ℕ, Bool, true, List, [], ◌∷◌, Result, Ok, Err}
use Rattle.kr_mean.specs.Places.{SlotPlace}
use Rattle.kr_mean.specs.Steps.{Outcome, Run, give, ◌>>=◌}
use Rattle.kr_mean.specs.Runs.{where_true}
use Rattle.kr_code.specs.declared.code.Code.{Code}
use Rattle.kr_code.specs.Doing.{Doing, IsMeaning}
use Rattle.kr_run_state.specs.declared.world.World.{World}
use Rattle.kr_run_state.specs.declared.world.Halt.{Halt}
use Rattle.kr_run_state.specs.declared.world.Halt.TheVariants.{Ended, Memory}
use Rattle.kr_run_state.specs.Noting.{noting}
use Rattle.kr_run_state.specs.Worlds.{state_of}

-- whether the conditions at some nodes hold, each looked at only where those before it do
abbrev pub hold_at : Doing → List ℕ → Run Bool
hold_at d [] = give true
hold_at d (i ∷ is) = d.value i >>= (λ v. where_true v (hold_at d is))

-- the answer is the outcome's, with what was read before it and in it, each place once; on out-of-memory nothing is known
abbrev pub MeansAs : Result Bool Halt → World → List SlotPlace → Outcome Bool → Type 0
MeansAs (Ok b) w seen o = noting seen o ≡ record { said = Ok b; after = state_of w; reads = w.reads }
MeansAs (Err (Ended e)) w seen o = noting seen o ≡ record { said = Err e; after = state_of w; reads = w.reads }
MeansAs (Err (Memory why)) w seen o = Unit {0}

-- in every meaning of the code
abbrev pub HoldsAs : Code → Result Bool Halt → World → List SlotPlace → (Doing → Outcome Bool) → Type 0
HoldsAs code r w seen o = (d : Doing) → IsMeaning code d → MeansAs r w seen (o d)
