-- Between crates: what is known of an expression at once.
use Rattle.std.specs.Prelude.{◌≡◌, ℕ, Ok}
use Rattle.kr_value.specs.declared.value.Value.{Value}
use Rattle.kr_mean.specs.Steps.{State, Run}
use Rattle.kr_code.specs.declared.code.Code.{Code}
use Rattle.kr_code.specs.Doing.{Doing, IsMeaning}
use Rattle.kr_run_state.specs.declared.world.World.{World}
use Rattle.kr_run_state.specs.Noting.{noting}
use Rattle.kr_run_state.specs.Worlds.{Others, Allows, Keeps, state_at}
use Rattle.kr_run_known.specs.declared.known.Known.{Known}

-- a world's state with so much fuel
abbrev pub fuelled : World → ℕ → Others → State
fuelled w n x = record (state_at w x) { fuel = n }

-- A step gives this value and changes nothing, and it reads nothing that wasn't read before: with all candidates that the world
-- allows, and from any fuel.
abbrev pub Shows : World → Value → Run Value → Type 0
Shows w v m = (x : Others) → Allows w x → (n : ℕ) → noting w.reads (m (fuelled w n x)) ≡ record { said = Ok v; after = fuelled w n x; reads = w.reads }

-- A run from so much fuel gives a value and leaves other fuel, in every meaning of the code.
abbrev pub Knows : Code → World → ℕ → Known → (Doing → Run Value) → Type 0
Knows code w n k m = (x : Others) → Allows w x → (d : Doing) → IsMeaning code d → noting w.reads (m d (fuelled w n x)) ≡ record { said = Ok k.value; after = fuelled w k.fuel x; reads = w.reads }

-- A run has given a value, in every meaning of the code: with all candidates that what was read until then allows.
abbrev pub HasGiven : Code → Value → World → World → (Doing → Run Value) → Type 0
HasGiven code v w before m = (x : Others) → Allows w x → Keeps before w x × ((d : Doing) → IsMeaning code d → noting before.reads (m d (state_at before x)) ≡ record { said = Ok v; after = state_at w x; reads = w.reads })
