-- Between crates: what is known at once of where a statement leads.
use Rattle.std.specs.Prelude.{◌≡◌, ℕ, Option, Some, None, Ok}
use Rattle.kr_mean.specs.Steps.{Run, give}
use Rattle.kr_mean.specs.declared.flow.Flow.{Flow}
use Rattle.kr_mean.specs.declared.flow.Flow.TheVariants as flows
use Rattle.kr_code.specs.declared.code.Code.{Code}
use Rattle.kr_code.specs.Doing.{Doing, IsMeaning}
use Rattle.kr_run_state.specs.declared.world.World.{World}
use Rattle.kr_run_state.specs.Noting.{noting}
use Rattle.kr_run_state.specs.Worlds.{Others, Allows}
use Rattle.kr_run_known.specs.Knowing.{fuelled}
use Rattle.kr_run_lookahead.specs.declared.flows.Led.{Led}

-- Where a statement leads from so much fuel is known, in every meaning of the code: it changes nothing but the fuel, and reads
-- nothing that wasn't read before.
abbrev pub KnowsFlow : Code → World → ℕ → Led → (Doing → Run Flow) → Type 0
KnowsFlow code w n l m = (x : Others) → Allows w x → (d : Doing) → IsMeaning code d → noting w.reads (m d (fuelled w n x)) ≡ record { said = Ok l.flow; after = fuelled w l.fuel x; reads = w.reads }

-- the part that runs where a condition doesn't hold: a statement, or nothing
abbrev pub otherwise : Doing → Option ℕ → Run Flow
otherwise d None = give flows.Next
otherwise d (Some a) = d.exec a
