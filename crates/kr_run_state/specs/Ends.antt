-- Between crates: the ends of the code's runs, as the meaning has them.
use Rattle.std.specs.Prelude.{◌≡◌, Result, Ok, Err}
use Rattle.kr_base.specs.declared.memory.NoMemory.{NoMemory}
use Rattle.kr_mean.specs.declared.kind.Stop.{Stop}
use Rattle.kr_run_state.specs.declared.world.Halt.{Halt}
use Rattle.kr_run_state.specs.declared.world.Halt.TheVariants.{Ended, Memory}

-- how a run has ended
abbrev pub IsEnd : {A : Type 0} → Result A Halt → Result (Result A Stop) NoMemory → Type 0
IsEnd answer (Err why) = answer ≡ Err (Memory why)
IsEnd answer (Ok (Ok a)) = answer ≡ Ok a
IsEnd answer (Ok (Err e)) = answer ≡ Err (Ended e)
