-- Between crates: ends of runs.
use Rattle.std.specs.Prelude.{◌≡◌, ℕ, Bool, true, false, List, [], Result, Ok, Err}
use Rattle.kr_mean.specs.declared.kind.Stop.{Stop}
use Rattle.kr_mean.specs.declared.kind.Stop.TheVariants.{Trapped, OutOfFuel, Stuck}
use Rattle.kr_mean.specs.Problem.{Problem}
use Rattle.kr_mean.specs.Runs as runs
use Rattle.kr_mean.specs.Runs.{end_on, outcome_of}
use Rattle.kr_run_state.specs.Noting.{noted_once}
use Rattle.kr_judge.specs.declared.run.Ran.{Ran}

-- the end that this answer means; a stuck run doesn't accept
abbrev pub end_said : Result Bool Stop → runs.End
end_said (Ok true) = runs.True
end_said (Ok false) = runs.False
end_said (Err (Trapped kind)) = runs.Trap kind
end_said (Err OutOfFuel) = runs.Spent
end_said (Err Stuck) = runs.False

-- the run's end, and the places that it has read, each where it is read first
pub record IsRunOf (problem : Problem) (vector : List ℕ) (run : Ran) : Type 0 where
  pub ends : end_said run.end ≡ end_on problem vector
  pub reads : run.reads ≡ noted_once [] (outcome_of problem vector).reads
