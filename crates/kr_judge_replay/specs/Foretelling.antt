-- Between crates: what is known of a run before it goes on from the last checkpoint.
use Rattle.std.specs.Prelude.{◌≡◌, ◌⊎◌, ℕ, Bool, List, [], Result, Ok, take}
use Rattle.std.specs.List.{All}
use Rattle.kr_value.specs.declared.value.Value.{Value}
use Rattle.kr_mean.specs.declared.kind.Stop.{Stop}
use Rattle.kr_mean.specs.Places.{SlotPlace}
use Rattle.kr_mean.specs.Runs.{end_of, where_true}
use Rattle.kr_mean.specs.Steps.{State, give}
use Rattle.kr_code.specs.declared.code.Code.{Code}
use Rattle.kr_code.specs.Doing.{Doing, IsMeaning}
use Rattle.kr_space_layout.specs.Bounds.{Bounds}
use Rattle.kr_run_state.specs.declared.world.World.{World}
use Rattle.kr_run_state.specs.Noting.{noting}
use Rattle.kr_run_state.specs.Worlds.{state_of}
use Rattle.kr_run_frames.specs.declared.task.Task.TheVariants as tasks
use Rattle.kr_run_frames.specs.Frames.{resumed}
use Rattle.kr_run_lookahead.specs.Ahead.{Grows, IsTold}
use Rattle.kr_judge.specs.Judged.{hold_at}
use Rattle.kr_judge.specs.Runs.{end_said}
use Rattle.kr_judge.specs.declared.predicate.Predicate.{Predicate}
use Rattle.kr_judge_replay.specs.declared.check.Check.{Check}
use Rattle.kr_judge_replay.specs.declared.check.Foreseen.{Foreseen}
use Rattle.kr_judge_replay.specs.declared.going.Went.{Went}
use Rattle.kr_judge_replay.specs.Ascending.{HadRead}
use Rattle.kr_judge_replay.specs.Going.{IsLastOf}
use Rattle.kr_judge_replay.specs.Kept.{behind, whole, woken}

-- The run that goes on from a checkpoint, with the places that were read there, gives a value, and has read these places then.
abbrev pub Gives : Code → Check → World → World → Value → Type 0
Gives code c before after v = (d : Doing) → IsMeaning code d → IsTold v after.reads (noting (take c.count before.reads) (resumed code d c.stack (tasks.Act c.action) (state_of (woken c.world before.candidates))))

pub record IsForeseen (code : Code) (c : Check) (before after : World) (f : Foreseen) : Type 0 where
  pub condition_is : f.condition ≡ c.condition
  pub count_is : f.count ≡ c.count
  pub gives : Gives code c before after f.value

-- Places after those that were read at the last checkpoint.
pub record ReadFrom (checks : List Check) (before after : List SlotPlace) : Type 0 where
  pub check : Check
  pub last : IsLastOf check checks
  pub most : All (HadRead check.count) checks
  pub grows : Grows (take check.count before) after

-- places that were read at checkpoints stay
abbrev pub ReadOn : List Check → List SlotPlace → List SlotPlace → Type 0
ReadOn checks before after = (checks ≡ []) ⊎ ReadFrom checks before after

-- Where the value of a condition alone decides how the run ends.
pub record Decides (p : Predicate) (condition : ℕ) (v : Value) (end : Result Bool Stop) : Type 0 where
  pub truth : Bool
  pub ends : end_said end ≡ end_of (Ok truth)
  pub is : (d : Doing) (s : State) → where_true v (hold_at d (behind p condition)) s ≡ give truth s

-- The run that goes on from the last checkpoint ends so.
pub record IsForetold (p : Predicate) (checks : List Check) (before after : World) (went : Went) : Type 0 where
  pub check : Check
  pub last : IsLastOf check checks
  pub count_is : went.shared ≡ check.count
  pub value : Value
  pub gives : Gives p.code check before after value
  pub decides : Decides p check.condition value went.end

-- the run on a candidate ends so, and these are the places that it reads
abbrev pub EndsAs : Bounds → Predicate → List ℕ → Result Bool Stop → List SlotPlace → Type 0
EndsAs b p v end reads = (d : Doing) → IsMeaning p.code d → (end_said end ≡ end_of (whole b p v v d).said) × (reads ≡ (whole b p v v d).reads)
