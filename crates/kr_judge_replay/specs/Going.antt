-- Between crates: what is answered on the way of a run.
use Rattle.std.specs.Prelude.{◌≡◌, ◌⊎◌, ℕ, ◌<◌, ◌≤◌, Bool, true, List, [], ◌∷◌, ◌++◌, length, map, take, Result, Ok, Err}
use Rattle.std.specs.List.{All}
use Rattle.std.proofs.Common.{get_or}
use Rattle.kr_value.specs.declared.value.Value.{Value}
use Rattle.kr_value.specs.Heaps.{Heap}
use Rattle.kr_mean.specs.declared.kind.Stop.{Stop}
use Rattle.kr_mean.specs.Heaps.{heap_of}
use Rattle.kr_mean.specs.Space.{IsVector, space_of}
use Rattle.kr_mean.specs.Places.{SlotPlace, This}
use Rattle.kr_mean.specs.Problem.{Problem}
use Rattle.kr_mean.specs.Runs.{contains_number, end_on, outcome_of, start}
use Rattle.kr_space_layout.specs.Bounds.{Bounds, bare}
use Rattle.kr_run_state.specs.declared.action.Action.{Action}
use Rattle.kr_run_state.specs.declared.world.World.{World}
use Rattle.kr_run_state.specs.declared.world.Halt.{Halt}
use Rattle.kr_run_state.specs.declared.world.Halt.TheVariants.{Ended, Memory}
use Rattle.kr_run_state.specs.Noting.{noted_once}
use Rattle.kr_judge_replay.specs.States.{HasStateOf}
use Rattle.kr_run_frames.specs.Copies.{GoOnAlike}
use Rattle.kr_run_frames.specs.Frame.{Frame}
use Rattle.kr_run_frames.specs.declared.task.Task.TheVariants as tasks
use Rattle.kr_judge.specs.Follows.{Follow, HaveCome, place_in}
use Rattle.kr_judge.specs.Judged.{HoldsAs, hold_at}
use Rattle.kr_judge.specs.Runs.{end_said}
use Rattle.kr_judge.specs.declared.accesses.Accesses.{Accesses}
use Rattle.kr_judge.specs.declared.predicate.Predicate.{Predicate}
use Rattle.kr_judge_replay.specs.declared.check.Check.{Check}
use Rattle.kr_judge_replay.specs.declared.checks.Start.{Start}
use Rattle.kr_judge_replay.specs.declared.going.Went.{Went}
use Rattle.kr_judge_replay.specs.Kept.{AreReads, AreShared, Gave, IsClosed, Kept}

-- a condition has given a value, or the run has ended
abbrev pub Gives : Bounds → Predicate → List ℕ → ℕ → Result Value Halt → World → Type 0
Gives b p v condition (Ok given) w = Gave b p v condition given w
Gives b p v condition (Err (Ended e)) w = HoldsAs p.code (Err (Ended e)) w (This ∷ []) (λ d. hold_at d p.conditions.items (start (bare b) v))
Gives b p v condition (Err (Memory why)) w = Unit {0}

-- A copy of a run's position.
pub record IsCopyOf (condition : ℕ) (action : Action) (fs : List Frame) (w : World) (c : Check) : Type 0 where
  pub condition_is : c.condition ≡ condition
  pub action_is : c.action ≡ action
  pub stack : GoOnAlike fs c.stack
  pub world : HasStateOf w c.world
  pub count_is : c.count ≡ length w.reads

-- A checkpoint of the position of a run that has read the length of each array of which it has read an element.
abbrev pub IsCheckOf : ℕ → Action → List Frame → World → Check → Type 0
IsCheckOf condition action fs w c = IsCopyOf condition action fs w c × IsClosed w.reads

-- of checkpoints the first ones stay, and one more may come
abbrev pub Adds : (Check → Type 0) → List Check → List Check → Type 0
Adds P old new = (n : ℕ) × ((new ≡ take n old) ⊎ ((c : Check) × P c × (new ≡ take n old ++ c ∷ [])))

-- the slots of what was read at a checkpoint are among so many first ones
abbrev pub IsHeld : Accesses → ℕ → Check → Type 0
IsHeld accesses fresh c = (slots_of : SlotPlace → List ℕ) → Follow slots_of accesses → HaveCome slots_of (take c.count (map place_in accesses.places.items)) (take fresh accesses.order)

-- the last one
abbrev pub IsLastOf : Check → List Check → Type 0
IsLastOf c cs = (before : List Check) × (cs ≡ before ++ c ∷ [])

-- A run goes on from the last checkpoint, with the places that were read there.
pub record Wakes (checks : List Check) (start : Start) (reads : List SlotPlace) (fs : List Frame) (w : World) : Type 0 where
  pub check : Check
  pub last : IsLastOf check checks
  pub condition_is : start.condition ≡ check.condition
  pub task_is : start.task ≡ tasks.Act check.action
  pub count_is : start.count ≡ check.count
  pub stack : GoOnAlike check.stack fs
  pub world : HasStateOf check.world w
  pub reads_are : w.reads ≡ take check.count reads

-- the run's end, and the places that it has read, each where it is read first
abbrev pub IsRunTo : Problem → List ℕ → Result Bool Stop → List SlotPlace → Type 0
IsRunTo problem vector end reads = (end_said end ≡ end_on problem vector) × (reads ≡ noted_once [] (outcome_of problem vector).reads)

-- where the run has ended the candidates are the vector's, unless it has written one
abbrev pub Stays : {A : Type 0} → Bounds → List ℕ → Result A Halt → World → Type 0
Stays b v (Ok a) w = w.is_frozen ≡ true → w.candidates ≡ heap_of (bare b) v
Stays b v (Err (Ended e)) w = w.is_frozen ≡ true → w.candidates ≡ heap_of (bare b) v
Stays b v (Err (Memory why)) w = Unit {0}

-- a heap is a candidate's
abbrev pub IsHeapOf : Bounds → List ℕ → Heap → Type 0
IsHeapOf b u h = IsVector (space_of (bare b)) u × (h ≡ heap_of (bare b) u)

-- The last run, which was on a candidate: the world has its heap and its reads, and so have the accesses; checkpoints are its
-- own.
pub record IsLast (b : Bounds) (p : Predicate) (u : List ℕ) (checks : List Check) (w : World) (accesses : Accesses) : Type 0 where
  pub heap : IsHeapOf b u w.candidates
  pub kept : All (Kept b p u) checks
  pub reads : AreReads b p u w.reads
  pub places : AreReads b p u (map place_in accesses.places.items)

-- two vectors have the same indices at the roots, unless it is at no slots, and at so many of the first slots
abbrev pub Alike : Bounds → List ℕ → List ℕ → ℕ → Accesses → Type 0
Alike b u v fresh accesses = ((0 < fresh) → (s : ℕ) → s ≤ length b.parameters → get_or u s 0 ≡ get_or v s 0)
    × ((s : ℕ) → contains_number (take fresh accesses.order) s ≡ true → get_or u s 0 ≡ get_or v s 0)

-- A run has ended, and the accesses are still those of the run before.
pub record HasGone (b : Bounds) (p : Predicate) (v : List ℕ) (went : Went) (known : List ℕ) (checks : List Check) (w : World) (accesses : Accesses) : Type 0 where
  pub known_is : known ≡ v
  pub heap : w.candidates ≡ heap_of (bare b) v
  pub kept : All (Kept b p v) checks
  pub reads : AreReads b p v w.reads
  pub shared : AreShared b p v (map place_in accesses.places.items) went.shared
