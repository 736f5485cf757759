-- Between crates: what is left of a run, with which candidates, and what a checkpoint keeps.
use Rattle.std.specs.Prelude.{◌≡◌, ℕ, ◌+◌, Bool, true, List, [], ◌∷◌, drop, length, take, Option, Some, None}
use Rattle.kr_value.specs.declared.value.Value.{Value}
use Rattle.kr_value.specs.declared.object.Spot.TheVariants.{Length, Element}
use Rattle.kr_value.specs.Heaps.{Heap}
use Rattle.kr_mean.specs.Places.{SlotPlace, This, At}
use Rattle.kr_mean.specs.Steps.{State, Outcome}
use Rattle.kr_mean.specs.Heaps.{heap_of}
use Rattle.kr_mean.specs.Runs.{start, where_true}
use Rattle.kr_mean.specs.Space.{IsVector, space_of}
use Rattle.kr_code.specs.declared.code.Code.{Code}
use Rattle.kr_code.specs.Doing.{Doing, IsMeaning}
use Rattle.kr_space_layout.specs.Bounds.{Bounds, bare}
use Rattle.kr_run_state.specs.declared.world.World.{World}
use Rattle.kr_run_state.specs.Noting.{is_read, noting}
use Rattle.kr_run_state.specs.Worlds.{Allows, Others, StandFor, state_at, state_of}
use Rattle.kr_run_frames.specs.Frame.{Frame}
use Rattle.kr_run_frames.specs.declared.task.Task.{Task}
use Rattle.kr_run_frames.specs.declared.task.Task.TheVariants as tasks
use Rattle.kr_run_frames.specs.Frames.{continued, resumed}
use Rattle.kr_judge.specs.Judged.{hold_at}
use Rattle.kr_judge.specs.declared.predicate.Predicate.{Predicate}
use Rattle.kr_judge_replay.specs.declared.check.Check.{Check}

-- ---- the rest of a run

-- a state with other candidates
abbrev pub with_heap : State → Heap → State
with_heap s heap = record s { heap = heap }

-- the conditions after one
abbrev pub behind : Predicate → ℕ → List ℕ
behind p condition = drop (condition + 1) p.conditions.items

-- the rest of a condition, and then those after it
abbrev pub rest_of : Code → Doing → List ℕ → List Frame → Task → State → Outcome Bool
rest_of code d rest fs task s = continued (resumed code d fs task s) (λ v. where_true v (hold_at d rest))

-- the whole run on a candidate that has the roots of a vector and the heap of another, and what it reads
abbrev pub whole : Bounds → Predicate → List ℕ → List ℕ → Doing → Outcome Bool
whole b p v u d = noting (This ∷ []) (hold_at d p.conditions.items (with_heap (start (bare b) v) (heap_of (bare b) u)))

-- the heap of another vector in place of a run's candidates, or those
abbrev pub heap_in : Bounds → Option (List ℕ) → Others
heap_in b None = None
heap_in b (Some u) = Some (heap_of (bare b) u)

abbrev pub IsOther : Bounds → Option (List ℕ) → Type 0
IsOther b None = Unit {0}
IsOther b (Some u) = IsVector (space_of (bare b)) u

abbrev pub other_or : List ℕ → Option (List ℕ) → List ℕ
other_or v None = v
other_or v (Some u) = u

-- The run so far is the front of the whole run, also for all candidates that a run can't distinguish from its own by its reads.
-- Its own are the vector's until it writes one.
pub record GoesOn (b : Bounds) (p : Predicate) (v : List ℕ) (condition : ℕ) (fs : List Frame) (task : Task) (w : World) : Type 0 where
  pub same : w.is_frozen ≡ true → w.candidates ≡ heap_of (bare b) v
  pub is : (x : Option (List ℕ)) → IsOther b x → Allows w (heap_in b x) → (d : Doing) → IsMeaning p.code d → whole b p v (other_or v x) d ≡ noting w.reads (rest_of p.code d (behind p condition) fs task (state_at w (heap_in b x)))

-- A condition has given a value.
pub record Gave (b : Bounds) (p : Predicate) (v : List ℕ) (condition : ℕ) (given : Value) (w : World) : Type 0 where
  pub same : w.is_frozen ≡ true → w.candidates ≡ heap_of (bare b) v
  pub is : (x : Option (List ℕ)) → IsOther b x → Allows w (heap_in b x) → (d : Doing) → IsMeaning p.code d → whole b p v (other_or v x) d ≡ noting w.reads (where_true given (hold_at d (behind p condition)) (state_at w (heap_in b x)))

-- ---- checkpoints

-- a world that pauses, with candidates
abbrev pub woken : World → Heap → World
woken w heap = record w { candidates = heap; is_frozen = true }

abbrev pub reads_on : Bounds → Predicate → List ℕ → Doing → List SlotPlace
reads_on b p v d = (whole b p v v d).reads

-- of each array an element of which was read the length was, too
abbrev pub IsClosed : List SlotPlace → Type 0
IsClosed places = (o i : ℕ) → is_read (At o (Element i)) places ≡ true → is_read (At o Length) places ≡ true

-- The places that a candidate's run had read at a checkpoint; the run on each candidate that these reads don't distinguish from
-- that one goes on from there.
pub record IsOn (b : Bounds) (p : Predicate) (v : List ℕ) (c : Check) (d : Doing) (seen : List SlotPlace) : Type 0 where
  pub long : length seen ≡ c.count
  pub closed : IsClosed seen
  pub is : (u : List ℕ) → IsVector (space_of (bare b)) u → StandFor true seen (heap_of (bare b) v) (heap_of (bare b) u)
      → whole b p v u d ≡ noting seen (rest_of p.code d (behind p c.condition) c.stack (tasks.Act c.action) (state_of (woken c.world (heap_of (bare b) u))))

-- the run on a candidate was at the checkpoint when it had read so many places
abbrev pub Kept : Bounds → Predicate → List ℕ → Check → Type 0
Kept b p v c = (d : Doing) → IsMeaning p.code d → IsOn b p v c d (take c.count (reads_on b p v d))

-- these are the places that a candidate's run reads
abbrev pub AreReads : Bounds → Predicate → List ℕ → List SlotPlace → Type 0
AreReads b p v places = (d : Doing) → IsMeaning p.code d → places ≡ reads_on b p v d

-- so many of these places a candidate's run reads from the start
abbrev pub AreShared : Bounds → Predicate → List ℕ → List SlotPlace → ℕ → Type 0
AreShared b p v places count = (d : Doing) → IsMeaning p.code d → take count places ≡ take count (reads_on b p v d)

abbrev pub Shares : Bounds → Predicate → List ℕ → List SlotPlace → Check → Type 0
Shares b p v places c = AreShared b p v places c.count
