-- Between crates: rows handed over as they come.
use Rattle.std.specs.Prelude.{ℕ, List, ◌++◌, take, Some, None, Result, Ok, Err}
use Rattle.kr_base.specs.declared.entry.Entry.{Entry}
use Rattle.kr_survey.specs.Scans.{rows_of}
use Rattle.kr_survey.specs.Takings.{Takes, Hands}
use Rattle.kr_survey.specs.declared.taker.End.{End}
use Rattle.kr_survey.specs.declared.taker.Halt.{Halt}
use Rattle.kr_survey.specs.declared.taker.Halt.TheVariants.{Sink, Memory}
use Rattle.kr_survey.specs.declared.taker.Room.{Room}
use Rattle.kr_survey.specs.declared.taker.Room.TheVariants.{More, Full}
use Rattle.kr_pool.specs.declared.came.Came.{Came}

-- all of these rows were taken, or a front of them, and the taker is full
abbrev pub HasTaken : {T K R : Type 0} → Takes T K R → List R → T → K → T → K → Room → Type 0
HasTaken takes rows a from b out More = takes a from rows b out (Some More)
HasTaken takes rows a from b out Full = (n : ℕ) × takes a from (take n rows) b out (Some Full)

-- a put failed after a front of them, or memory was refused
abbrev pub HasBroken : {T K R : Type 0} → Takes T K R → List R → T → K → T → K → Halt → Type 0
HasBroken takes rows a from b out Sink = (n : ℕ) × takes a from (take n rows) b out None
HasBroken takes rows a from b out (Memory why) = (n : ℕ) × (room : Room) × takes a from (take n rows) b out (Some room)

abbrev pub HandsOver : {T K R : Type 0} → Takes T K R → List R → T → K → T → K → Result Room Halt → Type 0
HandsOver takes rows a from b out (Ok room) = HasTaken takes rows a from b out room
HandsOver takes rows a from b out (Err halt) = HasBroken takes rows a from b out halt

-- where the first d rows of these entries were taken before, the first e are now
abbrev pub ReachesTo : {T K R : Type 0} → Takes T K R → List (Entry R) → ℕ → ℕ → T → K → T → K → Result Room Halt → Type 0
ReachesTo {T} {K} takes es d e old was new out (Ok room) = (start : T) (from : K) → takes start from (take d (rows_of es)) old was (Some More) → HasTaken takes (take e (rows_of es)) start from new out room
ReachesTo {T} {K} takes es d e old was new out (Err halt) = (start : T) (from : K) → takes start from (take d (rows_of es)) old was (Some More) → HasBroken takes (rows_of es) start from new out halt

-- the room that a round left
abbrev pub room_of : Result Came Halt → Result Room Halt
room_of (Ok came) = Ok came.room
room_of (Err halt) = Err halt

abbrev pub ComesTo : {T K R : Type 0} → Takes T K R → List (Entry R) → ℕ → ℕ → T → K → T → K → Result Came Halt → Type 0
ComesTo takes es d e old was new out result = ReachesTo takes es d e old was new out (room_of result)

-- where the first d rows of these entries were taken before, all are now
abbrev pub HandsRest : {T K R : Type 0} → Takes T K R → List (Entry R) → ℕ → T → K → T → K → Result End Halt → Type 0
HandsRest {T} {K} takes es d old was new out result = (start : T) (from : K) → takes start from (take d (rows_of es)) old was (Some More) → Hands takes es start from new out result
