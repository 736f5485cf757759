-- To be believed: the rows of entries, handed over in their order.
use Rattle.std.specs.Prelude.{◌≡◌, ℕ, List, ◌++◌, length, take, nat_lt, Bool, false, Option, Some, None, Result, Ok, Err}
use Rattle.kr_base.specs.Causes.{capped}
use Rattle.kr_base.specs.declared.entry.Entry.{Entry}
use Rattle.kr_survey.specs.Listings.{spent_in}
use Rattle.kr_survey.specs.Scans.{rows_of}
use Rattle.kr_survey.specs.declared.taker.End.{End}
use Rattle.kr_survey.specs.declared.taker.End.TheVariants.{Whole, Full as AtFull}
use Rattle.kr_survey.specs.declared.taker.Halt.{Halt}
use Rattle.kr_survey.specs.declared.taker.Halt.TheVariants.{Sink, Memory}
use Rattle.kr_survey.specs.declared.taker.Room.{Room}
use Rattle.kr_survey.specs.declared.taker.Room.TheVariants.{More, Full}

-- that a taker was handed rows since it and its output were the first two, and then had that room; none where a put failed
abbrev pub Takes : Type 0 → Type 0 → Type 0 → Type 1
Takes T K R = T → K → List R → T → K → Option Room → Type 0

-- whether so many rows are more than are wanted
abbrev pub is_past : Option ℕ → ℕ → Bool
is_past None n = false
is_past (Some most) n = nat_lt most n

-- the rows were taken after those before them, or a put failed; where memory was refused, nothing was taken
abbrev pub Took : {T K R : Type 0} → Takes T K R → T → K → List R → List R → T → K → Result Room Halt → Type 0
Took takes a from done rows b out (Ok room) = takes a from (done ++ rows) b out (Some room)
Took takes a from done rows b out (Err Sink) = takes a from (done ++ rows) b out None
Took takes a from done rows b out (Err (Memory why)) = takes a from done b out (Some More)

-- all rows of these entries were handed over, with their number and the spent key; or a front of them, and the taker is full
abbrev pub Ends : {T K R : Type 0} → Takes T K R → List (Entry R) → T → K → T → K → End → Type 0
Ends takes es a from b out (Whole tried spent) = takes a from (rows_of es) b out (Some More) × (tried ≡ capped (length es)) × (spent ≡ spent_in es)
Ends takes es a from b out AtFull = (n : ℕ) × takes a from (take n (rows_of es)) b out (Some Full)

-- a front of them was handed over; a put failed at the end of it, or memory was refused after it
abbrev pub Halts : {T K R : Type 0} → Takes T K R → List (Entry R) → T → K → T → K → Halt → Type 0
Halts takes es a from b out Sink = (n : ℕ) × takes a from (take n (rows_of es)) b out None
Halts takes es a from b out (Memory why) = (n : ℕ) × (room : Room) × takes a from (take n (rows_of es)) b out (Some room)

-- the rows of these entries handed over: to their end, or not
abbrev pub Hands : {T K R : Type 0} → Takes T K R → List (Entry R) → T → K → T → K → Result End Halt → Type 0
Hands takes es a from b out (Ok end) = Ends takes es a from b out end
Hands takes es a from b out (Err halt) = Halts takes es a from b out halt
