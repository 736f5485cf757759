-- To be believed: a span shared by workers: its rows handed over, and their log.
use Rattle.std.specs.Prelude.{◌≡◌, ◌≤◌, ◌⊎◌, ℕ, List, Bool, true, false, Option, Result, Ok, Err, Vec, take, Some}
use Rattle.std.specs.declared.alloc.Global.{Global}
use Rattle.kr_base.specs.declared.span.Span.{Span}
use Rattle.kr_base.specs.declared.entry.Entry.{Entry}
use Rattle.kr_core.specs.declared.event.Event.{Event}
use Rattle.kr_core.specs.Openings.{opening}
use Rattle.kr_core.specs.Rows.{drained}
use Rattle.kr_core.specs.States.{State}
use Rattle.kr_survey.specs.Scans.{rows_of}
use Rattle.kr_survey.specs.Takings.{Takes, Ends, Halts}
use Rattle.kr_survey.specs.declared.taker.End.{End}
use Rattle.kr_survey.specs.declared.taker.End.TheVariants.{Whole, Full}
use Rattle.kr_survey.specs.declared.taker.Halt.{Halt}
use Rattle.kr_survey.specs.declared.taker.Halt.TheVariants.{Sink, Memory}
use Rattle.kr_survey.specs.declared.taker.Room.TheVariants.{More, Full as AtFull}
use Rattle.kr_core.specs.Cutting.{cuts_for}
use Rattle.kr_pool_desk.specs.Limits.{begins_within}
use Rattle.kr_pool_desk.specs.Runs.{are_shared}
use Rattle.kr_pool_desk.specs.Traces.{Finishes}

abbrev pub is_whole : End → Bool
is_whole (Whole tried spent) = true
is_whole Full = false

-- the rows of these entries are handed over, whatever the log
abbrev pub Shares : {T K R L : Type 0} → Takes T K R → List (Entry R) → T → K → T → K → Result (End × L) Halt → Type 0
Shares takes es a from b out (Ok r) = Ends takes es a from b out r.0
Shares takes es a from b out (Err halt) = Halts takes es a from b out halt

-- All rows of these entries are handed over; or a front of them, until the taker was full. That front was drained, unless the log of
-- so many workers has no stop.
abbrev pub EndsLogged : {T K R : Type 0} → Takes T K R → List (Entry R) → ℕ → List Event → T → K → T → K → End → Type 0
EndsLogged takes es workers log a from b out (Whole tried spent) = Ends takes es a from b out (Whole tried spent)
EndsLogged takes es workers log a from b out Full = (n : ℕ) × ((are_shared workers log ≡ true) ⊎ (n ≤ drained log)) × takes a from (take n (rows_of es)) b out (Some AtFull)

-- so they are handed over, and this is the log
abbrev pub SharesLogged : {T K R : Type 0} → Takes T K R → List (Entry R) → ℕ → T → K → T → K → Result (End × List Event) Halt → Type 0
SharesLogged takes es workers a from b out (Ok r) = EndsLogged takes es workers r.1 a from b out r.0
SharesLogged takes es workers a from b out (Err halt) = Halts takes es a from b out halt

-- an end with its log
abbrev pub with_log : Result (End × Vec Event Global) Halt → Result (End × List Event) Halt
with_log (Ok r) = Ok (r.0, r.1.items)
with_log (Err halt) = Err halt

-- the rest is handed over, where the first d rows were taken before
abbrev pub SharesRest : {T K R : Type 0} → Takes T K R → List (Entry R) → ℕ → ℕ → T → K → T → K → Result (End × Vec Event Global) Halt → Type 0
SharesRest {T} {K} takes es workers d old was new out result = (start : T) (from : K) → takes start from (take d (rows_of es)) old was (Some More) → SharesLogged takes es workers start from new out (with_log result)

-- the taker is full, or memory was refused
abbrev pub EndsFull : {L : Type 0} → Result (End × L) Halt → Type 0
EndsFull (Ok r) = r.0 ≡ Full
EndsFull (Err Sink) = ⊥
EndsFull (Err (Memory why)) = Unit {0}

-- A log of so many workers from a state to an end. It has a stop only where the rows didn't all come; and once more rows were
-- drained than are wanted, no segment is begun.
pub record IsLog {R : Type 0} (all : List (Entry R)) (first : State) (workers : ℕ) (limit : Option ℕ) (end : End) (log : List Event) : Type 0 where
  pub finishes : Finishes all first workers log
  pub unstopped : is_whole end ≡ true → are_shared workers log ≡ true
  pub begun : begins_within limit 0 log ≡ true

-- from the state in which a span begins, cut for so many workers
abbrev pub IsLogOf : {R : Type 0} → List (Entry R) → Span → ℕ → Option ℕ → End → List Event → Type 0
IsLogOf all span workers limit end log = IsLog all (opening span (cuts_for span workers)) workers limit end log
