-- Between crates: room for what is written later, and what every board keeps.
use Rattle.std.specs.Prelude.{◌≡◌, ℕ, zero, suc, ◌+◌, ◌-◌, ◌^◌, ◌<◌, ◌≤◌, List, [], ◌∷◌, vec_len, vec_capacity, map, length}
use Rattle.std.specs.List.{count_by}
use Rattle.std.proofs.Common.{Vec, Global}
use Rattle.kr_survey.specs.Joins.{joined}
use Rattle.kr_core.specs.declared.segment.Segment.{Segment}
use Rattle.kr_core.specs.declared.event.Event.{Event}
use Rattle.kr_core.specs.declared.event.Event.TheVariants.{Take, Steal, Report, GiveUp, Drain, StopAt, Look}
use Rattle.kr_base.specs.Causes.{capped}
use Rattle.kr_core.specs.States.{State, is_owned}
use Rattle.kr_core.specs.Kept.{IsKept}
use Rattle.kr_board.specs.declared.edits.Edit.{Edit}
use Rattle.kr_board.specs.declared.edits.Edit.TheVariants.{Nothing, Insert, Append, First}

-- the vector at that place has room
abbrev pub HasRoomAt : {R : Type 0} → List (Vec R Global) → ℕ → ℕ → Type 0
HasRoomAt [] i n = Unit {0}
HasRoomAt (v ∷ vs) zero n = vec_len v + n ≤ vec_capacity v
HasRoomAt (v ∷ vs) (suc i) n = HasRoomAt vs i n

-- there is room for an edit
abbrev pub HasRoom : {R : Type 0} → Edit → ℕ → Vec (Vec R Global) Global → Type 0
HasRoom Nothing n v = Unit {0}
HasRoom (Insert i) n v = vec_len v < vec_capacity v
HasRoom (Append i ends) n v = HasRoomAt v.items i n
HasRoom First n v = Unit {0}

-- its place is within so many lists
abbrev pub IsWithin : Edit → ℕ → Type 0
IsWithin Nothing n = Unit {0}
IsWithin (Insert i) n = i < n
IsWithin (Append i ends) n = i < n
IsWithin First n = Unit {0}

-- the events that `add` takes: neither a seat gives up nor rows are drained
abbrev pub IsAdded : Event → Type 0
IsAdded (Take seat n) = Unit {0}
IsAdded (Steal seat victim cut n) = Unit {0}
IsAdded (Report seat n reach rows tried spent) = Unit {0}
IsAdded (GiveUp seat n) = ⊥
IsAdded (Drain rows) = ⊥
IsAdded (StopAt mark) = Unit {0}
IsAdded (Look seat) = Unit {0}

abbrev pub owned_count : List Segment → ℕ
owned_count ss = count_by (λ s. is_owned s.owner) ss

-- The machine keeps what every run keeps; each segment counts the rows that are kept beside it; these are no more than are
-- counted; and the log has a place for each owner to give up.
pub record IsSound {R : Type 0} (core : State) (kept : List (List R)) (log : Vec Event Global) : Type 0 where
  pub core_kept : IsKept core
  pub counted : map (λ s. s.rows) core.segments ≡ map (λ l. capped (length l)) kept
  pub few : length (joined kept) ≤ 2 ^ 64 - 1
  pub room : vec_len log + owned_count core.segments ≤ vec_capacity log
