-- Between crates: a bound on the rows kept.
use Rattle.std.specs.Prelude.{◌≡◌, ℕ, ◌+◌, ◌≤◌, List, [], ◌∷◌, Bool, false, ◌&&◌, not, ◌==◌, nat_lt, Option, Some, None, length, drop}
use Rattle.std.specs.List.{sum_by}
use Rattle.kr_survey.specs.Joins.{joined}
use Rattle.kr_core.specs.declared.segment.Segment.{Segment}
use Rattle.kr_core.specs.declared.event.Event.{Event}
use Rattle.kr_core.specs.declared.event.Event.TheVariants.{Take, Steal, Report, GiveUp, Drain, StopAt, Look}
use Rattle.kr_core.specs.States.{State}
use Rattle.kr_board.specs.Held.{Held}

-- of the rows kept: those after the first segment are no more than the window, and all are at most 256 more
abbrev pub IsInWindow : {R : Type 0} → Option ℕ → List (List R) → Type 0
IsInWindow None ks = Unit {0}
IsInWindow (Some window) ks = (length (joined (drop 1 ks)) ≤ window) × (length (joined ks) ≤ window + 256)

-- the rows that the segments count are at most 256 more than the window
abbrev pub CountsFew : Option ℕ → State → Type 0
CountsFew None s = Unit {0}
CountsFew (Some window) s = sum_by (λ g. g.rows) s.segments ≤ window + 256

-- where there is a window, at most 256
abbrev pub IsFew : Option ℕ → ℕ → Type 0
IsFew None count = Unit {0}
IsFew (Some window) count = count ≤ 256

abbrev pub passes : Option ℕ → ℕ → Bool
passes None count = false
passes (Some window) count = nat_lt window count

-- the first segment has that number, and it holds no rows
abbrev pub is_open_front : ℕ → List Segment → Bool
is_open_front n [] = false
is_open_front n (s ∷ ss) = (s.number == n) && (s.rows == 0)

-- with so many rows more in that segment the rows kept pass the window, and it isn't the first without rows
abbrev pub is_over : {R : Type 0} → Held R → ℕ → ℕ → Bool
is_over b n count = passes b.window (length (joined b.kept) + count) && not (is_open_front n b.core.segments)

-- the rows that come with an event may be kept
abbrev pub Admits : {R : Type 0} → Held R → Event → ℕ → Type 0
Admits b (Take seat n) count = Unit {0}
Admits b (Steal seat victim cut n) count = Unit {0}
Admits b (Report seat n reach rows tried spent) count = (is_over b n count ≡ false) × IsFew b.window count
Admits b (GiveUp seat n) count = Unit {0}
Admits b (Drain rows) count = Unit {0}
Admits b (StopAt mark) count = Unit {0}
Admits b (Look seat) count = Unit {0}
