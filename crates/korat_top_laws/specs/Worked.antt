-- Between crates: three listings by one worker, worked by hand: whole, up to a spent candidate, and with a row left out; and what the
-- laws don't speak of.
use Rattle.std.specs.Prelude.{◌≡◌, ℕ, List, [], ◌∷◌, true, false, codes, Some, None}
use Rattle.kr_base.specs.declared.span.Bound.TheVariants.{At, End}
use Rattle.kr_base.specs.declared.entry.Mark.TheVariants.{Valid, Invalid, Spent}
use Rattle.kr_base.specs.declared.entry.Entry.{Entry}
use Rattle.kr_core.specs.declared.event.Event.{Event}
use Rattle.kr_core.specs.declared.event.Event.TheVariants.{Take, Report, GiveUp, Drain, StopAt, Look}
use Rattle.kr_core.specs.Examples.{k1, k2, seg, span as all, st}
use Rattle.kr_core.specs.States.{State}
use Rattle.kr_mean.specs.declared.kind.Verdict.TheVariants.{Ensures}
use Rattle.kr_trace.specs.declared.ending.Last.TheVariants.{Listed, Tested, More, Spent as SpentAt}
use Rattle.kr_trace.specs.declared.row.Row.{Row}
use Rattle.korat_top_laws.specs.Ends.{EndsWhole, HasNoStop}
use Rattle.korat_top_laws.specs.Honest.{AreShown, valid_keys}
use Rattle.korat_top_laws.specs.Listings.{IsLogged, IsShownLast, last_line, read_of, written_to}
use Rattle.korat_top_laws.specs.More.{LeavesOut, last_of}
use Rattle.korat_top_laws.specs.Printed.{IsShown, IsShownMark}
use Rattle.korat_top_laws.specs.RowLines.{IsWritable, row_line}
use Rattle.korat_top_laws.specs.Spent.{EndsAtSpent}
use Rattle.korat_top_laws.specs.Texts.{text_of}

abbrev pub k0 : List ℕ
k0 = 0 ∷ 0 ∷ []

-- three candidates, two of which are valid
abbrev pub cells : List (Entry ℕ)
cells = record { key = k0; mark = Invalid } ∷ record { key = k1; mark = Valid 7 } ∷ record { key = k2; mark = Valid 8 } ∷ []

-- two candidates, the second of which is spent
abbrev pub spent_cells : List (Entry ℕ)
spent_cells = record { key = k0; mark = Valid 7 } ∷ record { key = k1; mark = Spent } ∷ []

abbrev pub row : List ℕ → Row
row key = record { key = key; passes = true }

abbrev pub lines : List (List ℕ)
lines = codes "0.1 a" ∷ codes "0.2 b" ∷ []

abbrev pub whole_log : List Event
whole_log = Take 0 0 ∷ Report 0 0 End 2 3 false ∷ Look 0 ∷ Drain 2 ∷ []

abbrev pub whole_state : State
whole_state = st (seg 0 (At []) End End None 0 3 ∷ []) 1 0 End false

abbrev pub spent_log : List Event
spent_log = Take 0 0 ∷ Report 0 0 (At k1) 1 2 true ∷ []

abbrev pub spent_state : State
spent_state = st (seg 0 (At []) (At k1) (At k1) None 1 2 ∷ []) 1 0 (At k1) true

abbrev pub stopped_log : List Event
stopped_log = Take 0 0 ∷ Report 0 0 (At k2) 2 3 false ∷ Drain 2 ∷ GiveUp 0 0 ∷ StopAt k2 ∷ []

abbrev pub stopped_state : State
stopped_state = st (seg 0 (At []) (At k2) (At k2) None 0 3 ∷ []) 1 0 (At k2) false

pub record WorkedListings : Type 0 where
  pub row_text : row_line [] k1 None (codes "Cell#0{v=1}") ≡ codes "0.1 Cell#0{v=1}"
  pub failing_text : row_line [] k1 (Some (Ensures 2)) (codes "Cell#0{v=1}") ≡ codes "0.1 ensures 2 Cell#0{v=1}"
  pub listed_text : last_line (Listed 2 3) ≡ codes "valid 2 tried 3"
  pub tested_text : last_line (Tested 2 1 3) ≡ codes "valid 2 failing 1 tried 3"
  pub more_text : last_line (More k1) ≡ codes "more 0.1"
  pub spent_text : last_line (SpentAt k1) ≡ codes "spent 0.1"
  pub text : text_of lines (codes "valid 2 tried 3") whole_log ≡ codes "0.1 a\n0.2 b\nvalid 2 tried 3\ntake 0 0\nreport 0 0 end 2 3\nlook 0\ndrain 2\n"
  pub keys : valid_keys cells ≡ k1 ∷ k2 ∷ []
  pub read : read_of (row k1 ∷ record { key = k2; passes = false } ∷ []) ≡ record { keys = k1 ∷ k2 ∷ []; failing = 1 }
  pub last_key : last_of (k0 ∷ k1 ∷ k2 ∷ []) ≡ Some k2
  pub whole_end : written_to all (Listed 2 3) ≡ End
  pub row_end : written_to all (More k1) ≡ At k1
  pub whole : IsLogged cells all 1 (row k1 ∷ row k2 ∷ []) lines (Listed 2 3) whole_log
  pub ends : EndsWhole cells all 1 whole_log whole_state
  pub at_spent : EndsAtSpent spent_cells all 1 k1 spent_log spent_state
  pub left_out : LeavesOut cells all 1 1 k1 stopped_log stopped_state
  -- an empty cut isn't written, but an empty mark has a line
  pub empty_cut : IsShown [] → ⊥
  pub empty_mark : IsShownMark []
  -- postconditions are numbered from 1 on
  pub first_postcondition : IsWritable [] (Some (Ensures 1))
  pub no_postcondition : IsWritable [] (Some (Ensures 0)) → ⊥
  pub empty_last : IsShownLast (More []) → ⊥
  pub other_seat : AreShown 1 (Look 1 ∷ []) → ⊥
  pub has_stop : HasNoStop stopped_log → ⊥
