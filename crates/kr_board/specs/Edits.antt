-- Between crates: the lists of rows as code edits them.
use Rattle.std.specs.Prelude.{◌≡◌, ℕ, zero, suc, ◌+◌, List, [], ◌∷◌, ◌++◌, Bool, take, insert, if◌then◌else◌}
use Rattle.kr_core.specs.declared.segment.Segment.{Segment}
use Rattle.kr_core.specs.declared.event.Event.{Event}
use Rattle.kr_core.specs.declared.event.Event.TheVariants.{Take, Steal, Report, GiveUp, Drain, StopAt, Look}
use Rattle.kr_core.specs.States.{segment_of, place_of}
use Rattle.std.specs.Prelude.{Option, Some, None}
use Rattle.kr_board.specs.declared.edits.Edit.{Edit}
use Rattle.kr_board.specs.declared.edits.Edit.TheVariants.{Nothing, Insert, Append, First}

-- rows at the end of the list at a place
abbrev pub added : {R : Type 0} → ℕ → List R → List (List R) → List (List R)
added i rows [] = []
added zero rows (k ∷ ks) = (k ++ rows) ∷ ks
added (suc i) rows (k ∷ ks) = k ∷ added i rows ks

-- what an edit makes: an empty list directly after a place; rows at the end of the list at a place, which is the last one then
-- or not; the first list alone
abbrev pub edited : {R : Type 0} → Edit → List R → List (List R) → List (List R)
edited Nothing rows ks = ks
edited (Insert i) rows ks = insert ks (i + 1) []
edited (Append i ends) rows ks = if ends then take (i + 1) (added i rows ks) else added i rows ks
edited First rows ks = take 1 ks

abbrev pub insert_behind : Option Segment → ℕ → Edit
insert_behind None i = Nothing
insert_behind (Some g) i = Insert i

abbrev pub append_to : Option Segment → ℕ → Bool → Edit
append_to None i ends = Nothing
append_to (Some g) i ends = Append i ends

abbrev pub edit_of : List Segment → Event → Edit
edit_of segs (Take seat n) = Nothing
edit_of segs (Steal seat victim cut n) = insert_behind (segment_of victim segs) (place_of victim segs)
edit_of segs (Report seat n reach rows tried spent) = append_to (segment_of n segs) (place_of n segs) spent
edit_of segs (GiveUp seat n) = Nothing
edit_of segs (Drain rows) = Nothing
edit_of segs (StopAt mark) = First
edit_of segs (Look seat) = Nothing

-- the first list goes to the end of others
abbrev pub Moves : {R : Type 0} → List (List R) → List (List R) → List (List R) → List (List R) → Type 0
Moves {R} old front now more = (first : List R) × (old ≡ first ∷ now) × (more ≡ front ++ first ∷ [])
