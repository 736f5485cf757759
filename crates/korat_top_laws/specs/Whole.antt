-- To be believed: a listing of all valid entries of a span, and the log that tried all entries of it.
use Rattle.std.specs.Prelude.{◌≡◌, ℕ, ◌^◌, ◌<◌, ◌≤◌, List, [], ◌∷◌, ◌++◌, false, true, codes, decimal, length, Some, None, Ok}
use Rattle.std.specs.List.{list_all}
use Rattle.kr_base.specs.declared.span.Bound.TheVariants.{At}
use Rattle.kr_base.specs.declared.span.Span.{Span}
use Rattle.kr_base.specs.declared.entry.Entry.{Entry}
use Rattle.kr_base.specs.Entries.{Ascends, NoneSpent, within}
use Rattle.kr_text.specs.Splitting.{IsWithout}
use Rattle.kr_core.specs.declared.event.Event.{Event}
use Rattle.kr_core.specs.States.{State, is_closed}
use Rattle.kr_core.specs.Counts.{HonestRuns}
use Rattle.kr_core.specs.Cutting.{cuts_for}
use Rattle.kr_core.specs.Openings.{end_of, opening}
use Rattle.kr_trace.specs.Words.{last_in, row_in}
use Rattle.kr_trace.specs.Checked.{checked}
use Rattle.korat_top_laws.specs.Honest.{AreShown, valid_keys}
use Rattle.korat_top_laws.specs.Texts.{text_of}

-- a line that is read as a row of a listing, with a key
pub record IsRowOf (key line : List ℕ) : Type 0 where
  pub one_line : IsWithout 10 line
  pub no_last : last_in line ≡ None
  pub read : row_in false line ≡ Some (record { key = key; passes = true })

abbrev pub AreRowsOf : List (List ℕ) → List (List ℕ) → Type 0
AreRowsOf [] [] = Unit {0}
AreRowsOf [] (line ∷ lines) = ⊥
AreRowsOf (key ∷ keys) [] = ⊥
AreRowsOf (key ∷ keys) (line ∷ lines) = IsRowOf key line × AreRowsOf keys lines

-- `valid V tried T`
abbrev pub listed_line : ℕ → ℕ → List ℕ
listed_line valid tried = codes "valid " ++ (decimal valid ++ (codes " tried " ++ decimal tried))

-- The lines are rows of the valid entries of a span, in which none is spent; the log is honest about all entries, by the workers, and
-- ends at the span's end, where no segment has an owner or a remainder.
pub record IsWhole {R : Type 0} (es : List (Entry R)) (span : Span) (workers : ℕ) (lines : List (List ℕ)) (log : List Event) : Type 0 where
  pub new : State
  pub ascends : Ascends es
  pub rows : AreRowsOf (valid_keys (within (At span.after) (end_of span) es)) lines
  pub unspent : NoneSpent (within (At span.after) (end_of span) es)
  pub few : length (within (At span.after) (end_of span) es) < 2 ^ 64
  pub runs : HonestRuns es (opening span (cuts_for span workers)) log new
  pub shown : AreShown workers log
  pub closed : list_all is_closed new.segments ≡ true
  pub ended : new.end ≡ end_of span
  pub not_spent : new.spent ≡ false

-- such rows, the line of how many are valid and how many were tried, and the lines of the log are accepted, in at most 16 MiB
abbrev pub WholeLaw : Type 0 → Type 0
WholeLaw R = (es : List (Entry R)) (span : Span) (workers : ℕ) (lines : List (List ℕ)) (log : List Event) → IsWhole es span workers lines log →
    length (text_of lines (listed_line (length lines) (length (within (At span.after) (end_of span) es))) log) ≤ 2 ^ 24 →
    checked span workers (text_of lines (listed_line (length lines) (length (within (At span.after) (end_of span) es))) log) ≡ Ok (length log)
