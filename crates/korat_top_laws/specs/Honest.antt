-- To be believed: rows that are the valid entries up to a bound, and logs that are honest about all entries.
use Rattle.std.specs.Prelude.{◌≡◌, ℕ, ◌^◌, ◌<◌, List, [], ◌∷◌, true, false, filter, length, map}
use Rattle.kr_base.specs.declared.span.Bound.{Bound}
use Rattle.kr_base.specs.declared.span.Bound.TheVariants.{At}
use Rattle.kr_base.specs.declared.span.Span.{Span}
use Rattle.kr_base.specs.declared.entry.Entry.{Entry}
use Rattle.kr_base.specs.Bounds.{less}
use Rattle.kr_base.specs.Entries.{Ascends, is_valid, within}
use Rattle.kr_core.specs.declared.event.Event.{Event}
use Rattle.kr_core.specs.States.{State}
use Rattle.kr_core.specs.Counts.{HonestRuns}
use Rattle.kr_core.specs.Cutting.{cuts_for}
use Rattle.kr_core.specs.Openings.{end_of, opening}
use Rattle.kr_trace.specs.declared.ending.Last.{Last}
use Rattle.kr_trace.specs.Checked.{horizon, is_by}
use Rattle.korat_top_laws.specs.Printed.{Accepts, IsPrintable}

abbrev pub valid_keys : {R : Type 0} → List (Entry R) → List (List ℕ)
valid_keys es = map (λ e. e.key) (filter (λ e. is_valid e.mark) es)

-- The keys are those of the valid entries of a span up to a bound, which is the span's end or the horizon of the last line, whichever
-- is lower.
pub record AreWritten {R : Type 0} (es : List (Entry R)) (span : Span) (last : Last) (keys : List (List ℕ)) : Type 0 where
  pub upto : Bound
  pub keys_are : keys ≡ valid_keys (within (At span.after) upto es)
  pub lowest : (reach : Bound) → less (horizon last) reach ≡ false → less (end_of span) reach ≡ false → less upto reach ≡ false
  pub few : length keys < 2 ^ 64

-- each event can be read back, and is by one of the workers
abbrev pub AreShown : ℕ → List Event → Type 0
AreShown workers [] = Unit {0}
AreShown workers (event ∷ events) = IsPrintable event × (is_by workers event ≡ true) × AreShown workers events

-- for ascending entries: a log that is honest about them is accepted beside the rows that were written of them
abbrev pub HonestLaw : Type 0 → Type 0
HonestLaw R = (es : List (Entry R)) (span : Span) (workers : ℕ) (last : Last) (keys : List (List ℕ)) (log : List Event) (new : State) → Ascends es →
    AreWritten es span last keys → HonestRuns es (opening span (cuts_for span workers)) log new → AreShown workers log →
    Accepts workers last keys (opening span (cuts_for span workers)) log new
