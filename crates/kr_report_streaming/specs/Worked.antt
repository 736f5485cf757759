-- To be believed: a line of each kind of event, worked out by hand.
use Rattle.std.specs.Prelude.{◌≡◌, ℕ, List, [], ◌∷◌, true, false, codes}
use Rattle.kr_base.specs.declared.span.Bound.TheVariants.{At, End}
use Rattle.kr_core.specs.declared.event.Event.{Event}
use Rattle.kr_core.specs.declared.event.Event.TheVariants.{Take, Steal, Report, GiveUp, Drain, StopAt, Look}
use Rattle.kr_report_streaming.specs.Traces.{trace_text}

abbrev pub events : List Event
events =
    Take 0 2 ∷ Steal 1 0 (0 ∷ 3 ∷ []) 4 ∷ Report 0 0 End 2 3 false ∷ Report 2 1 (At (0 ∷ 1 ∷ [])) 0 17 true ∷ GiveUp 3 5 ∷ Drain 120 ∷ StopAt (0 ∷ 4 ∷ []) ∷ StopAt []
    ∷ Look 0 ∷ []

abbrev pub lines : List ℕ
lines = codes "take 0 2\nsteal 1 0 0.3 4\nreport 0 0 end 2 3\nreport 2 1 0.1 0 17 spent\ngiveup 3 5\ndrain 120\nstop 0.4\nstop\nlook 0\n"

abbrev pub AreLines : Type 0
AreLines = trace_text events ≡ lines
