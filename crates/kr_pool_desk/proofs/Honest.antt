-- Honest events are steps.
use Rattle.std.proofs.Common.{List, [], ◌∷◌}
use Rattle.kr_base.specs.declared.entry.Entry.{Entry}
use Rattle.kr_core.specs.declared.event.Event.{Event}
use Rattle.kr_core.specs.States.{State}
use Rattle.kr_core.specs.Kept.{Runs}
use Rattle.kr_core.specs.Counts.{HonestRuns}

pub runs_from_honest : {R : Type 0} (all : List (Entry R)) (old : State) (events : List Event) (new : State) → HonestRuns all old events new → Runs old events new
runs_from_honest all old [] new h = h
runs_from_honest all old (event ∷ events) new h = (h.0, h.1, h.3, runs_from_honest all h.1 events new h.4)
