-- Between crates: logs: what their events lead to, and how they grow.
use Rattle.std.specs.Prelude.{◌≡◌, List, [], ◌∷◌, ◌++◌, Some}
use Rattle.kr_base.specs.declared.entry.Entry.{Entry}
use Rattle.kr_core.specs.declared.event.Event.{Event}
use Rattle.kr_core.specs.declared.event.Reply.{Reply}
use Rattle.kr_core.specs.States.{State}
use Rattle.kr_core.specs.Steps.{Step, replay}
use Rattle.kr_core.specs.Kept.{Runs}
use Rattle.kr_core.specs.Counts.{IsHonest, HonestRuns}

-- what steps lead to is what the log replays to, and a log that replays is one of steps
pub record IsReplay (old : State) (events : List Event) (new : State) : Type 0 where
  pub replays : Runs old events new → replay old events ≡ Some new
  pub runs : replay old events ≡ Some new → Runs old events new

abbrev pub ReplayLaw : Type 0
ReplayLaw = (old : State) (events : List Event) (new : State) → IsReplay old events new

-- an honest log grows by an honest event at its end
abbrev pub GrowthLaw : Type 0 → Type 0
GrowthLaw R = (es : List (Entry R)) (old : State) (events : List Event) (middle : State) (event : Event) (reply : Reply) (new : State) →
    HonestRuns es old events middle → IsHonest es middle event → Step middle event reply new → HonestRuns es old (events ++ event ∷ []) new
