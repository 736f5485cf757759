-- Between crates: when the machine refuses an event.
use Rattle.std.specs.Prelude.{◌≡◌, true, false}
use Rattle.kr_core.specs.declared.event.Event.{Event}
use Rattle.kr_core.specs.declared.event.Event.TheVariants.{Take, Steal, Report, GiveUp, Drain, StopAt, Look}
use Rattle.kr_core.specs.declared.event.Reply.{Reply}
use Rattle.kr_core.specs.declared.machine.CoreRefusal.{CoreRefusal}
use Rattle.kr_core.specs.declared.machine.CoreRefusal.TheVariants.{Illegal, NoMemory}
use Rattle.kr_core.specs.States.{State}
use Rattle.kr_core.specs.Steps.{Step, fits}

-- no case of the step relation fits
abbrev pub FitsNowhere : State → Event → Type 0
FitsNowhere old event = (reply : Reply) (new : State) → Step old event reply new → ⊥

-- the events whose step may lack memory
abbrev pub TakesMemory : Event → Type 0
TakesMemory (Take seat n) = Unit {0}
TakesMemory (Steal seat victim cut n) = Unit {0}
TakesMemory (Report seat n reach rows tried spent) = Unit {0}
TakesMemory (GiveUp seat n) = ⊥
TakesMemory (Drain rows) = ⊥
TakesMemory (StopAt mark) = Unit {0}
TakesMemory (Look seat) = ⊥

-- the event fits nowhere and is handed back, or it fits and its step lacked memory
abbrev pub IsRefused : State → Event → CoreRefusal → Type 0
IsRefused old event (Illegal back) = (back ≡ event) × (fits old event ≡ false) × FitsNowhere old event
IsRefused old event (NoMemory _) = TakesMemory event × (fits old event ≡ true)
