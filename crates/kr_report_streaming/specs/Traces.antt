-- To be believed: the text of a log, a line an event.
use Rattle.std.specs.Prelude.{ℕ, List, [], ◌∷◌, ◌++◌, Bool, codes, decimal, flat_map, if◌then◌else◌}
use Rattle.kr_base.specs.Cuts.{cut_text}
use Rattle.kr_base.specs.declared.span.Bound.{Bound}
use Rattle.kr_base.specs.declared.span.Bound.TheVariants.{At, End}
use Rattle.kr_core.specs.declared.event.Event.{Event}
use Rattle.kr_core.specs.declared.event.Event.TheVariants.{Take, Steal, Report, GiveUp, Drain, StopAt, Look}

-- a word and a number
abbrev pub one_text : List ℕ → ℕ → List ℕ
one_text word a = word ++ (decimal a ++ codes "\n")

-- a word and two numbers
abbrev pub two_text : List ℕ → ℕ → ℕ → List ℕ
two_text word a b = word ++ (decimal a ++ (codes " " ++ (decimal b ++ codes "\n")))

-- with more after it
abbrev pub head_text : List ℕ → ℕ → ℕ → List ℕ
head_text word a b = word ++ (decimal a ++ (codes " " ++ (decimal b ++ codes " ")))

abbrev pub bound_text : Bound → List ℕ
bound_text (At cut) = cut_text cut
bound_text End = codes "end"

-- what a report counted, the last one spent or not
abbrev pub counts_text : ℕ → ℕ → Bool → List ℕ
counts_text rows tried spent = codes " " ++ (decimal rows ++ (codes " " ++ (decimal tried ++ (if spent then codes " spent\n" else codes "\n"))))

-- the mark, where it isn't empty
abbrev pub stop_text : List ℕ → List ℕ
stop_text [] = codes "stop\n"
stop_text (n ∷ ns) = codes "stop " ++ (cut_text (n ∷ ns) ++ codes "\n")

abbrev pub event_text : Event → List ℕ
event_text (Take seat n) = two_text (codes "take ") seat n
event_text (Steal seat victim cut n) = head_text (codes "steal ") seat victim ++ (cut_text cut ++ one_text (codes " ") n)
event_text (Report seat n reach rows tried spent) = head_text (codes "report ") seat n ++ (bound_text reach ++ counts_text rows tried spent)
event_text (GiveUp seat n) = two_text (codes "giveup ") seat n
event_text (Drain rows) = one_text (codes "drain ") rows
event_text (StopAt mark) = stop_text mark
event_text (Look seat) = one_text (codes "look ") seat

abbrev pub trace_text : List Event → List ℕ
trace_text events = flat_map event_text events
