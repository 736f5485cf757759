-- To be believed: the lines of a traced listing: a row, the last line, an event.
use Rattle.std.specs.Prelude.{ℕ, ◌^◌, List, [], ◌∷◌, Bool, true, false, ◌&&◌, ◌||◌, not, codes, nat_lt, Option, Some, None, is_some, option_and_then, if◌then◌else◌}
use Rattle.std.specs.Option.{option_map}
use Rattle.std.specs.List.{after_first, before_first}
use Rattle.std.specs.Str.{bytes_eq}
use Rattle.kr_base.specs.Parsing.{cut_of}
pub use Rattle.kr_text.specs.Splitting.{bound_of}
use Rattle.kr_text.specs.Splitting.{is_empty, is_space, number_of, onto}
use Rattle.kr_core.specs.declared.event.Event.{Event}
use Rattle.kr_core.specs.declared.event.Event.TheVariants.{Take, Steal, Report, GiveUp, Drain, StopAt, Look}
use Rattle.kr_trace.specs.declared.ending.Last.{Last}
use Rattle.kr_trace.specs.declared.ending.Last.TheVariants.{Listed, Tested, More, Spent}
use Rattle.kr_trace.specs.declared.row.Row.{Row}
use Rattle.kr_trace.specs.declared.words.Held.{Held}
use Rattle.kr_trace.specs.declared.events.Counts.{Counts}

-- ---- words

-- a line's words, one space between each two
abbrev pub words_in : List ℕ → List (List ℕ)
words_in [] = [] ∷ []
words_in (b ∷ bs) = if is_space b then [] ∷ words_in bs else onto b (words_in bs)

abbrev pub seat_of : List ℕ → Option ℕ
seat_of word = option_and_then (λ n. if nat_lt n (2 ^ 32) then Some n else None) (number_of word)

-- ---- the last line

-- `V tried T`, or `V failing B tried T`
abbrev pub counted_in : List (List ℕ) → Option Last
counted_in (v ∷ word ∷ t ∷ []) =
    if bytes_eq word (codes "tried") then option_and_then (λ valid. option_map (λ tried. Listed valid tried) (number_of t)) (number_of v) else None
counted_in (v ∷ word ∷ b ∷ other ∷ t ∷ []) =
    if bytes_eq word (codes "failing") && bytes_eq other (codes "tried")
    then option_and_then (λ valid. option_and_then (λ failing. option_map (λ tried. Tested valid failing tried) (number_of t)) (number_of b)) (number_of v)
    else None
counted_in ws = None

-- `KEY`
abbrev pub key_in : List (List ℕ) → Option (List ℕ)
key_in (key ∷ []) = cut_of key
key_in ws = None

-- `valid V tried T`, `valid V failing B tried T`, `more KEY` or `spent KEY`
abbrev pub last_by : List (List ℕ) → Option Last
last_by [] = None
last_by (word ∷ ws) =
    if bytes_eq word (codes "valid") then counted_in ws
    else if bytes_eq word (codes "more") then option_map More (key_in ws)
    else if bytes_eq word (codes "spent") then option_map Spent (key_in ws)
    else None

abbrev pub last_in : List ℕ → Option Last
last_in line = last_by (words_in line)

-- ---- rows

abbrev pub are_more : List (List ℕ) → Bool
are_more [] = false
are_more (word ∷ ws) = true

-- a number from 1 on, and another word
abbrev pub is_numbered : List (List ℕ) → Bool
is_numbered [] = false
is_numbered (n ∷ ws) = is_some (seat_of n) && (not (bytes_eq n (codes "0")) && are_more ws)

-- a kind's name, and another word
abbrev pub is_kind : List (List ℕ) → Bool
is_kind [] = false
is_kind (kind ∷ ws) = not (is_empty kind) && are_more ws

-- a verdict that isn't a pass, and another word
abbrev pub is_failure : List ℕ → List (List ℕ) → Bool
is_failure word ws =
    if bytes_eq word (codes "repOk") || bytes_eq word (codes "spent") then are_more ws
    else if bytes_eq word (codes "ensures") || bytes_eq word (codes "signals") then is_numbered ws
    else if bytes_eq word (codes "trap") || bytes_eq word (codes "check-trap") then is_kind ws
    else false

-- the words begin with a verdict, which has another word after it: whether it is a pass
abbrev pub verdict_by : List ℕ → List (List ℕ) → Option Bool
verdict_by word ws =
    if bytes_eq word (codes "pass") then (if are_more ws then Some true else None)
    else if is_failure word ws then Some false else None

abbrev pub verdict_in : List (List ℕ) → Option Bool
verdict_in [] = None
verdict_in (word ∷ ws) = verdict_by word ws

-- after a key: of a test a verdict and a space; else it isn't looked at
abbrev pub rest_passes : Bool → List ℕ → Option Bool
rest_passes true rest = verdict_in (words_in rest)
rest_passes false rest = Some true

-- `KEY REST`, the rest not empty
abbrev pub row_in : Bool → List ℕ → Option Row
row_in tests line =
    let rest = after_first is_space line in
    if is_empty rest then None
    else option_and_then (λ passes. option_map (λ key. record { key = key; passes = passes }) (cut_of (before_first is_space line))) (rest_passes tests rest)

-- ---- events

-- `SEAT SEGMENT`
abbrev pub held_in : List (List ℕ) → Option Held
held_in (a ∷ b ∷ []) = option_and_then (λ seat. option_map (λ n. record { seat = seat; segment = n }) (number_of b)) (seat_of a)
held_in ws = None

-- `SEAT VICTIM CUT SEGMENT`
abbrev pub stolen_in : List (List ℕ) → Option Event
stolen_in (a ∷ b ∷ c ∷ d ∷ []) =
    option_and_then (λ seat. option_and_then (λ victim. option_and_then (λ n. option_map (λ cut. Steal seat victim cut n) (cut_of c)) (number_of d)) (number_of b)) (seat_of a)
stolen_in ws = None

-- nothing, or `spent`
abbrev pub spent_in : List (List ℕ) → Option Bool
spent_in [] = Some false
spent_in (word ∷ []) = if bytes_eq word (codes "spent") then Some true else None
spent_in ws = None

-- a report's numbers, and whether a candidate was spent
abbrev pub counts_in : List ℕ → List ℕ → List ℕ → List ℕ → List (List ℕ) → Option Counts
counts_in a b d e ws =
    option_and_then (λ seat. option_and_then (λ n. option_and_then (λ rows. option_and_then (λ tried. option_map (λ spent.
    record { seat = seat; segment = n; rows = rows; tried = tried; spent = spent }) (spent_in ws)) (number_of e)) (number_of d)) (number_of b)) (seat_of a)

-- `SEAT SEGMENT REACH ROWS TRIED`, and ` spent` where it is
abbrev pub reported_in : List (List ℕ) → Option Event
reported_in (a ∷ b ∷ c ∷ d ∷ e ∷ ws) =
    option_and_then (λ (counts : Counts). option_map (λ reach. Report counts.seat counts.segment reach counts.rows counts.tried counts.spent) (bound_of c)) (counts_in a b d e ws)
reported_in ws = None

abbrev pub drained_in : List (List ℕ) → Option Event
drained_in (a ∷ []) = option_map (λ rows. Drain rows) (number_of a)
drained_in ws = None

-- the empty mark isn't written
abbrev pub stopped_in : List (List ℕ) → Option Event
stopped_in [] = Some (StopAt [])
stopped_in (a ∷ []) = option_map (λ mark. StopAt mark) (cut_of a)
stopped_in ws = None

abbrev pub looked_in : List (List ℕ) → Option Event
looked_in (a ∷ []) = option_map (λ seat. Look seat) (seat_of a)
looked_in ws = None

abbrev pub event_by : List ℕ → List (List ℕ) → Option Event
event_by word ws =
    if bytes_eq word (codes "take") then option_map (λ (h : Held). Take h.seat h.segment) (held_in ws)
    else if bytes_eq word (codes "steal") then stolen_in ws
    else if bytes_eq word (codes "report") then reported_in ws
    else if bytes_eq word (codes "giveup") then option_map (λ (h : Held). GiveUp h.seat h.segment) (held_in ws)
    else if bytes_eq word (codes "drain") then drained_in ws
    else if bytes_eq word (codes "stop") then stopped_in ws
    else if bytes_eq word (codes "look") then looked_in ws
    else None

abbrev pub event_of : List (List ℕ) → Option Event
event_of [] = None
event_of (word ∷ ws) = event_by word ws

-- the event whose line this is
abbrev pub event_in : List ℕ → Option Event
event_in line = event_of (words_in line)
