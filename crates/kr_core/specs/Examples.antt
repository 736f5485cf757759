-- Between crates: one run, worked by hand: two segments, a theft, a spent entry, a segment given up and taken again, a drain, a
-- stop; what fits nowhere on the way; and a whole listing by one seat.
use Rattle.std.specs.Prelude.{◌≡◌, ℕ, List, [], ◌∷◌, Bool, true, false, Option, Some, None, take}
use Rattle.kr_base.specs.declared.span.Bound.{Bound}
use Rattle.kr_base.specs.declared.span.Bound.TheVariants.{At, End}
use Rattle.kr_base.specs.declared.span.Span.{Span}
use Rattle.kr_base.specs.declared.entry.Mark.TheVariants.{Valid, Invalid, Spent}
use Rattle.kr_base.specs.declared.entry.Entry.{Entry}
use Rattle.kr_base.specs.Entries.{Ascends, entries_in}
use Rattle.kr_core.specs.declared.segment.Segment.{Segment}
use Rattle.kr_core.specs.declared.event.Event.{Event}
use Rattle.kr_core.specs.declared.event.Event.TheVariants.{Take, Steal, Report, GiveUp, Drain, StopAt, Look}
use Rattle.kr_core.specs.declared.event.Lease.{Lease}
use Rattle.kr_core.specs.declared.event.Reply.{Reply}
use Rattle.kr_core.specs.declared.event.Reply.TheVariants.{Lease as Leased, Go, Done, Noted}
use Rattle.kr_core.specs.States.{State}
use Rattle.kr_core.specs.Openings.{AreInside, opening}
use Rattle.kr_core.specs.Steps.{Step, fits, replay}
use Rattle.kr_core.specs.Counts.{HonestRuns, AllClosed}
use Rattle.kr_core.specs.Rows.{drained}
use Rattle.kr_core.specs.Leases.{holder_of, ends_of, opening_end}

abbrev pub k1 : List ℕ
k1 = 0 ∷ 1 ∷ []

abbrev pub k2 : List ℕ
k2 = 0 ∷ 2 ∷ []

abbrev pub k3 : List ℕ
k3 = 0 ∷ 3 ∷ []

abbrev pub k4 : List ℕ
k4 = 1 ∷ []

abbrev pub entries : List (Entry ℕ)
entries = record { key = k1; mark = Valid 7 } ∷ record { key = k2; mark = Invalid } ∷ record { key = k3; mark = Spent } ∷ record { key = k4; mark = Valid 8 } ∷ []

abbrev pub span : Span
span = record { after = []; upto = End }

abbrev pub cuts : List (List ℕ)
cuts = k2 ∷ []

abbrev pub seg : ℕ → Bound → Bound → Bound → Option ℕ → ℕ → ℕ → Segment
seg n a m u o r t = record { number = n; after = a; mark = m; upto = u; owner = o; rows = r; tried = t }

abbrev pub st : List Segment → ℕ → ℕ → Bound → Bool → State
st ss next past end spent = record { segments = ss; next = next; past = past; end = end; spent = spent }

abbrev pub lease : ℕ → ℕ → List ℕ → Bound → Lease
lease seat n mark upto = record { seat = seat; segment = n; mark = mark; upto = upto }

abbrev pub s0 : State
s0 = st (seg 0 (At []) (At []) (At k2) None 0 0 ∷ seg 1 (At k2) (At k2) End None 0 0 ∷ []) 2 0 End false

abbrev pub s1 : State
s1 = st (seg 0 (At []) (At []) (At k2) (Some 0) 0 0 ∷ seg 1 (At k2) (At k2) End None 0 0 ∷ []) 2 0 End false

abbrev pub s2 : State
s2 = st (seg 0 (At []) (At []) (At k2) (Some 0) 0 0 ∷ seg 1 (At k2) (At k2) End (Some 1) 0 0 ∷ []) 2 0 End false

abbrev pub s3 : State
s3 = st (seg 0 (At []) (At k1) (At k2) (Some 0) 1 1 ∷ seg 1 (At k2) (At k2) End (Some 1) 0 0 ∷ []) 2 0 End false

abbrev pub s4 : State
s4 = st (seg 0 (At []) (At k1) (At k2) (Some 0) 1 1 ∷ seg 1 (At k2) (At k2) (At k3) (Some 1) 0 0 ∷ seg 2 (At k3) (At k3) End (Some 2) 0 0 ∷ []) 3 0 End false

abbrev pub s5 : State
s5 = st (seg 0 (At []) (At k1) (At k2) (Some 0) 1 1 ∷ seg 1 (At k2) (At k3) (At k3) None 0 1 ∷ []) 3 0 (At k3) true

abbrev pub s6 : State
s6 = st (seg 0 (At []) (At k1) (At k2) None 1 1 ∷ seg 1 (At k2) (At k3) (At k3) None 0 1 ∷ []) 3 0 (At k3) true

abbrev pub s7 : State
s7 = st (seg 0 (At []) (At k1) (At k2) (Some 3) 1 1 ∷ seg 1 (At k2) (At k3) (At k3) None 0 1 ∷ []) 3 0 (At k3) true

abbrev pub s8 : State
s8 = st (seg 0 (At []) (At k2) (At k2) None 1 2 ∷ seg 1 (At k2) (At k3) (At k3) None 0 1 ∷ []) 3 0 (At k3) true

abbrev pub s9 : State
s9 = st (seg 1 (At k2) (At k3) (At k3) None 0 1 ∷ []) 3 2 (At k3) true

abbrev pub events : List Event
events = Take 0 0 ∷ Take 1 1 ∷ Report 0 0 (At k1) 1 1 false ∷ Steal 2 1 k3 2 ∷ Report 1 1 (At k3) 0 1 true ∷ Look 9 ∷ GiveUp 0 0 ∷ Take 3 0 ∷ Report 3 0 (At k2) 0 1 false ∷ Drain 1 ∷ StopAt k3 ∷ []

abbrev pub two : List (Entry ℕ)
two = record { key = k1; mark = Valid 7 } ∷ record { key = k4; mark = Invalid } ∷ []

-- an event with its reply and the state after it
pub record Line : Type 0 where
  pub event : Event
  pub reply : Reply
  pub state : State

abbrev pub Follow : State → List Line → Type 0
Follow s [] = Unit {0}
Follow s (l ∷ ls) = Step s l.event l.reply l.state × Follow l.state ls

abbrev pub line : Event → Reply → State → Line
line e r s = record { event = e; reply = r; state = s }

abbrev pub lines : List Line
lines =
    line (Take 0 0) (Leased (lease 0 0 [] (At k2))) s1
    ∷ line (Take 1 1) (Leased (lease 1 1 k2 End)) s2
    ∷ line (Report 0 0 (At k1) 1 1 false) (Go (lease 0 0 k1 (At k2))) s3
    ∷ line (Steal 2 1 k3 2) (Leased (lease 2 2 k3 End)) s4
    ∷ line (Report 1 1 (At k3) 0 1 true) Done s5
    ∷ line (Look 9) Noted s5
    ∷ line (GiveUp 0 0) Noted s6
    ∷ line (Take 3 0) (Leased (lease 3 0 k1 (At k2))) s7
    ∷ line (Report 3 0 (At k2) 0 1 false) Done s8
    ∷ line (Drain 1) Noted s9
    ∷ line (StopAt k3) Noted s9
    ∷ []

abbrev pub last_two : State
last_two = st (seg 0 (At []) End End None 0 2 ∷ []) 1 0 End false

pub record WorkedRun : Type 0 where
  pub inside : AreInside cuts span
  pub begins : s0 ≡ opening span cuts
  pub ascends : Ascends entries
  pub follow : Follow s0 lines
  pub honest : HonestRuns entries s0 events s9
  pub replayed : replay s0 events ≡ Some s9
  pub closed : AllClosed s9
  pub listed : entries_in (At []) (At k3) entries ≡ record { key = k1; mark = Valid 7 } ∷ record { key = k2; mark = Invalid } ∷ record { key = k3; mark = Spent } ∷ []
  pub drained_one : drained events ≡ 1
  -- who holds a segment: who took it last, who stole it, the victim still, nobody once it is given up
  pub taken_again : holder_of 0 None events ≡ Some 3
  pub stolen_by : holder_of 2 None events ≡ Some 2
  pub stolen_from : holder_of 1 None events ≡ Some 1
  pub given_up : holder_of 0 None (take 7 events) ≡ None
  -- where they end after the theft: one that nobody touched, the victim, the rest
  pub untouched_end : ends_of (opening_end span cuts) (take 4 events) 0 ≡ At k2
  pub lowered_end : ends_of (opening_end span cuts) (take 4 events) 1 ≡ At k3
  pub rest_end : ends_of (opening_end span cuts) (take 4 events) 2 ≡ End
  -- and where a spent candidate ends one
  pub spent_end : ends_of (opening_end span []) (Take 0 0 ∷ Report 0 0 (At k3) 1 3 true ∷ []) 0 ≡ At k3
  -- a report past a bound that a thief lowered, one by a seat that isn't the owner, a taking of what is taken, a theft from a
  -- closed segment, and a drain of fewer rows fit nowhere
  pub past_a_lowered_bound : fits s4 (Report 1 1 End 0 1 false) ≡ false
  pub not_the_owner : fits s4 (Report 2 1 (At k3) 0 1 true) ≡ false
  pub taken_already : fits s1 (Take 5 0) ≡ false
  pub theft_from_closed : fits s5 (Steal 7 1 k3 3) ≡ false
  pub fewer_rows : fits s8 (Drain 0) ≡ false
  -- a whole listing by one seat, to the end of all
  pub whole : HonestRuns two (opening span []) (Take 4 0 ∷ Report 4 0 End 1 2 false ∷ Drain 1 ∷ []) last_two
