-- Between crates: leases: who holds a segment and up to where, told by the log alone, and what a lease says of the segment that
-- it is of.
use Rattle.std.specs.Prelude.{ℕ, ◌≡◌, ◌≢◌, List, [], ◌∷◌, Bool, true, false, ◌&&◌, ◌==◌, nat_lt, nat_le, if◌then◌else◌, Option, Some, None}
use Rattle.kr_base.specs.declared.span.Bound.{Bound}
use Rattle.kr_base.specs.declared.span.Bound.TheVariants.{At, End}
use Rattle.kr_base.specs.declared.span.Span.{Span}
use Rattle.kr_base.specs.Bounds.{less, is_cut}
use Rattle.kr_core.specs.declared.segment.Segment.{Segment}
use Rattle.kr_core.specs.declared.event.Event.{Event}
use Rattle.kr_core.specs.declared.event.Event.TheVariants.{Take, Steal, Report, GiveUp, Drain, StopAt, Look}
use Rattle.kr_core.specs.declared.event.Lease.{Lease}
use Rattle.kr_core.specs.declared.event.Reply.{Reply}
use Rattle.kr_core.specs.declared.event.Reply.TheVariants.{Lease as Leased, Go, Done, Noted}
use Rattle.kr_core.specs.States.{State, has_remainder, segment_of, Each}
use Rattle.kr_core.specs.Openings.{AreInside, opening}
use Rattle.kr_core.specs.Steps.{Step, fits}
use Rattle.kr_core.specs.Kept.{Runs}

-- by an event, who a segment was given to last, and didn't give it up
abbrev pub holder_after : ℕ → Option ℕ → Event → Option ℕ
holder_after m holder (Take seat n) = if n == m then Some seat else holder
holder_after m holder (Steal seat victim cut n) = if n == m then Some seat else holder
holder_after m holder (Report seat n reach rows tried spent) = holder
holder_after m holder (GiveUp seat n) = if n == m then None else holder
holder_after m holder (Drain rows) = holder
holder_after m holder (StopAt mark) = holder
holder_after m holder (Look seat) = holder

-- by events, the latest last
abbrev pub holder_of : ℕ → Option ℕ → List Event → Option ℕ
holder_of m holder [] = holder
holder_of m holder (event ∷ events) = holder_of m (holder_after m holder event) events

-- by an event, where segments end that ended there before: the rest of a theft ends where its victim did, and the victim at
-- the cut; a spent candidate and a stop end a segment at their bound
abbrev pub ends_after : (ℕ → Bound) → Event → ℕ → Bound
ends_after ends (Take seat n) m = ends m
ends_after ends (Steal seat victim cut n) m = if n == m then ends victim else (if victim == m then At cut else ends m)
ends_after ends (Report seat n reach rows tried spent) m = if spent && (n == m) then reach else ends m
ends_after ends (GiveUp seat n) m = ends m
ends_after ends (Drain rows) m = ends m
ends_after ends (StopAt mark) m = At mark
ends_after ends (Look seat) m = ends m

abbrev pub ends_of : (ℕ → Bound) → List Event → ℕ → Bound
ends_of ends [] m = ends m
ends_of ends (event ∷ events) m = ends_of (ends_after ends event) events m

abbrev pub upto_of : Option Segment → Bound
upto_of None = End
upto_of (Some s) = s.upto

-- where a segment ends that a span and its cuts begin with
abbrev pub opening_end : Span → List (List ℕ) → ℕ → Bound
opening_end span cuts m = upto_of (segment_of m (opening span cuts).segments)

-- the owner of a segment is who it was given to last and didn't give it up, as long as something is left of it; and it ends
-- where the log says
pub record IsToldBy (span : Span) (cuts : List (List ℕ)) (events : List Event) (g : Segment) : Type 0 where
  pub owner : g.owner ≡ (if has_remainder g then holder_of g.number None events else None)
  pub upto : g.upto ≡ ends_of (opening_end span cuts) events g.number

abbrev pub OwnersLaw : Type 0
OwnersLaw = (span : Span) (cuts : List (List ℕ)) (events : List Event) (new : State) → AreInside cuts span →
    Runs (opening span cuts) events new → Each (IsToldBy span cuts events) new.segments

-- the lease is the seat's, of the segment of that number: the seat owns it, its mark and its upto are the lease's, and
-- something is left of it
pub record IsHeld (seat n : ℕ) (s : State) (lease : Lease) : Type 0 where
  pub seat_is : lease.seat ≡ seat
  pub number : lease.segment ≡ n
  pub segment : Segment
  pub found : segment_of n s.segments ≡ Some segment
  pub owner : segment.owner ≡ Some seat
  pub mark : segment.mark ≡ At lease.mark
  pub upto : segment.upto ≡ lease.upto
  pub remains : less (At lease.mark) lease.upto ≡ true

-- nobody owns the segment of that number, if there is one
abbrev pub IsFree : Option Segment → Type 0
IsFree None = Unit {0}
IsFree (Some s) = s.owner ≡ None

-- a seat that takes or steals is leased the segment
abbrev pub IsGranted : ℕ → ℕ → State → Reply → Type 0
IsGranted seat n new (Leased lease) = IsHeld seat n new lease
IsGranted seat n new (Go lease) = ⊥
IsGranted seat n new Done = ⊥
IsGranted seat n new Noted = ⊥

-- a seat that reports goes on from its reach under a lease, or nobody owns the segment then
abbrev pub GoesOn : ℕ → ℕ → Bound → State → Reply → Type 0
GoesOn seat n reach new (Leased lease) = ⊥
GoesOn seat n reach new (Go lease) = (At lease.mark ≡ reach) × IsHeld seat n new lease
GoesOn seat n reach new Done = IsFree (segment_of n new.segments)
GoesOn seat n reach new Noted = ⊥

-- what an event answers
abbrev pub Leases : Event → State → Reply → Type 0
Leases (Take seat n) new reply = IsGranted seat n new reply
Leases (Steal seat victim cut n) new reply = IsGranted seat n new reply
Leases (Report seat n reach rows tried spent) new reply = GoesOn seat n reach new reply
Leases (GiveUp seat n) new reply = (reply ≡ Noted) × IsFree (segment_of n new.segments)
Leases (Drain rows) new reply = reply ≡ Noted
Leases (StopAt mark) new reply = reply ≡ Noted
Leases (Look seat) new reply = reply ≡ Noted

-- after whatever events from an opening state, each one more
abbrev pub LeasesLaw : Type 0
LeasesLaw = (span : Span) (cuts : List (List ℕ)) (events : List Event) (old : State) (event : Event) (reply : Reply) (new : State) → AreInside cuts span →
    Runs (opening span cuts) events old → Step old event reply new → Leases event new reply

-- What a lease is worth: its seat may report from its mark on up to its upto, and may give the segment up; nobody else may,
-- and nobody may take it.
pub record IsExclusive (seat n : ℕ) (s : State) (lease : Lease) : Type 0 where
  pub reports : (reach : Bound) (rows tried : ℕ) (spent : Bool) → less (At lease.mark) reach ≡ true → less lease.upto reach ≡ false →
      (if spent then is_cut reach && nat_lt rows tried else nat_le rows tried) ≡ true → fits s (Report seat n reach rows tried spent) ≡ true
  pub gives_up : fits s (GiveUp seat n) ≡ true
  pub nobody_takes : (other : ℕ) → fits s (Take other n) ≡ false
  pub no_other_reports : (other : ℕ) (reach : Bound) (rows tried : ℕ) (spent : Bool) → other ≢ seat → fits s (Report other n reach rows tried spent) ≡ false
  pub no_other_gives_up : (other : ℕ) → other ≢ seat → fits s (GiveUp other n) ≡ false

abbrev pub ExclusiveLaw : Type 0
ExclusiveLaw = (seat n : ℕ) (s : State) (lease : Lease) → IsHeld seat n s lease → IsExclusive seat n s lease
