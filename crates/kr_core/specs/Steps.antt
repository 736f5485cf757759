-- To be believed: the steps of the machine: of each event, where it fits, the new state and the reply.
use Rattle.std.specs.Prelude.{ℕ, ◌+◌, ◌-◌, ◌^◌, ◌≡◌, List, [], ◌∷◌, Bool, true, false, ◌&&◌, ◌||◌, not, ◌==◌, nat_lt, nat_le, if◌then◌else◌, Option, Some, None, length}
use Rattle.std.specs.List.{sum_by}
use Rattle.std.specs.Option.{option_map}
use Rattle.kr_base.specs.declared.span.Bound.{Bound}
use Rattle.kr_base.specs.declared.span.Bound.TheVariants.{At}
use Rattle.kr_base.specs.Bounds.{less, is_cut, is_same}
use Rattle.kr_core.specs.declared.segment.Segment.{Segment}
use Rattle.kr_core.specs.declared.event.Event.{Event}
use Rattle.kr_core.specs.declared.event.Event.TheVariants.{Take, Steal, Report, GiveUp, Drain, StopAt, Look}
use Rattle.kr_core.specs.declared.event.Lease.{Lease}
use Rattle.kr_core.specs.declared.event.Reply.{Reply}
use Rattle.kr_core.specs.declared.event.Reply.TheVariants.{Lease as Leased, Go, Done, Noted}
use Rattle.kr_base.specs.Causes.{capped}
use Rattle.kr_core.specs.States.{State, has_remainder, is_owned, is_owned_by, is_closed, segment_of, change}

-- Take

abbrev pub may_take : Option Segment → Bool
may_take None = false
may_take (Some s) = has_remainder s && not (is_owned s.owner)

abbrev pub owned : Option ℕ → Segment → Segment
owned owner s = record s { owner = owner }

-- Steal

abbrev pub may_steal : List ℕ → Option Segment → Bool
may_steal cut None = false
may_steal cut (Some s) = is_owned s.owner && (less s.mark (At cut) && less (At cut) s.upto)

-- what the victim keeps
abbrev pub lowered : List ℕ → Segment → Segment
lowered cut s = record s { upto = At cut }

-- the rest, for the seat
abbrev pub stolen : ℕ → List ℕ → ℕ → Segment → Segment
stolen seat cut n s = record { number = n; after = At cut; mark = At cut; upto = s.upto; owner = Some seat; rows = 0; tried = 0 }

-- Report

abbrev pub may_report : ℕ → Bound → ℕ → ℕ → Bool → Option Segment → Bool
may_report seat reach rows tried spent None = false
may_report seat reach rows tried spent (Some s) =
    is_owned_by seat s.owner && (less s.mark reach && (not (less s.upto reach)
    && (if spent then is_cut reach && nat_lt rows tried else nat_le rows tried)))

-- scanned up to the reach; a spent candidate ends the segment there
abbrev pub scanned : Bound → ℕ → ℕ → Bool → Segment → Segment
scanned reach rows tried spent s = record {
  number = s.number;
  after = s.after;
  mark = reach;
  upto = if spent then reach else s.upto;
  owner = if spent || not (less reach s.upto) then None else s.owner;
  rows = capped (s.rows + rows);
  tried = capped (s.tried + tried);
}

-- GiveUp

abbrev pub may_give_up : ℕ → Option Segment → Bool
may_give_up seat None = false
may_give_up seat (Some s) = is_owned_by seat s.owner

-- Drain

-- the segments up to and with the first that isn't closed
abbrev pub front : List Segment → List Segment
front [] = []
front (s ∷ ss) = s ∷ (if is_closed s then front ss else [])

-- the closed ones of the front, but not the list's last
abbrev pub gone : List Segment → List Segment
gone [] = []
gone (s ∷ []) = []
gone (s ∷ t ∷ ss) = if is_closed s then s ∷ gone (t ∷ ss) else []

-- the others, the first of them without rows
abbrev pub left : List Segment → List Segment
left [] = []
left (s ∷ []) = record s { rows = 0 } ∷ []
left (s ∷ t ∷ ss) = if is_closed s then left (t ∷ ss) else record s { rows = 0 } ∷ (t ∷ ss)

-- StopAt

abbrev pub may_stop : List ℕ → List Segment → Bool
may_stop mark [] = false
may_stop mark (s ∷ ss) = is_same s.mark (At mark)

abbrev pub stopped : List ℕ → List Segment → List Segment
stopped mark [] = []
stopped mark (s ∷ ss) = record s { upto = At mark; owner = None } ∷ []

-- Replies

-- the lease of a segment as it is, whose mark is a cut
abbrev pub IsLease : ℕ → Option Segment → Lease → Type 0
IsLease seat None lease = ⊥
IsLease seat (Some s) lease = (lease.seat ≡ seat) × (lease.segment ≡ s.number) × (At lease.mark ≡ s.mark) × (lease.upto ≡ s.upto)

abbrev pub IsLeased : ℕ → Option Segment → Reply → Type 0
IsLeased seat segment (Leased lease) = IsLease seat segment lease
IsLeased seat segment (Go lease) = ⊥
IsLeased seat segment Done = ⊥
IsLeased seat segment Noted = ⊥

abbrev pub keeps_owner : Option Segment → Bool
keeps_owner None = false
keeps_owner (Some s) = is_owned s.owner

-- go on with the lease where the segment keeps its owner, else it is done
abbrev pub IsReported : ℕ → Option Segment → Reply → Type 0
IsReported seat segment (Leased lease) = ⊥
IsReported seat segment (Go lease) = IsLease seat segment lease × (keeps_owner segment ≡ true)
IsReported seat segment Done = keeps_owner segment ≡ false
IsReported seat segment Noted = ⊥

-- Events

-- whether an event fits
abbrev pub fits : State → Event → Bool
-- the segment has a remainder and no owner
fits old (Take seat n) = may_take (segment_of n old.segments)
-- the victim has an owner, the cut is above its mark and below its upto, and the number is the next one and below the
-- last of 64 bits
fits old (Steal seat victim cut n) = may_steal cut (segment_of victim old.segments) && ((n == old.next) && nat_lt n (2 ^ 64 - 1))
-- the seat owns the segment, the reach is above its mark and not above its upto, there are no more rows than tried, and
-- where a candidate was spent it is a cut and that one gave no row
fits old (Report seat n reach rows tried spent) = may_report seat reach rows tried spent (segment_of n old.segments)
-- the seat owns the segment
fits old (GiveUp seat n) = may_give_up seat (segment_of n old.segments)
-- the rows are those of the front
fits old (Drain rows) = rows == capped (sum_by (λ s. s.rows) (front old.segments))
-- the mark of the first segment is this cut
fits old (StopAt mark) = may_stop mark old.segments
-- always
fits old (Look seat) = true

-- the state after an event that fits
abbrev pub after : State → Event → State
-- the segment's owner is the seat
after old (Take seat n) = record old { segments = change n (λ s ss. owned (Some seat) s ∷ ss) old.segments }
-- the victim ends at the cut, and the rest is directly after it
after old (Steal seat victim cut n) = record old { segments = change victim (λ s ss. lowered cut s ∷ (stolen seat cut n s ∷ ss)) old.segments; next = old.next + 1 }
-- the mark moves to the reach and the counts grow; the segment has no owner where that is its end; a spent candidate ends
-- the listing there
after old (Report seat n reach rows tried spent) = record old {
  segments = change n (λ s ss. scanned reach rows tried spent s ∷ (if spent then [] else ss)) old.segments;
  end = if spent then reach else old.end;
  spent = spent || old.spent;
}
-- the segment has no owner
after old (GiveUp seat n) = record old { segments = change n (λ s ss. owned None s ∷ ss) old.segments }
-- the front's rows are taken out, and its closed segments go with what they tried, but the last stays
after old (Drain rows) = record old { segments = left old.segments; past = capped (old.past + sum_by (λ s. s.tried) (gone old.segments)) }
-- all ends there, and the segment has no owner; nothing is spent then, but the flag stays as it was where this is the only
-- segment
after old (StopAt mark) = record old { segments = stopped mark old.segments; end = At mark; spent = (length old.segments == 1) && old.spent }
-- nothing changes
after old (Look seat) = old

-- what is answered, where the new state is this
abbrev pub IsReply : State → Event → Reply → State → Type 0
-- the lease of the segment as it then is
IsReply old (Take seat n) reply new = IsLeased seat (segment_of n new.segments) reply
-- the lease of the rest
IsReply old (Steal seat victim cut n) reply new = IsLeased seat (option_map (stolen seat cut n) (segment_of victim old.segments)) reply
IsReply old (Report seat n reach rows tried spent) reply new = IsReported seat (segment_of n new.segments) reply
IsReply old (GiveUp seat n) reply new = reply ≡ Noted
IsReply old (Drain rows) reply new = reply ≡ Noted
IsReply old (StopAt mark) reply new = reply ≡ Noted
IsReply old (Look seat) reply new = reply ≡ Noted

-- The relation: the event fits, the state is the one after it, and this is answered.
pub record Case (fits : Bool) (new state : State) (replies : Type 0) : Type 0 where
  pub fit : fits ≡ true
  pub new_is : new ≡ state
  pub reply_is : replies

abbrev pub Step : State → Event → Reply → State → Type 0
Step old event reply new = Case (fits old event) new (after old event) (IsReply old event reply new)

-- the state to which events lead, one after another, where each fits
abbrev pub replay : State → List Event → Option State
replay s [] = Some s
replay s (event ∷ events) = if fits s event then replay (after s event) events else None
