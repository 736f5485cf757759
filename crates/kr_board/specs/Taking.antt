-- Between crates: what a seat that wants work is given.
use Rattle.std.specs.Prelude.{◌≡◌, ℕ, ◌-◌, ◌^◌, List, [], Bool, true, ◌&&◌, not, nat_lt, Option, Some, None, is_some, unwrap_or, if◌then◌else◌}
use Rattle.std.specs.List.{find, list_any}
use Rattle.kr_base.specs.declared.span.Bound.{Bound}
use Rattle.kr_base.specs.declared.span.Bound.TheVariants.{At, End}
use Rattle.kr_base.specs.Inside.{inside_of}
use Rattle.kr_core.specs.declared.segment.Segment.{Segment}
use Rattle.kr_core.specs.declared.event.Event.{Event}
use Rattle.kr_core.specs.declared.event.Event.TheVariants.{Take, Steal, Look}
use Rattle.kr_core.specs.declared.event.Reply.{Reply}
use Rattle.kr_core.specs.declared.event.Reply.TheVariants.{Lease as Leased, Noted}
use Rattle.kr_core.specs.States.{State, has_remainder, is_owned}
use Rattle.kr_board.specs.declared.board.taking.Taken.{Taken}
use Rattle.kr_board.specs.declared.board.taking.Taken.TheVariants.{Lease, Later, Finished}

-- it has a remainder and no owner
abbrev pub is_free : Segment → Bool
is_free s = has_remainder s && not (is_owned s.owner)

-- the cut of a mark, if it is one, below a bound
abbrev pub inside_bound : Bound → Bound → Option (List ℕ)
inside_bound (At mark) upto = inside_of mark upto
inside_bound End upto = None

-- where an owned segment may be stolen from
abbrev pub theft_of : Segment → Option (List ℕ)
theft_of s = if is_owned s.owner then inside_bound s.mark s.upto else None

abbrev pub first_free : State → Option Segment
first_free s = find is_free s.segments

-- while fewer than the last number of segments were made
abbrev pub first_victim : State → Option Segment
first_victim s = if nat_lt s.next (2 ^ 64 - 1) then find (λ g. is_some (theft_of g)) s.segments else None

-- the first free segment is taken; where there is none, the first one with a cut is stolen from; else there is nothing to do
abbrev pub grant : ℕ → ℕ → Option Segment → Option Segment → Event
grant seat next (Some g) victim = Take seat g.number
grant seat next None (Some g) = Steal seat g.number (unwrap_or (theft_of g) []) next
grant seat next None None = Look seat

abbrev pub take_event : ℕ → State → Event
take_event seat s = grant seat s.next (first_free s) (first_victim s)

abbrev pub any_owned : State → Bool
any_owned s = list_any (λ g. is_owned g.owner) s.segments

-- nothing can be given now, but a seat is at work
pub record IsLater (s : State) : Type 0 where
  pub none_free : first_free s ≡ None
  pub no_victim : first_victim s ≡ None
  pub at_work : any_owned s ≡ true

-- what the machine said
abbrev pub reply_of : Taken → Reply
reply_of (Lease lease) = Leased lease
reply_of Later = Noted
reply_of Finished = Noted
