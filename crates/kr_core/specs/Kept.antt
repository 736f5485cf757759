-- Between crates: what every run of the machine keeps, whatever its events say.
use Rattle.std.specs.Prelude.{ℕ, ◌<◌, ◌≡◌, ◌≢◌, List, [], ◌∷◌, true, false}
use Rattle.kr_base.specs.declared.span.Bound.{Bound}
use Rattle.kr_base.specs.declared.span.Span.{Span}
use Rattle.kr_base.specs.Bounds.{less}
use Rattle.kr_core.specs.declared.segment.Segment.{Segment}
use Rattle.kr_core.specs.declared.event.Event.{Event}
use Rattle.kr_core.specs.declared.event.Reply.{Reply}
use Rattle.kr_core.specs.States.{State, has_remainder, is_owned, is_closed, Each}
use Rattle.kr_core.specs.Openings.{AreInside, opening}
use Rattle.kr_core.specs.Steps.{Step}

-- the events, one after another, are steps from one state to another
abbrev pub Runs : State → List Event → State → Type 0
Runs old [] new = new ≡ old
Runs old (event ∷ events) new = (reply : Reply) × (middle : State) × Step old event reply middle × Runs middle events new

abbrev pub NumbersDiffer : List Segment → Type 0
NumbersDiffer [] = Unit {0}
NumbersDiffer (s ∷ ss) = Each (λ t. t.number ≢ s.number) ss × NumbersDiffer ss

-- the first begins at a bound, each other where the one before it ends, and the last ends at another bound
abbrev pub Adjoin : Bound → List Segment → Bound → Type 0
Adjoin a [] b = a ≡ b
Adjoin a (s ∷ ss) b = (s.after ≡ a) × Adjoin s.upto ss b

-- where the first segment begins
abbrev pub first_after : Bound → List Segment → Bound
first_after end [] = end
first_after end (s ∷ ss) = s.after

abbrev pub beginning : State → Bound
beginning s = first_after s.end s.segments

abbrev pub IsLastClosed : List Segment → Type 0
IsLastClosed [] = ⊥
IsLastClosed (s ∷ []) = is_closed s ≡ true
IsLastClosed (s ∷ t ∷ ss) = IsLastClosed (t ∷ ss)

pub record IsKept (s : State) : Type 0 where
  pub some : s.segments ≢ []
  pub differ : NumbersDiffer s.segments
  pub numbered : Each (λ g. g.number < s.next) s.segments
  pub adjoin : Adjoin (beginning s) s.segments s.end
  pub after_to_mark : Each (λ g. less g.mark g.after ≡ false) s.segments
  pub mark_to_upto : Each (λ g. less g.upto g.mark ≡ false) s.segments
  pub owned_remains : Each (λ g. is_owned g.owner ≡ true → has_remainder g ≡ true) s.segments
  pub spent_closed : s.spent ≡ true → IsLastClosed s.segments

-- whatever events step, in any order, from the opening state of a span and cuts inside it
abbrev pub KeptLaw : Type 0
KeptLaw = (span : Span) (cuts : List (List ℕ)) (events : List Event) (new : State) → AreInside cuts span →
    Runs (opening span cuts) events new → IsKept new
