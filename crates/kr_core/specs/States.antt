-- To be believed: the machine's state, and the words for its segments.
use Rattle.std.specs.Prelude.{ℕ, suc, ◌-◌, ◌^◌, List, [], ◌∷◌, Bool, true, false, ◌&&◌, not, ◌==◌, if◌then◌else◌, Option, Some, None, min}
use Rattle.kr_base.specs.declared.span.Bound.{Bound}
use Rattle.kr_base.specs.declared.span.Bound.TheVariants.{At, End}
use Rattle.kr_base.specs.Bounds.{less}
use Rattle.kr_core.specs.declared.segment.Segment.{Segment}

-- The segments in the order of candidates; how many were made; the candidates tried in those that are gone; where the
-- last one ends, and whether it ends there because a candidate was spent.
pub record State : Type 0 where
  pub segments : List Segment
  pub next : ℕ
  pub past : ℕ
  pub end : Bound
  pub spent : Bool

abbrev pub has_remainder : Segment → Bool
has_remainder s = less s.mark s.upto

abbrev pub is_owned : Option ℕ → Bool
is_owned None = false
is_owned (Some seat) = true

abbrev pub is_owned_by : ℕ → Option ℕ → Bool
is_owned_by seat None = false
is_owned_by seat (Some other) = other == seat

-- neither owner nor remainder
abbrev pub is_closed : Segment → Bool
is_closed s = not (is_owned s.owner) && not (has_remainder s)

-- the segment of that number
abbrev pub segment_of : ℕ → List Segment → Option Segment
segment_of n [] = None
segment_of n (s ∷ ss) = if s.number == n then Some s else segment_of n ss

-- where it is
abbrev pub place_of : ℕ → List Segment → ℕ
place_of n [] = 0
place_of n (s ∷ ss) = if s.number == n then 0 else suc (place_of n ss)

-- at the segment of that number, what the change makes of it and of those after it
abbrev pub change : ℕ → (Segment → List Segment → List Segment) → List Segment → List Segment
change n f [] = []
change n f (s ∷ ss) = if s.number == n then f s ss else s ∷ change n f ss

-- of each segment
abbrev pub Each : (Segment → Type 0) → List Segment → Type 0
Each P [] = Unit {0}
Each P (s ∷ ss) = P s × Each P ss
