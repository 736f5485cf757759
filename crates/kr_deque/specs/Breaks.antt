-- To be believed: where spans fail to make up the asked one: a gap, or a double.
use Rattle.std.specs.Prelude.{◌≡◌, ℕ, ◌==◌, List, Bool, true, false, ◌&&◌, ◌||◌, not, nat_lt}
use Rattle.kr_base.specs.declared.span.Bound.{Bound}
use Rattle.kr_base.specs.declared.span.Bound.TheVariants.{At}
use Rattle.kr_base.specs.declared.span.Span.{Span}
use Rattle.kr_base.specs.Bounds.{is_same, less}
use Rattle.kr_deque.specs.declared.joining.JoinRefusal.{JoinRefusal}
use Rattle.kr_deque.specs.declared.joining.JoinRefusal.TheVariants.{Gap, Double, NoMemory}
use Rattle.kr_survey.specs.Spans.{how_many}

abbrev pub begins_at : List ℕ → Span → Bool
begins_at c s = is_same (At s.after) (At c)

abbrev pub ends_at : List ℕ → Span → Bool
ends_at c s = is_same s.upto (At c)

-- it begins there or before, and ends after
abbrev pub goes_over : List ℕ → Span → Bool
goes_over c s = not (less (At c) (At s.after)) && less (At c) s.upto

-- a cut below the asked end that is the asked start or the end of a span, and nothing begins there
abbrev pub is_gap : Span → List Span → List ℕ → Bool
is_gap asked spans c = less (At c) asked.upto && ((is_same (At asked.after) (At c) || nat_lt 0 (how_many (ends_at c) spans)) && (how_many (begins_at c) spans == 0))

-- a span that begins at the cut is wrong: it begins before the asked one, ends past it, or begins inside another one
abbrev pub is_wrong : Span → List Span → List ℕ → Span → Bool
is_wrong asked spans c s = begins_at c s && (less (At c) (At asked.after) || (less asked.upto s.upto || nat_lt 1 (how_many (goes_over c) spans)))

abbrev pub is_double : Span → List Span → List ℕ → Bool
is_double asked spans c = nat_lt 0 (how_many (is_wrong asked spans c) spans)

abbrev pub is_break : Span → List Span → List ℕ → Bool
is_break asked spans c = is_gap asked spans c || is_double asked spans c

-- no break is before the cut
abbrev pub NoneBefore : Span → List Span → List ℕ → Type 0
NoneBefore asked spans c = (d : List ℕ) → less (At d) (At c) ≡ true → is_break asked spans d ≡ false

-- a gap or a double is there, the first break
abbrev pub Refuses : Span → List Span → JoinRefusal → Type 0
Refuses asked spans (Gap c) = (is_gap asked spans c ≡ true) × NoneBefore asked spans c
Refuses asked spans (Double c) = (is_double asked spans c ≡ true) × NoneBefore asked spans c
Refuses asked spans (NoMemory why) = Unit {0}

abbrev pub NoBreak : Span → List Span → Type 0
NoBreak asked spans = (c : List ℕ) → is_break asked spans c ≡ false
