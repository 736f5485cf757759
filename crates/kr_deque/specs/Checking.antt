-- Between crates: spans in order, checked one after another.
use Rattle.std.specs.Prelude.{◌≡◌, ◌⊎◌, ℕ, List, true, false, Result, Ok, Err}
use Rattle.kr_base.specs.declared.span.Bound.{Bound}
use Rattle.kr_base.specs.declared.span.Bound.TheVariants.{At}
use Rattle.kr_base.specs.declared.span.Span.{Span}
use Rattle.kr_base.specs.Bounds.{less}
use Rattle.kr_deque.specs.declared.joining.JoinRefusal.{JoinRefusal}
use Rattle.kr_deque.specs.declared.joining.JoinRefusal.TheVariants.{Gap, Double, NoMemory}
use Rattle.kr_survey.specs.Spans.{Adjoins}
use Rattle.kr_deque.specs.Breaks.{Refuses}

-- after a bound, not above the asked end, the next span begins there and ends at the asked end or before; or it leaves a
-- gap; or it begins before the bound or ends past the asked end
abbrev pub Follows : Span → Bound → Span → Result (Unit {0}) JoinRefusal → Type 0
Follows asked at next (Ok none) = (At next.after ≡ at) × (less asked.upto next.upto ≡ false)
Follows asked at next (Err (Gap c)) = (at ≡ At c) × (less at (At next.after) ≡ true) × (less at asked.upto ≡ true)
Follows asked at next (Err (Double c)) =
    (c ≡ next.after) × ((less (At c) at ≡ true) ⊎ ((less asked.upto next.upto ≡ true) × ((at ≡ At c) ⊎ (less at asked.upto ≡ false))))
Follows asked at next (Err (NoMemory why)) = Unit {0}

-- after the last span: the asked end, or a gap
abbrev pub Ends : Span → Bound → Result (Unit {0}) JoinRefusal → Type 0
Ends asked at (Ok none) = at ≡ asked.upto
Ends asked at (Err (Gap c)) = (at ≡ At c) × (less at asked.upto ≡ true)
Ends asked at (Err (Double c)) = ⊥
Ends asked at (Err (NoMemory why)) = Unit {0}

-- spans in order adjoin from the asked start to the asked end, or this is their first break
abbrev pub Checks : Span → List Span → Result (Unit {0}) JoinRefusal → Type 0
Checks asked spans (Ok none) = Adjoins (At asked.after) spans asked.upto
Checks asked spans (Err refusal) = Refuses asked spans refusal
