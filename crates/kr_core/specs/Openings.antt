-- To be believed: the state that a span and its cuts begin in.
use Rattle.std.specs.Prelude.{ℕ, ◌+◌, ◌≡◌, List, [], ◌∷◌, true, false, if◌then◌else◌, None, length}
use Rattle.kr_base.specs.declared.span.Bound.{Bound}
use Rattle.kr_base.specs.declared.span.Bound.TheVariants.{At}
use Rattle.kr_base.specs.declared.span.Span.{Span}
use Rattle.kr_base.specs.Bounds.{less}
use Rattle.kr_core.specs.declared.segment.Segment.{Segment}
use Rattle.kr_core.specs.States.{State}

-- the cuts ascend strictly from a bound on, and are below another
abbrev pub AscendBetween : Bound → List (List ℕ) → Bound → Type 0
AscendBetween a [] b = Unit {0}
AscendBetween a (cut ∷ cuts) b = (less a (At cut) ≡ true) × (less (At cut) b ≡ true) × AscendBetween (At cut) cuts b

-- the cuts ascend strictly and are strictly inside the span
abbrev pub AreInside : List (List ℕ) → Span → Type 0
AreInside cuts span = AscendBetween (At span.after) cuts span.upto

-- nothing was scanned, and nobody owns it
abbrev pub untouched : ℕ → Bound → Bound → Segment
untouched n after upto = record { number = n; after = after; mark = after; upto = upto; owner = None; rows = 0; tried = 0 }

-- segments from that number on, which adjoin at the cuts
abbrev pub segments_at : ℕ → Bound → List (List ℕ) → Bound → List Segment
segments_at n after [] end = untouched n after end ∷ []
segments_at n after (cut ∷ cuts) end = untouched n after (At cut) ∷ segments_at (n + 1) (At cut) cuts end

-- where a span ends: a span whose after is not below its upto ends where it begins
abbrev pub end_of : Span → Bound
end_of span = if less (At span.after) span.upto then span.upto else At span.after

abbrev pub opening : Span → List (List ℕ) → State
opening span cuts = record {
  segments = segments_at 0 (At span.after) cuts (end_of span);
  next = length cuts + 1;
  past = 0;
  end = end_of span;
  spent = false;
}
