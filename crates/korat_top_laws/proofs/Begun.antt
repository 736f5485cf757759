-- The state that a span begins in, cut for workers.
use Rattle.std.proofs.Common.{ℕ, zero, suc, ◌+◌, ◌-◌, ◌^◌, ◌<◌, ◌≤◌, List, [], ◌∷◌, true, false, length, arith}
use Rattle.std.specs.Prelude.{if◌then◌else◌}
use Rattle.std.specs.List.{AllByRecursion}
use Rattle.kr_base.specs.declared.span.Bound.{Bound}
use Rattle.kr_base.specs.declared.span.Bound.TheVariants.{At}
use Rattle.kr_base.specs.declared.span.Span.{Span}
use Rattle.kr_base.specs.Bounds.{less}
use Rattle.kr_core.specs.States.{Each}
use Rattle.kr_core.specs.Cutting.{cuts_for, cuts_from, first_level, is_inside}
use Rattle.kr_core.specs.Openings.{end_of, opening, segments_at}
use Rattle.kr_pool_desk.specs.Short.{IsShort, IsShortBound, IsShortSegment}
use Rattle.korat_top_laws.proofs.Shown.{AreNumbered, IsNumbered}

level_short : (k : ℕ) → k < 2 ^ 32 → IsShort (first_level k)
level_short k h = record { few = omega arith; small = (omega arith, (h, tt)) }

from_short : (span : Span) (k n : ℕ) → k + n ≤ 2 ^ 32 → AllByRecursion IsShort (cuts_from span k n)
from_short span k zero h = tt
from_short span k (suc n) h =
    elim (is_inside span (first_level k)) as (λ b. AllByRecursion IsShort (if b then first_level k ∷ cuts_from span (k + 1) n else cuts_from span (k + 1) n)) [
      | true ↦ (level_short k (omega (arith, h)), from_short span (k + 1) n (omega (arith, h)))
      | false ↦ from_short span (k + 1) n (omega (arith, h))
    ]

from_few : (span : Span) (k n : ℕ) → length (cuts_from span k n) ≤ n
from_few span k zero = omega arith
from_few span k (suc n) =
    let rest = from_few span (k + 1) n in
    elim (is_inside span (first_level k)) as (λ b. length (if b then first_level k ∷ cuts_from span (k + 1) n else cuts_from span (k + 1) n) ≤ suc n) [
      | true ↦ omega (arith, rest)
      | false ↦ omega (arith, rest)
    ]

at_short : (n : ℕ) (a e : Bound) (cuts : List (List ℕ)) → IsShortBound a → IsShortBound e → AllByRecursion IsShort cuts → Each IsShortSegment (segments_at n a cuts e)
at_short n a e [] h k l = ((h, k), tt)
at_short n a e (cut ∷ cuts) h k l = ((h, l.0), at_short (n + 1) (At cut) e cuts l.0 k l.1)

at_numbered : (n : ℕ) (a e : Bound) (cuts : List (List ℕ)) → n + length cuts < 2 ^ 64 → Each IsNumbered (segments_at n a cuts e)
at_numbered n a e [] h = (omega (arith, h), tt)
at_numbered n a e (cut ∷ cuts) h = (omega (arith, h), at_numbered (n + 1) (At cut) e cuts (omega (arith, h)))

end_short : (span : Span) → IsShort span.after → IsShortBound span.upto → IsShortBound (end_of span)
end_short span h k = elim (less (At span.after) span.upto) as (λ b. IsShortBound (if b then span.upto else At span.after)) [ true ↦ k | false ↦ h ]

pub opening_short : (span : Span) (workers : ℕ) → workers ≤ 2 ^ 32 → IsShort span.after → IsShortBound span.upto → Each IsShortSegment (opening span (cuts_for span workers)).segments
opening_short span workers few h k = at_short 0 (At span.after) (end_of span) (cuts_for span workers) h (end_short span h k) (few_cuts workers few)
  where
    few_cuts : (w : ℕ) → w ≤ 2 ^ 32 → AllByRecursion IsShort (cuts_for span w)
    few_cuts zero h = from_short span 1 (0 - 1) (omega arith)
    few_cuts (suc w) h = from_short span 1 (suc w - 1) (omega (arith, h))

pub opening_numbered : (span : Span) (workers : ℕ) → workers ≤ 2 ^ 32 → AreNumbered (opening span (cuts_for span workers))
opening_numbered span workers few =
    let most = from_few span 1 (workers - 1) in
    (at_numbered 0 (At span.after) (end_of span) (cuts_for span workers) (omega (arith, most, few)), omega (arith, most, few))
