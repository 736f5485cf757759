-- What was scanned may be reported.
use Rattle.std.proofs.Common.{◌≡◌, ℕ, ◌+◌, ◌<◌, ◌≤◌, ◌^◌, List, [], ◌∷◌, true, Result, Ok, Err, IfOk, length, take, zero, suc, Bool, false, cond, refl, sym, ap, subst, arith, length-append, length-take}
use Rattle.std.specs.Prelude.{◌==◌, ◌||◌}
use Rattle.kr_base.specs.declared.span.Bound.{Bound}
use Rattle.kr_base.specs.declared.span.Bound.TheVariants.{At}
use Rattle.kr_base.specs.declared.entry.Entry.{Entry}
use Rattle.kr_base.specs.Bounds.{less}
use Rattle.kr_base.specs.Entries.{Ascends, entries_in, is_spent, is_within, through_spent, within}
use Rattle.kr_survey.specs.declared.part.Part.{Part}
use Rattle.kr_survey.specs.Scans.{IsScan, any_spent, last_key, reached, row_of, rows_of, walked}
use Rattle.kr_board.specs.Parts.{IsPart, PartLaw}
use Rattle.kr_board.proofs.Parting.{row-few}
use Rattle.kr_core.specs.declared.event.Lease.{Lease}
use Rattle.kr_pool_desk.specs.Costs.{cost}
use Rattle.kr_pool_desk.specs.Short.{AreShortKeys, IsShortBound}

pub scanned : {R E : Type 0} (all : List (Entry R)) (after : List ℕ) (upto : Bound) (most : ℕ) (r : Result (Part R) E) → PartLaw R → Ascends all → less (At after) upto ≡ true → 0 < most → most < 2 ^ 32
    → IfOk r (IsScan all after upto most) → IfOk r (IsPart all after)
scanned all after upto most (Ok part) law asc ahead some fits h = (law all after part).from_scan upto most asc ahead some fits h
scanned all after upto most (Err e) law asc ahead some fits h = tt

-- no more rows than entries walked

rows-few : {R : Type 0} (es : List (Entry R)) → length (rows_of es) ≤ length es
rows-few [] = omega arith
rows-few (e ∷ es) = let a = row-few e.mark in let b = length-append (row_of e.mark) (rows_of es) in let c = rows-few es in omega (arith, a, b, c)

taken-few : {A : Type 0} (n : ℕ) (xs : List A) → length (take n xs) ≤ n
taken-few n xs = let h = length-take n xs in omega (arith, h)

pub scanned_few : {R E : Type 0} (all : List (Entry R)) (after : List ℕ) (upto : Bound) (most : ℕ) (r : Result (Part R) E) → IfOk r (IsScan all after upto most) → IfOk r (λ part. length part.rows ≤ most)
scanned_few {R} all after upto most (Ok part) h =
    let a = ap (λ (l : List R). length l) h.rows in
    let b = rows-few (walked all after upto most) in
    let c = taken-few most (entries_in (At after) upto all) in
    omega (arith, a, b, c)
scanned_few all after upto most (Err e) h = tt

-- the runs of a scan, as its part accounts for them
pub scanned_runs : {R E : Type 0} (lease : Lease) (before now : ℕ) (r : Result (Part R) E) → IfOk r (λ part. now ≤ before + part.tried + length lease.mark + 3) → IfOk r (λ part. now ≤ before + cost lease part)
scanned_runs lease before now (Ok part) h = omega (arith, h)
scanned_runs lease before now (Err e) h = tt

-- a scan reaches a key, or the end of its span

short-within : {R : Type 0} (a b : Bound) (es : List (Entry R)) → AreShortKeys es → AreShortKeys (within a b es)
short-within a b [] h = tt
short-within {R} a b (e ∷ es) h = elim (is_within a b e.key) as (λ t. AreShortKeys (cond t (e ∷ within a b es) (within a b es))) [ true ↦ (h.0, short-within a b es h.1) | false ↦ short-within a b es h.1 ]

short-through : {R : Type 0} (es : List (Entry R)) → AreShortKeys es → AreShortKeys (through_spent es)
short-through [] h = tt
short-through {R} (e ∷ es) h = elim (is_spent e.mark) as (λ t. AreShortKeys (e ∷ cond t [] (through_spent es))) [ true ↦ (h.0, tt) | false ↦ (h.0, short-through es h.1) ]

short-taken : {R : Type 0} (n : ℕ) (es : List (Entry R)) → AreShortKeys es → AreShortKeys (take n es)
short-taken zero es h = tt
short-taken (suc n) [] h = tt
short-taken (suc n) (e ∷ es) h = (h.0, short-taken n es h.1)

short-last : {R : Type 0} (b : Bound) (es : List (Entry R)) → IsShortBound b → AreShortKeys es → IsShortBound (last_key b es)
short-last b [] h k = h
short-last b (e ∷ es) h k = short-last (At e.key) es k.0 k.1

short-reached : {R : Type 0} (upto : Bound) (most : ℕ) (es : List (Entry R)) → IsShortBound upto → AreShortKeys es → IsShortBound (reached upto most es)
short-reached {R} upto most es h k = elim (any_spent es || (length es == most)) as (λ t. IsShortBound (cond t (last_key upto es) upto)) [ true ↦ short-last upto es h k | false ↦ h ]

pub scanned_short : {R E : Type 0} (all : List (Entry R)) (after : List ℕ) (upto : Bound) (most : ℕ) (r : Result (Part R) E) → IfOk r (IsScan all after upto most)
    → IfOk r (λ part. AreShortKeys all → IsShortBound upto → IsShortBound part.reach)
scanned_short {R} all after upto most (Ok part) h =
    λ keys bound. subst IsShortBound (sym h.reach) (short-reached upto most (walked all after upto most) bound (short-taken most (entries_in (At after) upto all) (short-through (within (At after) upto all) (short-within (At after) upto all keys))))
scanned_short all after upto most (Err e) h = tt
