-- How many rows are kept after a call.
use Rattle.std.proofs.Common.{◌≡◌, ℕ, ◌+◌, ◌≤◌, List, [], ◌∷◌, ◌++◌, Bool, true, false, cond, length, ap, arith, length-append, Option, Some, None}
use Rattle.std.specs.Prelude.{if◌then◌else◌, is_none}
use Rattle.kr_survey.specs.Joins.{joined}
use Rattle.kr_survey.specs.declared.part.Part.{Part}
use Rattle.kr_core.specs.declared.segment.Segment.{Segment}
use Rattle.kr_core.specs.declared.event.Event.{Event}
use Rattle.kr_core.specs.declared.event.Event.TheVariants.{Report, GiveUp, Drain, Look}
use Rattle.kr_core.specs.declared.event.Lease.{Lease}
use Rattle.kr_core.specs.declared.event.Reply.{Reply}
use Rattle.kr_core.specs.States.{State, is_closed}
use Rattle.kr_core.specs.Beside.{beside, fronts, emptied}
use Rattle.kr_board.specs.Held.{Held}
use Rattle.kr_board.specs.Boards.{Adds}
use Rattle.kr_board.specs.Closing.{front_rows}
use Rattle.kr_board.specs.Reporting.{refusal, report_event}
use Rattle.kr_board.specs.Taking.{first_free, first_victim, grant, take_event}
use Rattle.kr_board.proofs.Sound.{join, total-grown, total-parted}
use Rattle.kr_pool_desk.specs.Draining.{rows_kept}

kept-by : {R : Type 0} (old new : Held R) (event : Event) (reply : Reply) (more : List R) → Adds old event reply more new → rows_kept new ≡ length (joined (beside join [] old.core event more old.kept))
kept-by {R} old new event reply more adds = ap (λ (ks : List (List R)). length (joined ks)) adds.kept

-- a take

granted-kept : {R : Type 0} (seat next : ℕ) (f v : Option Segment) (s : State) (ks : List (List R)) → length (joined (beside join [] s (grant seat next f v) [] ks)) ≤ length (joined ks)
granted-kept seat next (Some g) v s ks = omega arith
granted-kept seat next None (Some g) s ks = total-parted g.number s.segments ks
granted-kept seat next None None s ks = omega arith

pub take-kept : {R : Type 0} (old new : Held R) (seat : ℕ) (reply : Reply) → Adds old (take_event seat old.core) reply [] new → rows_kept new ≤ rows_kept old
take-kept old new seat reply adds =
    let a = kept-by old new (take_event seat old.core) reply [] adds in
    let b = granted-kept seat old.core.next (first_free old.core) (first_victim old.core) old.core old.kept in
    omega (arith, a, b)

-- a report

report-beside : {R : Type 0} (b : Held R) (lease : Lease) (part : Part R) (full : Bool)
    → length (joined (beside join [] b.core (if full then Report lease.seat lease.segment part.reach (length part.rows) part.tried part.spent else Look lease.seat) part.rows b.kept)) ≤ length (joined b.kept) + length part.rows
report-beside b lease part true = total-grown lease.segment part.rows part.spent b.core.segments b.kept
report-beside b lease part false = omega arith

pub report-kept : {R : Type 0} (old new : Held R) (lease : Lease) (part : Part R) (reply : Reply) → Adds old (report_event old lease part) reply part.rows new → rows_kept new ≤ rows_kept old + length part.rows
report-kept old new lease part reply adds =
    let a = kept-by old new (report_event old lease part) reply part.rows adds in
    let b = report-beside old lease part (is_none (refusal old lease part)) in
    omega (arith, a, b)

-- a drain

front-and-rest : {R : Type 0} (ss : List Segment) (ks : List (List R)) → length (joined (emptied [] ss ks)) + length (joined (fronts ss ks)) ≤ length (joined ks)
front-and-rest [] ks = omega arith
front-and-rest (s ∷ ss) [] = omega arith
front-and-rest {R} (s ∷ []) (k ∷ ks) =
    let a = length-append k (joined ks) in
    let none : List R = [] in
    let b = length-append k none in
    elim (is_closed s) as (λ c. 0 + length (k ++ joined (if c then fronts [] ks else [])) ≤ length (k ++ joined ks)) [ true ↦ omega (arith, a, b) | false ↦ omega (arith, a, b) ]
front-and-rest {R} (s ∷ t ∷ ss) (k ∷ ks) =
    let a = length-append k (joined ks) in
    elim (is_closed s) as (λ c. length (joined (cond c (emptied [] (t ∷ ss) ks) ([] ∷ ks))) + length (k ++ joined (if c then fronts (t ∷ ss) ks else [])) ≤ length (k ++ joined ks)) [
      | true ↦ let b = front-and-rest (t ∷ ss) ks in let d = length-append k (joined (fronts (t ∷ ss) ks)) in omega (arith, a, b, d)
      | false ↦ let none : List R = [] in let d = length-append k none in omega (arith, a, d)
    ]

pub drain-kept : {R : Type 0} (old new : Held R) (rows : List R) (n : ℕ) (reply : Reply) → rows ≡ front_rows old → Adds old (Drain n) reply [] new → rows_kept new + length rows ≤ rows_kept old
drain-kept {R} old new rows n reply is adds =
    let a = kept-by old new (Drain n) reply [] adds in
    let b = ap (λ (l : List R). length l) is in
    let c = front-and-rest old.core.segments old.kept in
    omega (arith, a, b, c)
