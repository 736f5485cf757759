-- A run grows by an event of one of its seats.
use Rattle.std.proofs.Common.{◌≡◌, ℕ, ◌+◌, ◌<◌, List, [], ◌∷◌, ◌++◌, Bool, true, false, ◌&&◌, length, refl, sym, ap, ◌∙◌, subst, arith, length-append, append_assoc, Option, Some, None}
use Rattle.std.specs.Prelude.{if◌then◌else◌, nat_lt, is_none}
use Rattle.std.proofs.lemmas.Bool.Decides.{nat_tests}
use Rattle.kr_base.specs.declared.span.Span.{Span}
use Rattle.kr_base.specs.declared.entry.Entry.{Entry}
use Rattle.kr_survey.specs.declared.part.Part.{Part}
use Rattle.kr_core.specs.declared.segment.Segment.{Segment}
use Rattle.kr_core.specs.declared.event.Event.{Event}
use Rattle.kr_core.specs.declared.event.Event.TheVariants.{Steal, Report, GiveUp, Drain, Look}
use Rattle.kr_core.specs.declared.event.Lease.{Lease}
use Rattle.kr_core.specs.declared.event.Reply.{Reply}
use Rattle.kr_core.specs.States.{State}
use Rattle.kr_core.specs.Rows.{drains, drained}
use Rattle.kr_board.specs.Held.{Held}
use Rattle.kr_board.specs.Boards.{IsBoardOf, Adds}
use Rattle.kr_board.specs.Taking.{first_free, first_victim, grant, take_event}
use Rattle.kr_board.specs.Reporting.{refusal, report_event}
use Rattle.kr_pool_desk.specs.Runs.{is_shared, are_shared, IsGrown, IsRun}
use Rattle.kr_pool_desk.specs.Short.{IsShortRun, IsShortEvent, AreShortEvents}
use Rattle.kr_pool_desk.proofs.Short.{events-more}
use Rattle.kr_board.proofs.Staying.{drained-more}

below : (seat workers : ℕ) → seat < workers → nat_lt seat workers ≡ true
below seat workers h = grind (arith, nat_tests)

are_shared-more : (workers : ℕ) (xs : List Event) (e : Event) → are_shared workers xs ≡ true → is_shared workers e ≡ true → are_shared workers (xs ++ e ∷ []) ≡ true
are_shared-more workers [] e h k = ap (λ (b : Bool). b && true) k
are_shared-more workers (x ∷ xs) e h k =
    elim (is_shared workers x) as (λ b. (b && are_shared workers xs) ≡ true → (b && are_shared workers (xs ++ e ∷ [])) ≡ true) [
      | true ↦ λ q. are_shared-more workers xs e q k
      | false ↦ λ q. absurd (cc (q))
    ] h

pub grown-more : (opening : List Event) (workers calls calls' : ℕ) (log new : List Event) (e : Event) → IsGrown opening workers calls log → is_shared workers e ≡ true → new ≡ log ++ e ∷ [] → calls' ≡ calls + 1
    → IsGrown opening workers calls' new
grown-more opening workers calls calls' log new e k shared is count = record {
  more = k.more ++ e ∷ [];
  logged = is ∙ (ap (λ (l : List Event). l ++ e ∷ []) k.logged ∙ append_assoc opening k.more (e ∷ []));
  shared = ap (λ (l : List Event). are_shared workers l) is ∙ are_shared-more workers log e k.shared shared;
  counted = let a = length-append k.more (e ∷ []) in let b = k.counted in omega (arith, a, b, count);
}

granted-shared : (workers seat next : ℕ) (f v : Option Segment) → seat < workers → is_shared workers (grant seat next f v) ≡ true
granted-shared workers seat next (Some g) v h = below seat workers h
granted-shared workers seat next None (Some g) h = below seat workers h
granted-shared workers seat next None None h = below seat workers h

pub take-shared : (workers seat : ℕ) (s : State) → seat < workers → is_shared workers (take_event seat s) ≡ true
take-shared workers seat s h = granted-shared workers seat s.next (first_free s) (first_victim s) h

pub report-shared : {R : Type 0} (workers : ℕ) (s : Held R) (lease : Lease) (part : Part R) → lease.seat < workers → is_shared workers (report_event s lease part) ≡ true
report-shared {R} workers s lease part h =
    elim (is_none (refusal s lease part)) as (λ b. is_shared workers (if b then Report lease.seat lease.segment part.reach (length part.rows) part.tried part.spent else Look lease.seat) ≡ true) [
      | true ↦ below lease.seat workers h
      | false ↦ below lease.seat workers h
    ]

pub give_up-shared : (workers seat n : ℕ) → seat < workers → is_shared workers (GiveUp seat n) ≡ true
give_up-shared workers seat n h = below seat workers h

pub run-more : {R : Type 0} (all : List (Entry R)) (span : Span) (cuts : List (List ℕ)) (opening : List Event) (workers calls calls' : ℕ) (old new : Held R) (event : Event) (reply : Reply) (rows : List R)
    → IsRun all span cuts opening workers old calls → Adds old event reply rows new → IsBoardOf all span cuts new → is_shared workers event ≡ true → calls' ≡ calls + 1 → (IsShortRun all span cuts → IsShortEvent event)
    → IsRun all span cuts opening workers new calls'
run-more all span cuts opening workers calls calls' old new event reply rows k adds board shared count short = record {
  ascends = k.ascends;
  inside = k.inside;
  board = board;
  grown = grown-more opening workers calls calls' old.log new.log event k.grown shared adds.logged count;
  short = λ s. subst AreShortEvents (sym adds.logged) (events-more old.log (event ∷ []) (k.short s) (short s, tt));
}

pub steal-shared : (workers seat victim n : ℕ) (cut : List ℕ) → seat < workers → is_shared workers (Steal seat victim cut n) ≡ true
steal-shared workers seat victim n cut h = below seat workers h

-- what is drained

granted-quiet : (seat next : ℕ) (f v : Option Segment) → drains (grant seat next f v) ≡ 0
granted-quiet seat next (Some g) v = refl
granted-quiet seat next None (Some g) = refl
granted-quiet seat next None None = refl

pub take-quiet : (seat : ℕ) (s : State) → drains (take_event seat s) ≡ 0
take-quiet seat s = granted-quiet seat s.next (first_free s) (first_victim s)

pub report-quiet : {R : Type 0} (s : Held R) (lease : Lease) (part : Part R) → drains (report_event s lease part) ≡ 0
report-quiet {R} s lease part =
    elim (is_none (refusal s lease part)) as (λ b. drains (if b then Report lease.seat lease.segment part.reach (length part.rows) part.tried part.spent else Look lease.seat) ≡ 0) [ true ↦ refl | false ↦ refl ]

pub same-drained : {R : Type 0} (old new : Held R) (event : Event) (reply : Reply) (rows : List R) → drains event ≡ 0 → Adds old event reply rows new → drained new.log ≡ drained old.log
same-drained old new event reply rows quiet adds =
    let a = drained-more old.log event in let b = ap (λ (l : List Event). drained l) adds.logged in omega (arith, a, b, quiet)

pub take-drained : {R : Type 0} (old new : Held R) (seat : ℕ) (reply : Reply) (rows : List R) → Adds old (take_event seat old.core) reply rows new → drained new.log ≡ drained old.log
take-drained old new seat reply rows adds = same-drained old new (take_event seat old.core) reply rows (take-quiet seat old.core) adds

pub report-drained : {R : Type 0} (old new : Held R) (lease : Lease) (part : Part R) (reply : Reply) (rows : List R) → Adds old (report_event old lease part) reply rows new → drained new.log ≡ drained old.log
report-drained old new lease part reply rows adds = same-drained old new (report_event old lease part) reply rows (report-quiet old lease part) adds

pub drain-drained : {R : Type 0} (old new : Held R) (n : ℕ) (reply : Reply) (rows : List R) → Adds old (Drain n) reply rows new → drained new.log ≡ drained old.log + n
drain-drained old new n reply rows adds = let a = drained-more old.log (Drain n) in let b = ap (λ (l : List Event). drained l) adds.logged in omega (arith, a, b)

pub drain-shared : (workers n : ℕ) → is_shared workers (Drain n) ≡ true
drain-shared workers n = refl
