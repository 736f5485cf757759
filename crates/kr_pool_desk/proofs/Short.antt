-- A run that begins short stays short: a theft raises a number of a mark's front.
use Rattle.std.proofs.Common.{◌≡◌, ℕ, zero, suc, ◌+◌, ◌-◌, ◌^◌, ◌<◌, ◌≤◌, List, [], ◌∷◌, ◌++◌, Bool, true, false, cond, length, map, refl, sym, ap, ◌∙◌, subst, arith, Option, Some, None}
use Rattle.std.specs.Prelude.{if◌then◌else◌, nat_lt, is_none, is_some, unwrap_or, ◌==◌}
use Rattle.std.specs.List.{AllByRecursion, find}
use Rattle.std.proofs.lemmas.Bool.Decides.{nat_tests}
use Rattle.kr_base.specs.declared.span.Bound.{Bound}
use Rattle.kr_base.specs.declared.span.Bound.TheVariants.{At, End}
use Rattle.kr_base.specs.declared.span.Span.{Span}
use Rattle.kr_base.specs.declared.entry.Entry.{Entry}
use Rattle.kr_base.specs.Bounds.{less, is_same}
use Rattle.kr_base.specs.Inside.{raised, raisings, inside_of}
use Rattle.kr_survey.specs.declared.part.Part.{Part}
use Rattle.kr_core.specs.declared.segment.Segment.{Segment}
use Rattle.kr_core.specs.declared.event.Event.{Event}
use Rattle.kr_core.specs.declared.event.Event.TheVariants.{Take, Steal, Report, GiveUp, Drain, StopAt, Look}
use Rattle.kr_core.specs.declared.event.Lease.{Lease}
use Rattle.kr_core.specs.declared.event.Reply.{Reply}
use Rattle.kr_core.specs.States.{State, Each, change, is_closed, is_owned, is_owned_by, segment_of}
use Rattle.kr_core.specs.Steps.{after, fits, left, lowered, owned, replay, scanned, stolen, stopped}
use Rattle.kr_core.specs.Openings.{opening}
use Rattle.kr_board.specs.Held.{Held}
use Rattle.kr_board.specs.Boards.{Adds, IsBoardOf}
use Rattle.kr_board.specs.Closing.{mark_in, first_mark}
use Rattle.kr_board.specs.Taking.{first_free, first_victim, grant, inside_bound, take_event, theft_of}
use Rattle.kr_board.specs.Reporting.{refusal, report_event}
use Rattle.kr_board.specs.Splitting.{split_at, split_in, split_of}
use Rattle.kr_pool_desk.specs.Short.{IsShort, IsShortBound, IsShortSegment, IsShortEvent, AreShortEvents, IsShortRun}

-- of the one found, what holds of each

each-cut : (List ℕ → Type 0) → List (List ℕ) → Type 0
each-cut P [] = Unit {0}
each-cut P (c ∷ cs) = P c × each-cut P cs

found-cut : (P : List ℕ → Type 0) (p : List ℕ → Bool) (cs : List (List ℕ)) (c : List ℕ) → each-cut P cs → find p cs ≡ Some c → P c
unfolding each-cut
found-cut P p [] c h q = absurd (cc (q))
found-cut P p (x ∷ xs) c h q =
    elim (p x) as (λ b. cond b (Some x) (find p xs) ≡ Some c → P c) [
      | true ↦ λ e. let same : x ≡ c = cc (e) in subst P same h.0
      | false ↦ λ e. found-cut P p xs c h.1 e
    ] q

found-segment : (P : Segment → Type 0) (p : Segment → Bool) (ss : List Segment) (g : Segment) → Each P ss → find p ss ≡ Some g → P g
found-segment P p [] g h q = absurd (cc (q))
found-segment P p (s ∷ ss) g h q =
    elim (p s) as (λ b. cond b (Some s) (find p ss) ≡ Some g → P g) [
      | true ↦ λ e. let same : s ≡ g = cc (e) in subst P same h.0
      | false ↦ λ e. found-segment P p ss g h.1 e
    ] q

pub numbered-segment : (P : Segment → Type 0) (n : ℕ) (ss : List Segment) (g : Segment) → Each P ss → segment_of n ss ≡ Some g → P g
numbered-segment P n [] g h q = absurd (cc (q))
numbered-segment P n (s ∷ ss) g h q =
    elim (s.number == n) as (λ b. cond b (Some s) (segment_of n ss) ≡ Some g → P g) [
      | true ↦ λ e. let same : s ≡ g = cc (e) in subst P same h.0
      | false ↦ λ e. numbered-segment P n ss g h.1 e
    ] q

-- raised fronts of a mark of at most so many numbers

Within : ℕ → List ℕ → Type 0
Within k cut = (length cut ≤ k) × AllByRecursion (λ n. n < 2 ^ 32) cut

raised-within : (n k : ℕ) → each-cut (Within (suc k)) (raised n)
unfolding Within each-cut
raised-within n k =
    elim (nat_lt (n + 1) (2 ^ 32)) as (λ b. nat_lt (n + 1) (2 ^ 32) ≡ b → each-cut (Within (suc k)) (if b then ((n + 1) ∷ []) ∷ [] else [])) [
      | true ↦ λ q. ((omega arith, (fits q, tt)), tt)
      | false ↦ λ q. tt
    ] refl
  where
    fits : nat_lt (n + 1) (2 ^ 32) ≡ true → n + 1 < 2 ^ 32
    fits q = grind (arith, nat_tests)

cons-within : (n k : ℕ) (cs : List (List ℕ)) → n < 2 ^ 32 → each-cut (Within k) cs → each-cut (Within (suc k)) (map (λ later. n ∷ later) cs)
unfolding Within each-cut
cons-within n k [] small h = tt
cons-within n k (c ∷ cs) small h = (((let l = h.0.0 in omega (arith, l)), (small, h.0.1)), cons-within n k cs small h.1)

joined-cuts : (P : List ℕ → Type 0) (xs ys : List (List ℕ)) → each-cut P xs → each-cut P ys → each-cut P (xs ++ ys)
unfolding each-cut
joined-cuts P [] ys h k = k
joined-cuts P (x ∷ xs) ys h k = (h.0, joined-cuts P xs ys h.1 k)

raisings-within : (mark : List ℕ) (k : ℕ) → Within k mark → each-cut (Within k) (raisings mark)
unfolding Within each-cut
raisings-within [] k h = tt
raisings-within (n ∷ ns) zero h = absurd (let l = h.0 in omega (arith, l))
raisings-within (n ∷ ns) (suc k) h =
    joined-cuts (Within (suc k)) (raised n) (map (λ later. n ∷ later) (raisings ns)) (raised-within n k)
    (cons-within n k (raisings ns) h.1.0 (raisings-within ns k ((let l = h.0 in omega (arith, l)), h.1.1)))

inside-short : (mark cut : List ℕ) (bound : Bound) → IsShort mark → inside_of mark bound ≡ Some cut → IsShort cut
unfolding Within
inside-short mark cut bound h q =
    let w : Within 4096 cut = found-cut (Within 4096) (λ c. less (At c) bound) (raisings mark) cut (raisings-within mark 4096 (h.few, h.small)) q in
    record { few = w.0; small = w.1 }

none-short : IsShort []
none-short = record { few = omega arith; small = tt }

-- thefts

inside-or-none : (o : Option (List ℕ)) → ((cut : List ℕ) → o ≡ Some cut → IsShort cut) → IsShort (unwrap_or o [])
inside-or-none None h = none-short
inside-or-none (Some cut) h = h cut refl

bound-short : (mark upto : Bound) (cut : List ℕ) → IsShortBound mark → inside_bound mark upto ≡ Some cut → IsShort cut
bound-short (At mark) upto cut h q = inside-short mark cut upto h q
bound-short End upto cut h q = absurd (cc (q))

theft-short : (g : Segment) (cut : List ℕ) → IsShortBound g.mark → theft_of g ≡ Some cut → IsShort cut
theft-short g cut h q =
    elim (is_owned g.owner) as (λ b. (if b then inside_bound g.mark g.upto else None) ≡ Some cut → IsShort cut) [
      | true ↦ λ e. bound-short g.mark g.upto cut h e
      | false ↦ λ e. absurd (cc (e))
    ] q

granted-short : (seat next : ℕ) (f v : Option Segment) → ((g : Segment) → v ≡ Some g → IsShortBound g.mark) → IsShortEvent (grant seat next f v)
granted-short seat next (Some g) v h = tt
granted-short seat next None (Some g) h = inside-or-none (theft_of g) (λ cut q. theft-short g cut (h g refl) q)
granted-short seat next None None h = tt

victim-short : (s : State) (g : Segment) → Each IsShortSegment s.segments → first_victim s ≡ Some g → IsShortBound g.mark
victim-short s g h q =
    elim (nat_lt s.next (2 ^ 64 - 1)) as (λ b. (if b then find (λ g. is_some (theft_of g)) s.segments else None) ≡ Some g → IsShortBound g.mark) [
      | true ↦ λ e. (found-segment IsShortSegment (λ g. is_some (theft_of g)) s.segments g h e).0
      | false ↦ λ e. absurd (cc (e))
    ] q

pub take-short : (seat : ℕ) (s : State) → Each IsShortSegment s.segments → IsShortEvent (take_event seat s)
take-short seat s h = granted-short seat s.next (first_free s) (first_victim s) (λ g q. victim-short s g h q)

split-at-short : (mark upto : Bound) (lease : Lease) (cut : List ℕ) → IsShortBound mark → split_at mark upto lease ≡ Some cut → IsShort cut
split-at-short (At mark) upto lease cut h q =
    elim (is_same (At mark) (At lease.mark)) as (λ b. (if b then inside_of mark upto else None) ≡ Some cut → IsShort cut) [
      | true ↦ λ e. inside-short mark cut upto h e
      | false ↦ λ e. absurd (cc (e))
    ] q
split-at-short End upto lease cut h q = absurd (cc (q))

split-in-short : (o : Option Segment) (lease : Lease) (cut : List ℕ) → ((g : Segment) → o ≡ Some g → IsShortBound g.mark) → split_in o lease ≡ Some cut → IsShort cut
split-in-short None lease cut h q = absurd (cc (q))
split-in-short (Some g) lease cut h q =
    elim (is_owned_by lease.seat g.owner) as (λ b. (if b then split_at g.mark g.upto lease else None) ≡ Some cut → IsShort cut) [
      | true ↦ λ e. split-at-short g.mark g.upto lease cut (h g refl) e
      | false ↦ λ e. absurd (cc (e))
    ] q

pub split-short : (s : State) (lease : Lease) (cut : List ℕ) → Each IsShortSegment s.segments → split_of s lease ≡ Some cut → IsShort cut
split-short s lease cut h q =
    elim (nat_lt s.next (2 ^ 64 - 1)) as (λ b. (if b then split_in (segment_of lease.segment s.segments) lease else None) ≡ Some cut → IsShort cut) [
      | true ↦ λ e. split-in-short (segment_of lease.segment s.segments) lease cut (λ g found. (numbered-segment IsShortSegment lease.segment s.segments g h found).0) e
      | false ↦ λ e. absurd (cc (e))
    ] q

pub report-short : {R : Type 0} (b : Held R) (lease : Lease) (part : Part R) → IsShortBound part.reach → IsShortEvent (report_event b lease part)
report-short {R} b lease part h =
    elim (is_none (refusal b lease part)) as (λ t. IsShortEvent (if t then Report lease.seat lease.segment part.reach (length part.rows) part.tried part.spent else Look lease.seat)) [ true ↦ h | false ↦ tt ]

-- segments after events

changed-short : (n : ℕ) (f : Segment → List Segment → List Segment) (ss : List Segment) → ((s : Segment) (rest : List Segment) → IsShortSegment s → Each IsShortSegment rest → Each IsShortSegment (f s rest)) → Each IsShortSegment ss
    → Each IsShortSegment (change n f ss)
changed-short n f [] k h = tt
changed-short n f (s ∷ ss) k h =
    elim (s.number == n) as (λ b. Each IsShortSegment (if b then f s ss else s ∷ change n f ss)) [
      | true ↦ k s ss h.0 h.1
      | false ↦ (h.0, changed-short n f ss k h.1)
    ]

scanned-short : (reach : Bound) (rows tried : ℕ) (spent : Bool) (s : Segment) (rest : List Segment) → IsShortBound reach → IsShortSegment s → Each IsShortSegment rest
    → Each IsShortSegment (scanned reach rows tried spent s ∷ (if spent then [] else rest))
scanned-short reach rows tried true s rest r h k = ((r, r), tt)
scanned-short reach rows tried false s rest r h k = ((r, h.1), k)

left-short : (ss : List Segment) → Each IsShortSegment ss → Each IsShortSegment (left ss)
left-short [] h = tt
left-short (s ∷ []) h = (h.0, tt)
left-short (s ∷ (t ∷ ss)) h =
    elim (is_closed s) as (λ b. Each IsShortSegment (if b then left (t ∷ ss) else record s { rows = 0 } ∷ (t ∷ ss))) [
      | true ↦ left-short (t ∷ ss) h.1
      | false ↦ (h.0, h.1)
    ]

stopped-short : (mark : List ℕ) (ss : List Segment) → IsShort mark → Each IsShortSegment ss → Each IsShortSegment (stopped mark ss)
stopped-short mark [] m h = tt
stopped-short mark (s ∷ ss) m h = ((h.0.0, m), tt)

after-short : (s : State) (event : Event) → IsShortEvent event → Each IsShortSegment s.segments → Each IsShortSegment (after s event).segments
after-short s (Take seat n) e h = changed-short n (λ g rest. owned (Some seat) g ∷ rest) s.segments (λ g rest k l. (k, l)) h
after-short s (Steal seat victim cut n) e h = changed-short victim (λ g rest. lowered cut g ∷ (stolen seat cut n g ∷ rest)) s.segments (λ g rest k l. ((k.0, e), ((e, k.1), l))) h
after-short s (Report seat n reach rows tried spent) e h =
    changed-short n (λ g rest. scanned reach rows tried spent g ∷ (if spent then [] else rest)) s.segments (λ g rest k l. scanned-short reach rows tried spent g rest e k l) h
after-short s (GiveUp seat n) e h = changed-short n (λ g rest. owned None g ∷ rest) s.segments (λ g rest k l. (k, l)) h
after-short s (Drain rows) e h = left-short s.segments h
after-short s (StopAt mark) e h = stopped-short mark s.segments e h
after-short s (Look seat) e h = h

replayed-short : (s new : State) (events : List Event) → AreShortEvents events → Each IsShortSegment s.segments → replay s events ≡ Some new → Each IsShortSegment new.segments
replayed-short s new [] e h q = let same : s ≡ new = cc (q) in subst (λ (t : State). Each IsShortSegment t.segments) same h
replayed-short s new (event ∷ events) e h q =
    elim (fits s event) as (λ b. (if b then replay (after s event) events else None) ≡ Some new → Each IsShortSegment new.segments) [
      | true ↦ λ r. replayed-short (after s event) new events e.1 (after-short s event e.0 h) r
      | false ↦ λ r. absurd (cc (r))
    ] q

-- the segments of a board
pub board-short : {R : Type 0} (all : List (Entry R)) (span : Span) (cuts : List (List ℕ)) (b : Held R) → IsBoardOf all span cuts b → (IsShortRun all span cuts → AreShortEvents b.log) → IsShortRun all span cuts → Each IsShortSegment b.core.segments
board-short all span cuts b board events s = replayed-short (opening span cuts) b.core b.log (events s) s.segments board.replays

pub stepped : {R : Type 0} (old new : Held R) (event : Event) (reply : Reply) (rows : List R) → Adds old event reply rows new → IsShortEvent event → Each IsShortSegment old.core.segments → Each IsShortSegment new.core.segments
stepped old new event reply rows adds e h = subst (λ (s : State). Each IsShortSegment s.segments) (sym adds.step.new_is) (after-short old.core event e h)

-- one event more

pub events-more : (xs ys : List Event) → AreShortEvents xs → AreShortEvents ys → AreShortEvents (xs ++ ys)
events-more [] ys h k = k
events-more (x ∷ xs) ys h k = (h.0, events-more xs ys h.1 k)

mark-short : (ss : List Segment) (mark : List ℕ) → Each IsShortSegment ss → At mark ≡ mark_in ss → IsShort mark
mark-short [] mark h q = absurd (cc (q))
mark-short (s ∷ ss) mark h q = subst IsShortBound (sym q) h.0.0

pub stop-short : (s : State) (mark : List ℕ) → Each IsShortSegment s.segments → At mark ≡ first_mark s → IsShort mark
stop-short s mark h q = mark-short s.segments mark h q
