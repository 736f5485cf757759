-- The events of a log whose cuts are short are read as they are.
use Rattle.std.proofs.Common.{◌≡◌, ℕ, ◌+◌, ◌-◌, ◌^◌, ◌<◌, ◌≤◌, List, [], ◌∷◌, Bool, true, false, cond, length, refl, sym, subst, arith, Option, Some, None}
use Rattle.std.specs.Prelude.{if◌then◌else◌, ◌==◌, ◌&&◌, ◌||◌, nat_lt, nat_le, not, is_some}
use Rattle.std.specs.List.{sum_by}
use Rattle.std.proofs.lemmas.Bool.Decides.{nat_tests}
use Rattle.std.proofs.lemmas.List.Elements.{All-from_recursion}
use Rattle.kr_base.specs.declared.span.Bound.{Bound}
use Rattle.kr_base.specs.declared.span.Bound.TheVariants.{At, End}
use Rattle.kr_base.specs.declared.entry.Entry.{Entry}
use Rattle.kr_base.specs.Bounds.{is_cut, less}
use Rattle.kr_base.specs.Causes.{capped}
use Rattle.kr_base.specs.Cuts.{cut_text}
use Rattle.kr_base.proofs.Orders.{before_from_test}
use Rattle.kr_base.proofs.Readings.{reading}
use Rattle.kr_core.specs.declared.segment.Segment.{Segment}
use Rattle.kr_core.specs.declared.event.Event.{Event}
use Rattle.kr_core.specs.declared.event.Event.TheVariants.{Take, Steal, Report, GiveUp, Drain, StopAt, Look}
use Rattle.kr_core.specs.States.{State, Each, change, is_closed, is_owned, is_owned_by, segment_of}
use Rattle.kr_core.specs.Steps.{after, fits, front, left, lowered, may_give_up, may_report, may_steal, may_take, owned, scanned, stolen, stopped}
use Rattle.kr_core.specs.Counts.{HonestRuns, IsHonest, TellsFrom}
use Rattle.kr_core.proofs.Bools.{and-left, and-right}
use Rattle.kr_pool_desk.specs.Runs.{is_shared}
use Rattle.kr_pool_desk.specs.Short.{AreShortEvents, IsShort, IsShortBound, IsShortEvent}
use Rattle.kr_pool_desk.specs.Traces.{are_by, is_last_stop}
use Rattle.kr_trace.specs.Checked.{is_by}
use Rattle.korat_top_laws.specs.Honest.{AreShown}
use Rattle.korat_top_laws.specs.Printed.{IsPrintable, IsShown, IsShownBound, IsShownMark}

-- ---- cuts

above_some : (b : Bound) (cut : List ℕ) → less b (At cut) ≡ true → 0 < length cut
unfolding less
above_some b (c ∷ cs) h = omega arith
above_some (At []) [] h = absurd (before_from_test [] [] h)
above_some (At (x ∷ xs)) [] h = absurd (before_from_test (x ∷ xs) [] h)
above_some End [] h = absurd (cc (h))

pub shown : (cut : List ℕ) → 0 < length cut → IsShort cut → IsShown cut
shown cut some h = (reading (cut_text cut) cut).complete (record { some = some; small = All-from_recursion (λ n. n < 2 ^ 32) cut h.small; text = refl }, h.few)

shown_bound : (b reach : Bound) → less b reach ≡ true → IsShortBound reach → IsShownBound reach
shown_bound b (At cut) above h = shown cut (above_some b cut above) h
shown_bound b End above h = tt

shown_mark : (mark : List ℕ) → IsShort mark → IsShownMark mark
shown_mark [] h = tt
shown_mark (n ∷ ns) h = shown (n ∷ ns) (omega arith) h

-- ---- numbers

same_small : (m n : ℕ) → (m == n) ≡ true → m < 2 ^ 64 → n < 2 ^ 64
same_small m n e h = grind (arith, nat_tests)

capped_small : (n m : ℕ) → n ≡ capped m → n < 2 ^ 64
capped_small n m e = omega (arith, e)

capped_same : (n m : ℕ) → (n == capped m) ≡ true → n < 2 ^ 64
capped_same n m e = same_small (capped m) n (other n (capped m) e) (capped_small (capped m) m refl)
  where
    other : (a b : ℕ) → (a == b) ≡ true → (b == a) ≡ true
    other a b e = grind (arith, nat_tests)

pub seat_small : (seat workers : ℕ) → nat_lt seat workers ≡ true → workers ≤ 2 ^ 32 → seat < 2 ^ 32
seat_small seat workers h k = grind (arith, nat_tests)

below_last : (n : ℕ) → nat_lt n (2 ^ 64 - 1) ≡ true → n < 2 ^ 64
below_last n h = grind (arith, nat_tests)

next_small : (n next : ℕ) → (n == next) ≡ true → nat_lt n (2 ^ 64 - 1) ≡ true → next + 1 < 2 ^ 64
next_small n next e h = grind (arith, nat_tests)

-- the numbers of segments, and how many were made
abbrev pub IsNumbered : Segment → Type 0
IsNumbered g = g.number < 2 ^ 64

abbrev pub AreNumbered : State → Type 0
AreNumbered s = Each IsNumbered s.segments × (s.next < 2 ^ 64)

found_small : (n : ℕ) (ss : List Segment) → Each IsNumbered ss → is_some (segment_of n ss) ≡ true → n < 2 ^ 64
found_small n [] h q = absurd (cc (q))
found_small n (s ∷ ss) h q =
    elim (s.number == n) as (λ b. (s.number == n) ≡ b → is_some (cond b (Some s) (segment_of n ss)) ≡ true → n < 2 ^ 64) [
      | true ↦ λ e r. same_small s.number n e h.0
      | false ↦ λ e r. found_small n ss h.1 r
    ] refl q

changed_each : (P : Segment → Type 0) (n : ℕ) (f : Segment → List Segment → List Segment) (ss : List Segment) → ((s : Segment) (rest : List Segment) → P s → Each P rest → Each P (f s rest)) → Each P ss → Each P (change n f ss)
changed_each P n f [] k h = tt
changed_each P n f (s ∷ ss) k h =
    elim (s.number == n) as (λ b. Each P (if b then f s ss else s ∷ change n f ss)) [
      | true ↦ k s ss h.0 h.1
      | false ↦ (h.0, changed_each P n f ss k h.1)
    ]

left_numbered : (ss : List Segment) → Each IsNumbered ss → Each IsNumbered (left ss)
left_numbered [] h = tt
left_numbered (s ∷ []) h = (h.0, tt)
left_numbered (s ∷ (t ∷ ss)) h =
    elim (is_closed s) as (λ b. Each IsNumbered (if b then left (t ∷ ss) else record s { rows = 0 } ∷ (t ∷ ss))) [
      | true ↦ left_numbered (t ∷ ss) h.1
      | false ↦ (h.0, h.1)
    ]

stopped_numbered : (mark : List ℕ) (ss : List Segment) → Each IsNumbered ss → Each IsNumbered (stopped mark ss)
stopped_numbered mark [] h = tt
stopped_numbered mark (s ∷ ss) h = (h.0, tt)

scanned_numbered : (reach : Bound) (rows tried : ℕ) (spent : Bool) (s : Segment) (rest : List Segment) → IsNumbered s → Each IsNumbered rest → Each IsNumbered (scanned reach rows tried spent s ∷ (if spent then [] else rest))
scanned_numbered reach rows tried true s rest h k = (h, tt)
scanned_numbered reach rows tried false s rest h k = (h, k)

after_numbered : (s : State) (event : Event) → fits s event ≡ true → AreNumbered s → AreNumbered (after s event)
after_numbered s (Take seat n) fit h = (changed_each IsNumbered n (λ g rest. owned (Some seat) g ∷ rest) s.segments (λ g rest k l. (k, l)) h.0, h.1)
after_numbered s (Steal seat victim cut n) fit h =
    let right = and-right (may_steal cut (segment_of victim s.segments)) ((n == s.next) && nat_lt n (2 ^ 64 - 1)) fit in
    let is = and-left (n == s.next) (nat_lt n (2 ^ 64 - 1)) right in
    let small = and-right (n == s.next) (nat_lt n (2 ^ 64 - 1)) right in (
      changed_each IsNumbered victim (λ g rest. lowered cut g ∷ (stolen seat cut n g ∷ rest)) s.segments (λ g rest k l. (k, (below_last n small, l))) h.0,
      next_small n s.next is small,
    )
after_numbered s (Report seat n reach rows tried spent) fit h =
    (changed_each IsNumbered n (λ g rest. scanned reach rows tried spent g ∷ (if spent then [] else rest)) s.segments (λ g rest k l. scanned_numbered reach rows tried spent g rest k l) h.0, h.1)
after_numbered s (GiveUp seat n) fit h = (changed_each IsNumbered n (λ g rest. owned None g ∷ rest) s.segments (λ g rest k l. (k, l)) h.0, h.1)
after_numbered s (Drain rows) fit h = (left_numbered s.segments h.0, h.1)
after_numbered s (StopAt mark) fit h = (stopped_numbered mark s.segments h.0, h.1)
after_numbered s (Look seat) fit h = h

-- ---- what fits is there

taken_there : (o : Option Segment) → may_take o ≡ true → is_some o ≡ true
taken_there None h = absurd (cc (h))
taken_there (Some g) h = refl

stolen_there : (cut : List ℕ) (o : Option Segment) → may_steal cut o ≡ true → (is_some o ≡ true) × (0 < length cut)
stolen_there cut None h = absurd (cc (h))
stolen_there cut (Some g) h = (refl, above_some g.mark cut (and-left (less g.mark (At cut)) (less (At cut) g.upto) (and-right (is_owned g.owner) (less g.mark (At cut) && less (At cut) g.upto) h)))

given_there : (seat : ℕ) (o : Option Segment) → may_give_up seat o ≡ true → is_some o ≡ true
given_there seat None h = absurd (cc (h))
given_there seat (Some g) h = refl

reported_there : {R : Type 0} (es : List (Entry R)) (seat : ℕ) (reach : Bound) (rows tried : ℕ) (spent : Bool) (o : Option Segment) → may_report seat reach rows tried spent o ≡ true → IsShortBound reach → TellsFrom es o reach rows tried spent
    → (is_some o ≡ true) × IsShownBound reach × (rows < 2 ^ 64) × (tried < 2 ^ 64)
reported_there es seat reach rows tried spent None h short tells = absurd tells
reported_there es seat reach rows tried spent (Some g) h short tells =
    let counts = if spent then is_cut reach && nat_lt rows tried else nat_le rows tried in
    let above : less g.mark reach ≡ true = and-left (less g.mark reach) (not (less g.upto reach) && counts) (and-right (is_owned_by seat g.owner) (less g.mark reach && (not (less g.upto reach) && counts)) h) in
    (refl, shown_bound g.mark reach above short, capped_small rows _ tells.rows_are, capped_small tried _ tells.tried_are)

-- ---- events

by_shared : (b : Bool) → (b || false) ≡ true → b ≡ true
by_shared true h = refl
by_shared false h = absurd (cc (h))

printed : {R : Type 0} (es : List (Entry R)) (workers : ℕ) (s : State) (event : Event) (log : List Event) → workers ≤ 2 ^ 32 → fits s event ≡ true → IsHonest es s event → AreNumbered s → IsShortEvent event
    → (is_shared workers event || is_last_stop event log) ≡ true → IsPrintable event × (is_by workers event ≡ true)
printed es workers s (Take seat n) log few fit honest numbers short by =
    let seat_is = by_shared (nat_lt seat workers) by in
    ((seat_small seat workers seat_is few, found_small n s.segments numbers.0 (taken_there (segment_of n s.segments) fit)), seat_is)
printed es workers s (Steal seat victim cut n) log few fit honest numbers short by =
    let seat_is = by_shared (nat_lt seat workers) by in
    let there = stolen_there cut (segment_of victim s.segments) (and-left (may_steal cut (segment_of victim s.segments)) ((n == s.next) && nat_lt n (2 ^ 64 - 1)) fit) in
    let right = and-right (may_steal cut (segment_of victim s.segments)) ((n == s.next) && nat_lt n (2 ^ 64 - 1)) fit in
    ((seat_small seat workers seat_is few, found_small victim s.segments numbers.0 there.0, shown cut there.1 short, below_last n (and-right (n == s.next) (nat_lt n (2 ^ 64 - 1)) right)), seat_is)
printed es workers s (Report seat n reach rows tried spent) log few fit honest numbers short by =
    let seat_is = by_shared (nat_lt seat workers) by in
    let there = reported_there es seat reach rows tried spent (segment_of n s.segments) fit short honest in
    ((seat_small seat workers seat_is few, found_small n s.segments numbers.0 there.0, there.1, there.2, there.3), seat_is)
printed es workers s (GiveUp seat n) log few fit honest numbers short by =
    let seat_is = by_shared (nat_lt seat workers) by in
    ((seat_small seat workers seat_is few, found_small n s.segments numbers.0 (given_there seat (segment_of n s.segments) fit)), seat_is)
printed es workers s (Drain rows) log few fit honest numbers short by = (capped_same rows (sum_by (λ g. g.rows) (front s.segments)) fit, refl)
printed es workers s (StopAt mark) log few fit honest numbers short by = (shown_mark mark short, refl)
printed es workers s (Look seat) log few fit honest numbers short by =
    let seat_is = by_shared (nat_lt seat workers) by in
    (seat_small seat workers seat_is few, seat_is)

pub are_shown : {R : Type 0} (es : List (Entry R)) (workers : ℕ) (s : State) (log : List Event) (new : State) → workers ≤ 2 ^ 32 → HonestRuns es s log new → AreNumbered s → AreShortEvents log → are_by workers log ≡ true → AreShown workers log
are_shown es workers s [] new few runs numbers short by = tt
are_shown es workers s (event ∷ log) new few runs numbers short by =
    let step = runs.3 in
    let one = printed es workers s event log few step.fit runs.2 numbers short.0 (and-left (is_shared workers event || is_last_stop event log) (are_by workers log) by) in
    let rest = are_shown es workers runs.1 log new few runs.4 (subst AreNumbered (sym step.new_is) (after_numbered s event step.fit numbers)) short.1 (and-right (is_shared workers event || is_last_stop event log) (are_by workers log) by) in
    (one.0, one.1, rest)
