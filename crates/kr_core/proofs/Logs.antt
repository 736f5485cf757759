-- Logs that grow by an event at their end, for whoever keeps one.
use Rattle.std.proofs.Common.{◌≡◌, ℕ, List, [], ◌∷◌, ◌++◌, Bool, true, false, not, cond, refl, sym, ap, ◌∙◌, subst, Option, Some, None}
use Rattle.std.specs.Prelude.{◌||◌, if◌then◌else◌, ◌+◌}
use Rattle.std.specs.Option.{option_map}
use Rattle.kr_base.specs.declared.span.Bound.{Bound}
use Rattle.kr_base.specs.declared.span.Bound.TheVariants.{At, End}
use Rattle.kr_base.specs.declared.entry.Entry.{Entry}
use Rattle.kr_base.specs.Bounds.{less}
use Rattle.kr_core.specs.declared.event.Event.{Event}
use Rattle.kr_core.specs.declared.event.Event.TheVariants.{Take, Steal, Report, GiveUp, Drain, StopAt, Look}
use Rattle.kr_core.specs.declared.event.Reply.{Reply}
use Rattle.kr_core.specs.declared.event.Reply.TheVariants.{Lease as Leased, Go, Done, Noted}
use Rattle.kr_core.specs.declared.segment.Segment.{Segment}
use Rattle.kr_base.specs.Causes.{capped}
use Rattle.kr_core.specs.States.{State, has_remainder, is_owned, segment_of, change}
use Rattle.kr_core.specs.Steps.{Step, fits, after, replay, IsReply, IsLeased, IsReported, may_take, may_steal, may_report, owned, stolen, scanned}
use Rattle.kr_core.specs.Logs.{ReplayLaw, GrowthLaw}
use Rattle.kr_core.proofs.Bools.{and-left}
use Rattle.kr_core.proofs.Places.{segment_of_change, segment_of_cut}
use Rattle.kr_core.specs.Kept.{Runs}
use Rattle.kr_core.specs.Counts.{IsHonest, HonestRuns}

pub honest_more : {R : Type 0} (es : List (Entry R)) (a : State) (events : List Event) (b : State) (event : Event) (reply : Reply) (c : State) → HonestRuns es a events b
    → IsHonest es b event → Step b event reply c → HonestRuns es a (events ++ event ∷ []) c
honest_more es a [] b event reply c runs honest step =
    (reply, c, subst (λ (s : State). IsHonest es s event) runs honest, subst (λ (s : State). Step s event reply c) runs step, refl)
honest_more es a (e ∷ events) b event reply c runs honest step =
    (runs.0, runs.1, runs.2, runs.3, honest_more es runs.1 events b event reply c runs.4 honest step)

pub growth_law : {R : Type 0} → GrowthLaw R
growth_law es a events b event reply c runs honest step = honest_more es a events b event reply c runs honest step

-- a run is what its log replays to

pub replay_run : (old : State) (events : List Event) (new : State) → Runs old events new → replay old events ≡ Some new
replay_run old [] new runs = ap (λ (s : State). Some s) (sym runs)
replay_run old (e ∷ events) new runs =
    let step : Step old e runs.0 runs.1 = runs.2 in
    ap (λ (t : Bool). cond t (replay (after old e) events) None) step.fit ∙ (ap (λ (s : State). replay s events) (sym step.new_is) ∙ replay_run runs.1 events new runs.3)

pub replay_more : (old : State) (events : List Event) (middle : State) (event : Event) → replay old events ≡ Some middle → fits middle event ≡ true
    → replay old (events ++ event ∷ []) ≡ Some (after middle event)
replay_more old [] middle event h fit =
    let same : old ≡ middle = cc (h) in
    subst (λ (s : State). cond (fits s event) (Some (after s event)) None ≡ Some (after middle event)) (sym same) (ap (λ (t : Bool). cond t (Some (after middle event)) None) fit)
replay_more old (e ∷ events) middle event h fit =
    elim (fits old e) as (λ t. cond t (replay (after old e) events) None ≡ Some middle → cond t (replay (after old e) (events ++ event ∷ [])) None ≡ Some (after middle event)) [
      | true ↦ λ q. replay_more (after old e) events middle event q fit
      | false ↦ λ q. absurd (cc (q))
    ] h

-- each event that fits has an answer

below-cut : (a b : Bound) → less a b ≡ true → (c : List ℕ) × (a ≡ At c)
unfolding less
below-cut (At c) b h = (c, refl)
below-cut End b h = absurd (cc (h))

answer-take : (seat n : ℕ) (segs : List Segment) (o : Option Segment) → segment_of n segs ≡ o → may_take o ≡ true
    → (reply : Reply) × IsLeased seat (segment_of n (change n (λ s ss. owned (Some seat) s ∷ ss) segs)) reply
answer-take seat n segs None found may = absurd (cc (may))
answer-take seat n segs (Some s) found may =
    let cut = below-cut s.mark s.upto (and-left (has_remainder s) (not (is_owned s.owner)) may) in
    let there = segment_of_change n segs (owned (Some seat)) s (λ t. refl) found in
    let reply : Reply = Leased (record { seat = seat; segment = s.number; mark = cut.0; upto = s.upto }) in
    (reply, subst (λ (x : Option Segment). IsLeased seat x reply) (sym there) (refl, refl, sym cut.1, refl))

answer-steal : (seat : ℕ) (c : List ℕ) (n : ℕ) (o : Option Segment) → may_steal c o ≡ true → (reply : Reply) × IsLeased seat (option_map (stolen seat c n) o) reply
answer-steal seat c n None may = absurd (cc (may))
answer-steal seat c n (Some s) may = (Leased (record { seat = seat; segment = n; mark = c; upto = s.upto }), (refl, refl, refl, refl))

-- go on where something remains and the owner stays, else it is done
answer-scanned : (seat : ℕ) (reach : Bound) (rows tried : ℕ) (spent : Bool) (s : Segment) → (reply : Reply) × IsReported seat (Some (scanned reach rows tried spent s)) reply
answer-scanned seat reach rows tried spent s = go spent (less reach s.upto) refl s.owner
  where
    go : (t u : Bool) → less reach s.upto ≡ u → (o : Option ℕ)
        → (reply : Reply) × IsReported seat (Some (record { number = s.number; after = s.after; mark = reach; upto = if t then reach else s.upto; owner = if t || not u then None else o; rows = capped (s.rows + rows); tried = capped (s.tried + tried) })) reply
    go true u q o = (Done, refl)
    go false false q o = (Done, refl)
    go false true q None = (Done, refl)
    go false true q (Some x) =
        let cut = below-cut reach s.upto q in
        (Go (record { seat = seat; segment = s.number; mark = cut.0; upto = s.upto }), ((refl, refl, sym cut.1, refl), refl))

answer-report : (seat n : ℕ) (reach : Bound) (rows tried : ℕ) (spent : Bool) (segs : List Segment) (o : Option Segment) → segment_of n segs ≡ o → may_report seat reach rows tried spent o ≡ true
    → (reply : Reply) × IsReported seat (segment_of n (change n (λ s ss. scanned reach rows tried spent s ∷ (if spent then [] else ss)) segs)) reply
answer-report seat n reach rows tried spent segs None found may = absurd (cc (may))
answer-report seat n reach rows tried true segs (Some s) found may =
    let a = answer-scanned seat reach rows tried true s in
    (a.0, subst (λ (x : Option Segment). IsReported seat x a.0) (sym (segment_of_cut n segs (scanned reach rows tried true) s (λ t. refl) found)) a.1)
answer-report seat n reach rows tried false segs (Some s) found may =
    let a = answer-scanned seat reach rows tried false s in
    (a.0, subst (λ (x : Option Segment). IsReported seat x a.0) (sym (segment_of_change n segs (scanned reach rows tried false) s (λ t. refl) found)) a.1)

answer : (old : State) (event : Event) → fits old event ≡ true → (reply : Reply) × IsReply old event reply (after old event)
answer old (Take seat n) fit = answer-take seat n old.segments (segment_of n old.segments) refl fit
answer old (Steal seat victim c n) fit = answer-steal seat c n (segment_of victim old.segments) (and-left (may_steal c (segment_of victim old.segments)) _ fit)
answer old (Report seat n reach rows tried spent) fit = answer-report seat n reach rows tried spent old.segments (segment_of n old.segments) refl fit
answer old (GiveUp seat n) fit = (Noted, refl)
answer old (Drain rows) fit = (Noted, refl)
answer old (StopAt mark) fit = (Noted, refl)
answer old (Look seat) fit = (Noted, refl)

run_replay : (old : State) (events : List Event) (new : State) → replay old events ≡ Some new → Runs old events new
run_replay old [] new h = cc (h)
run_replay old (e ∷ events) new h =
    elim (fits old e) as (λ t. fits old e ≡ t → cond t (replay (after old e) events) None ≡ Some new → (reply : Reply) × (middle : State) × Step old e reply middle × Runs middle events new) [
      | true ↦ λ q r. let a = answer old e q in (a.0, after old e, record { fit = q; new_is = refl; reply_is = a.1 }, run_replay (after old e) events new r)
      | false ↦ λ q r. absurd (cc (r))
    ] refl h

pub replay_law : ReplayLaw
replay_law old events new = record { replays = replay_run old events new; runs = run_replay old events new }
