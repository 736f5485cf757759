-- A board stays its survey's.
use Rattle.std.proofs.Common.{◌≡◌, ℕ, ◌+◌, List, [], ◌∷◌, ◌++◌, length, refl, sym, ap, ◌∙◌, subst, arith, Some, append_assoc}
use Rattle.std.proofs.lemmas.List.{append-nil}
use Rattle.std.proofs.lemmas.List.Concat.{flat_map-append}
use Rattle.kr_base.specs.declared.span.Bound.TheVariants.{At}
use Rattle.kr_base.specs.declared.span.Span.{Span}
use Rattle.kr_base.specs.declared.entry.Entry.{Entry}
use Rattle.kr_base.specs.Entries.{Ascends}
use Rattle.kr_survey.specs.Scans.{rows_of}
use Rattle.kr_core.specs.declared.event.Event.{Event}
use Rattle.kr_core.specs.declared.event.Event.TheVariants.{Take, Steal, Report, GiveUp, Drain, StopAt, Look}
use Rattle.kr_core.specs.declared.event.Reply.{Reply}
use Rattle.kr_core.specs.States.{State}
use Rattle.kr_core.specs.Openings.{AreInside, opening, end_of}
use Rattle.kr_core.specs.Steps.{replay}
use Rattle.kr_core.specs.Counts.{IsHonest, HonestRuns}
use Rattle.kr_core.specs.Rows.{drains, drained}
use Rattle.kr_core.specs.Beside.{Measures}
use Rattle.kr_core.proofs.Begins.{kept-opening}
use Rattle.kr_core.proofs.Runs.{Holds, kept-honest}
use Rattle.kr_core.proofs.Beside.{IsMeasure, Brings, taken_out, measures-step}
use Rattle.kr_core.proofs.Logs.{honest_more, replay_more}
use Rattle.kr_board.specs.Held.{Held}
use Rattle.kr_board.specs.Boards.{IsBoardOf, Adds, Stays}
use Rattle.kr_board.proofs.Sound.{join}

pub measure : {R : Type 0} → IsMeasure {R = R} {M = List R} join [] rows_of
measure {R} = record {
  nil = refl;
  joins = λ xs ys. flat_map-append _ xs ys;
  assoc = λ x y z. append_assoc x y z;
  rest = λ x y. ap (λ (l : List R). x ++ l) (append-nil y);
}

pub drained-more : (log : List Event) (event : Event) → drained (log ++ event ∷ []) ≡ drained log + drains event
drained-more [] event = omega arith
drained-more (e ∷ log) event = let h = drained-more log event in omega (arith, h)

-- what holds of the machine under the board
pub holds : {R : Type 0} (all : List (Entry R)) (span : Span) (cuts : List (List ℕ)) (b : Held R) → Ascends all → AreInside cuts span → IsBoardOf all span cuts b → Holds (Unit {0}) all (At span.after) (end_of span) b.core
holds all span cuts b asc inside board =
    kept-honest all (At span.after) (end_of span) (opening span cuts) b.log b.core asc board.honest (kept-opening (Unit {0}) all span cuts inside)

pub stays : {R : Type 0} (all : List (Entry R)) (span : Span) (cuts : List (List ℕ)) (old : Held R) (event : Event) (reply : Reply) (more : List R) (new : Held R) → Ascends all → AreInside cuts span
    → IsHonest all old.core event → Brings rows_of all old.core event more → ((before : List R) → length (taken_out join [] old.core event old.kept before) ≡ length before + drains event)
    → Adds old event reply more new → IsBoardOf all span cuts old → IsBoardOf all span cuts new
stays {R} all span cuts old event reply more new asc inside honest brings out adds board =
    let begin = opening span cuts in
    let r = board.rows in
    let moved = measures-step join [] rows_of measure (Unit {0}) all (At span.after) (end_of span) old.core event reply new.core more r.before old.kept asc (holds all span cuts old asc inside board) brings adds.step r.rows in
    let count = out r.before in
    let was = r.count in
    record {
      replays = ap (λ (log : List Event). replay begin log) adds.logged ∙ (replay_more begin old.log old.core event board.replays adds.step.fit ∙ ap (λ (s : State). Some s) (sym adds.step.new_is));
      honest = subst (λ (log : List Event). HonestRuns all begin log new.core) (sym adds.logged) (honest_more all begin old.log old.core event reply new.core board.honest honest adds.step);
      rows = record {
        before = taken_out join [] old.core event old.kept r.before;
        count = count ∙ (ap (λ (n : ℕ). n + drains event) was ∙ (sym (drained-more old.log event) ∙ ap (λ (log : List Event). drained log) (sym adds.logged)));
        rows = subst (λ (ks : List (List R)). Measures join rows_of all (At span.after) (taken_out join [] old.core event old.kept r.before) new.core.segments ks) (sym adds.kept) moved;
      };
    }

-- an event that neither reports nor drains
abbrev pub IsQuiet : Event → Type 0
IsQuiet (Take seat n) = Unit {0}
IsQuiet (Steal seat victim cut n) = Unit {0}
IsQuiet (Report seat n reach rows tried spent) = ⊥
IsQuiet (GiveUp seat n) = Unit {0}
IsQuiet (Drain rows) = ⊥
IsQuiet (StopAt mark) = Unit {0}
IsQuiet (Look seat) = Unit {0}

plain : {R : Type 0} (before : List R) → length before ≡ length before + 0
plain before = omega arith

pub quiet_stays : {R : Type 0} (old : Held R) (event : Event) (reply : Reply) (more : List R) (new : Held R) → IsQuiet event → Adds old event reply more new → Stays old new
quiet_stays old (Take seat n) reply more new q adds all span cuts asc inside b = stays all span cuts old _ reply more new asc inside tt tt plain adds b
quiet_stays old (Steal seat victim cut n) reply more new q adds all span cuts asc inside b = stays all span cuts old _ reply more new asc inside tt tt plain adds b
quiet_stays old (Report seat n reach rows tried spent) reply more new q adds all span cuts asc inside b = absurd q
quiet_stays old (GiveUp seat n) reply more new q adds all span cuts asc inside b = stays all span cuts old _ reply more new asc inside tt tt plain adds b
quiet_stays old (Drain rows) reply more new q adds all span cuts asc inside b = absurd q
quiet_stays old (StopAt mark) reply more new q adds all span cuts asc inside b = stays all span cuts old _ reply more new asc inside tt tt plain adds b
quiet_stays old (Look seat) reply more new q adds all span cuts asc inside b = stays all span cuts old _ reply more new asc inside tt tt plain adds b
