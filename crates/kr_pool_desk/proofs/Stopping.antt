-- A board that is stopped.
use Rattle.std.proofs.Common.{◌≡◌, ℕ, List, [], ◌∷◌, Bool, true, false, ◌&&◌, not, refl, sym, ap, ◌∙◌, subst}
use Rattle.std.specs.List.{list_all}
use Rattle.std.proofs.lemmas.Bool.{not-true}
use Rattle.kr_base.specs.declared.span.Bound.{Bound}
use Rattle.kr_base.specs.declared.span.Bound.TheVariants.{At, End}
use Rattle.kr_base.specs.declared.span.Span.{Span}
use Rattle.kr_base.specs.declared.entry.Entry.{Entry}
use Rattle.kr_base.specs.Bounds.{less, is_cut}
use Rattle.kr_core.specs.declared.segment.Segment.{Segment}
use Rattle.kr_core.specs.declared.event.Event.{Event}
use Rattle.kr_core.specs.declared.event.Event.TheVariants.{StopAt}
use Rattle.kr_core.specs.declared.event.Reply.{Reply}
use Rattle.kr_core.specs.States.{State, Each, is_owned, has_remainder, is_closed}
use Rattle.kr_core.specs.Steps.{may_stop, stopped}
use Rattle.kr_core.specs.Kept.{IsKept, Adjoin}
use Rattle.kr_core.specs.Openings.{opening}
use Rattle.kr_core.specs.Counts.{HonestRuns}
use Rattle.kr_core.proofs.Bools.{and-left}
use Rattle.kr_core.proofs.Ends.{kept_law}
use Rattle.kr_board.specs.Held.{Held}
use Rattle.kr_board.specs.Boards.{IsBoardOf, Adds}
use Rattle.kr_board.specs.Closing.{all_closed, mark_in, first_mark}
use Rattle.kr_pool_desk.specs.Runs.{IsRun}
use Rattle.kr_pool_desk.specs.Traces.{are_by, Finishes}
use Rattle.kr_pool_desk.specs.Stops.{IsStopped}
use Rattle.kr_pool_desk.specs.Short.{AreShortEvents}
use Rattle.kr_pool_desk.proofs.Short.{board-short, events-more, stop-short}
use Rattle.kr_pool_desk.proofs.Honest.{runs_from_honest}
use Rattle.kr_pool_desk.proofs.Whole.{by_stopped}
use Rattle.kr_base.proofs.Bounds.{end_is_last}

-- no bound is above the end

at-end : (b : Bound) → less b End ≡ false → b ≡ End
unfolding less
at-end (At c) h = absurd (cc (h))
at-end End h = refl

closed-there : (s : Segment) → s.mark ≡ End → (is_owned s.owner ≡ true → has_remainder s ≡ true) → is_closed s ≡ true
closed-there s mark own =
    let rest : has_remainder s ≡ false = ap (λ (b : Bound). less b s.upto) mark ∙ end_is_last s.upto in
    let free : is_owned s.owner ≡ false = elim (is_owned s.owner) as (λ b. is_owned s.owner ≡ b → b ≡ false) [ true ↦ λ q. absurd (cc (sym (own q) ∙ rest)) | false ↦ λ q. refl ] refl in
    ap (λ (b : Bool). not b && not (has_remainder s)) free ∙ ap (λ (b : Bool). not b) rest

-- after a segment that is scanned to the end all are closed
all-there : (a : Bound) (ss : List Segment) (e : Bound) → a ≡ End → Adjoin a ss e → Each (λ g. less g.mark g.after ≡ false) ss → Each (λ g. less g.upto g.mark ≡ false) ss → Each (λ g. is_owned g.owner ≡ true → has_remainder g ≡ true) ss
    → list_all is_closed ss ≡ true
all-there a [] e is j low high own = refl
all-there a (s ∷ ss) e is j low high own =
    let mark : s.mark ≡ End = at-end s.mark (subst (λ (b : Bound). less s.mark b ≡ false) (j.0 ∙ is) low.0) in
    let upto : s.upto ≡ End = at-end s.upto (subst (λ (b : Bound). less s.upto b ≡ false) mark high.0) in
    ap (λ (b : Bool). b && list_all is_closed ss) (closed-there s mark own.0) ∙ all-there s.upto ss e upto j.1 low.1 high.1 own.1

marked-there : (a : Bound) (ss : List Segment) (e : Bound) → Adjoin a ss e → Each (λ g. less g.mark g.after ≡ false) ss → Each (λ g. less g.upto g.mark ≡ false) ss → Each (λ g. is_owned g.owner ≡ true → has_remainder g ≡ true) ss
    → list_all is_closed ss ≡ false → is_cut (mark_in ss) ≡ true
marked-there a [] e j low high own left = absurd (cc (left))
marked-there a (s ∷ ss) e j low high own left = of s.mark refl
  where
    of : (m : Bound) → s.mark ≡ m → is_cut s.mark ≡ true
    of (At c) q = ap is_cut q
    of End q =
        let upto : s.upto ≡ End = at-end s.upto (subst (λ (b : Bound). less s.upto b ≡ false) q high.0) in
        let all : list_all is_closed (s ∷ ss) ≡ true = ap (λ (b : Bool). b && list_all is_closed ss) (closed-there s q own.0) ∙ all-there s.upto ss e upto j.1 low.1 high.1 own.1 in
        absurd (cc (sym all ∙ left))

-- an unfinished board may be stopped
pub may_be_stopped : {R : Type 0} (all : List (Entry R)) (span : Span) (cuts : List (List ℕ)) (ops : List Event) (workers calls : ℕ) (b : Held R) → IsRun all span cuts ops workers b calls → all_closed b.core ≡ false
    → is_cut (first_mark b.core) ≡ true
may_be_stopped all span cuts ops workers calls b k left =
    let kept : IsKept b.core = kept_law span cuts b.log b.core k.inside (runs_from_honest all (opening span cuts) b.log b.core k.board.honest) in
    marked-there _ b.core.segments b.core.end kept.adjoin kept.after_to_mark kept.mark_to_upto kept.owned_remains left

stopped-closed : (mark : List ℕ) (ss : List Segment) → may_stop mark ss ≡ true → list_all is_closed (stopped mark ss) ≡ true
stopped-closed mark [] h = absurd (cc (h))
stopped-closed mark (s ∷ ss) h =
    let low = not-true (less s.mark (At mark)) (and-left (not (less s.mark (At mark))) (not (less (At mark) s.mark)) h) in
    ap (λ (b : Bool). not b && true) low

-- and nothing is left of it then
pub none_left : {R : Type 0} (old new : Held R) (mark : List ℕ) (reply : Reply) (rows : List R) → Adds old (StopAt mark) reply rows new → all_closed new.core ≡ true
none_left old new mark reply rows adds = ap (λ (s : State). list_all is_closed s.segments) adds.step.new_is ∙ stopped-closed mark old.core.segments adds.step.fit

pub stop_finishes : {R : Type 0} (all : List (Entry R)) (span : Span) (cuts : List (List ℕ)) (ops : List Event) (workers calls : ℕ) (old new : Held R) (mark : List ℕ) (reply : Reply) (rows : List R) (log : List Event)
    → IsRun all span cuts ops workers old calls → At mark ≡ first_mark old.core → Adds old (StopAt mark) reply rows new → IsBoardOf all span cuts new → log ≡ new.log → Finishes all (opening span cuts) workers log
stop_finishes all span cuts ops workers calls old new mark reply rows log k at adds board is = record {
  last = new.core;
  runs = subst (λ (l : List Event). HonestRuns all (opening span cuts) l new.core) (sym is) board.honest;
  seats = ap (λ (l : List Event). are_by workers l) (is ∙ adds.logged) ∙ by_stopped workers old.log mark k.grown.shared;
  closed = none_left old new mark reply rows adds;
  short = λ s. subst AreShortEvents (sym (is ∙ adds.logged)) (events-more old.log (StopAt mark ∷ []) (k.short s) (stop-short old.core mark (board-short all span cuts old k.board k.short s) at, tt));
}

-- its log is the board's, followed by the stop
pub stopped_log : {R : Type 0} (old new : Held R) (mark : List ℕ) (reply : Reply) (rows : List R) (log : List Event) → At mark ≡ first_mark old.core → Adds old (StopAt mark) reply rows new → log ≡ new.log → IsStopped old log
stopped_log old new mark reply rows log at adds is = record { mark = mark; mark_is = at; log_is = is ∙ adds.logged }
