use Rattle.std.proofs.Common.{◌≡◌, ◌∙◌, ap, sym, subst, true, false, List}
use Rattle.kr_core.specs.declared.segment.Segment.{Segment}
use Rattle.kr_core.specs.States.{State, segment_of}
use Rattle.kr_core.specs.Steps.{may_report}
use Rattle.kr_core.specs.Reaches.{closes, WouldLease}
use Rattle.kr_core.proofs.Reports.{spent_step, done_step, go_step}
use Rattle.kr_core.proofs.machine.Core.report.Goals as goal

pub returns-then-spent-clause-step : goal.returns-then-spent-clause-step
returns-then-spent-clause-step c =
    let s = c.self.inside in
    let old : State = record { segments = s.segments.items; next = s.next; past = s.past; end = s.end; spent = s.spent } in
    let may = subst (λ (t : State). may_report c.args.seat c.args.reach c.args.rows c.args.tried c.args.spent (segment_of c.args.segment t.segments) ≡ true) (sym c.self.view_is) c.requires in
    rw (← c.self.view_is)
    (spent_step old c.args.seat c.args.segment c.args.reach c.args.rows c.args.tried c.args.spent c.end_at.new.segments.items c.in_ok-end.end c.if-spent.true may c.end_at.ensures c.in_ok-end.ensures)

pub returns-in-None-clause-step : goal.returns-in-None-clause-step
returns-in-None-clause-step c =
    let s = c.self.inside in
    let old : State = record { segments = s.segments.items; next = s.next; past = s.past; end = s.end; spent = s.spent } in
    let may = subst (λ (t : State). may_report c.args.seat c.args.reach c.args.rows c.args.tried c.args.spent (segment_of c.args.segment t.segments) ≡ true) (sym c.self.view_is) c.requires in
    let whole : closes c.args.reach (segment_of c.args.segment old.segments) ≡ true =
    ap (λ (xs : List Segment). closes c.args.reach (segment_of c.args.segment xs)) (sym c.as_slice.ensures.value) ∙ (rw c.in-None.is at c.in_ok-lease_from.ensures.none) in
    rw (← c.self.view_is)
    (done_step old c.args.seat c.args.segment c.args.reach c.args.rows c.args.tried c.args.spent c.scan_to.new.segments.items c.if-spent.false may whole c.scan_to.ensures)

pub returns-in-Some-clause-step : goal.returns-in-Some-clause-step
returns-in-Some-clause-step c =
    let s = c.self.inside in
    let old : State = record { segments = s.segments.items; next = s.next; past = s.past; end = s.end; spent = s.spent } in
    let may = subst (λ (t : State). may_report c.args.seat c.args.reach c.args.rows c.args.tried c.args.spent (segment_of c.args.segment t.segments) ≡ true) (sym c.self.view_is) c.requires in
    let given = rw c.in-Some.is at c.in_ok-lease_from.ensures.some in
    let whole : closes c.args.reach (segment_of c.args.segment old.segments) ≡ false =
    ap (λ (xs : List Segment). closes c.args.reach (segment_of c.args.segment xs)) (sym c.as_slice.ensures.value) ∙ given.1 in
    let would = subst (λ (xs : List Segment). WouldLease c.args.seat c.args.reach (segment_of c.args.segment xs) c.in-Some.lease) c.as_slice.ensures.value given.0 in
    rw (← c.self.view_is)
    (go_step old c.args.seat c.args.segment c.args.reach c.args.rows c.args.tried c.args.spent c.scan_to-in-Some.new.segments.items c.in-Some.lease c.if-spent.false may whole would c.scan_to-in-Some.ensures)
