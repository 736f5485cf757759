use Rattle.std.proofs.Common.{◌≡◌, sym, subst, true, List}
use Rattle.kr_core.specs.declared.segment.Segment.{Segment}
use Rattle.kr_core.specs.States.{State, segment_of}
use Rattle.kr_core.specs.Steps.{may_take, IsLease}
use Rattle.kr_core.proofs.Reports.{take_step}
use Rattle.kr_core.proofs.machine.Core.take.Goals as goal

pub returns-clause-step : goal.returns-clause-step
returns-clause-step c =
    let s = c.self.inside in
    let old : State = record { segments = s.segments.items; next = s.next; past = s.past; end = s.end; spent = s.spent } in
    let may = subst (λ (t : State). may_take (segment_of c.args.segment t.segments) ≡ true) (sym c.self.view_is) c.requires in
    let is = subst (λ (xs : List Segment). IsLease c.args.seat (segment_of c.args.segment xs) c.in_ok-lease.lease) c.as_slice.ensures.value c.in_ok-lease.ensures in
    rw (← c.self.view_is) (take_step old c.args.seat c.args.segment c.set_owner.new.segments.items c.in_ok-lease.lease may c.set_owner.ensures is)
