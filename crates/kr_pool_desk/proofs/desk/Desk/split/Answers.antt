use Rattle.std.proofs.Common.{◌≡◌, ℕ, Option, ◌<◌, [], true, false, refl, sym, subst, ap, ◌∙◌}
use Rattle.kr_board.specs.Held.{Held}
use Rattle.kr_board.specs.Windows.{CountsFew}
use Rattle.kr_core.specs.Rows.{drained}
use Rattle.kr_core.specs.States.{segment_of}
use Rattle.kr_core.specs.Steps.{may_give_up}
use Rattle.kr_core.specs.declared.event.Event.TheVariants.{Steal}
use Rattle.kr_core.specs.declared.event.Reply.TheVariants.{Lease as Leased}
use Rattle.kr_survey.specs.Takings.{is_past}
use Rattle.kr_pool_desk.proofs.Growing.{run-more, steal-shared, same-drained}
use Rattle.kr_pool_desk.proofs.Limits.{event_keeps, open_begins, quiet_kept}
use Rattle.kr_pool_desk.proofs.Laid.{stolen_fits}
use Rattle.kr_pool_desk.proofs.Short.{board-short, split-short}
use Rattle.kr_pool_desk.proofs.desk.Desk.split.Goals as goal

pub invariant_of-self-in-Ok-Some : goal.invariant_of-self-in-Ok-Some
invariant_of-self-in-Ok-Some g c =
    let n = g.N.Run in let m = g.N.Crew in
    let old = c.self.inside.board in
    let k = c.self.invariant.0 in
    let event = rw c.in-Ok-Some.field-0-is at c.in-Ok-Some.ensures.event in
    let theft = Steal c.args.lease.now.seat c.args.lease.now.segment c.in-Ok-Some.rest.mark old.core.next in
    let open' = subst (λ (v : Held g.row.R.Denot × ℕ). is_past n.limit (drained v.0.log) ≡ false) (sym c.self.view_is) c.requires.open in
    let q = quiet_kept n.limit old c.split.new.self theft _ _ _ c.self.inside.wanted refl (open_begins n.limit (drained old.log) theft open') event c.self.invariant.2 c.self.invariant.3 c.self.invariant.4 in (
      run-more n.all n.span n.cuts n.opening m.workers c.self.inside.calls.total c.add.new.self.total old c.split.new.self (Steal c.args.lease.now.seat c.args.lease.now.segment c.in-Ok-Some.rest.mark old.core.next) (Leased c.in-Ok-Some.rest) [] k event
          (c.in-Ok-Some.ensures.stays n.all n.span n.cuts k.ascends k.inside k.board)
          (steal-shared m.workers c.args.lease.now.seat c.args.lease.now.segment old.core.next c.in-Ok-Some.rest.mark (subst (λ (s : ℕ). s < m.workers) (sym c.requires.lease) c.requires.below)) c.add.ensures.total (λ s. split-short old.core c.args.lease.now c.in-Ok-Some.rest.mark (board-short n.all n.span n.cuts old k.board k.short s) (rw c.in-Ok-Some.field-0-is at c.in-Ok-Some.ensures.cut)),
      event.window ∙ c.self.invariant.1,
      q.0,
      q.1,
      q.2,
      event_keeps n.window _ old c.split.new.self _ _ _ k.board.replays event (subst (λ (o : Option ℕ). CountsFew o c.split.new.self.core) (event.window ∙ c.self.invariant.1) c.counts_few.ensures) c.self.invariant.5,
    )

pub returns-in-Ok-Some-clause-drained : goal.returns-in-Ok-Some-clause-drained
returns-in-Ok-Some-clause-drained g c =
    let old = c.self.inside.board in
    let event = rw c.in-Ok-Some.field-0-is at c.in-Ok-Some.ensures.event in
    same-drained old c.split.new.self (Steal c.args.lease.now.seat c.args.lease.now.segment c.in-Ok-Some.rest.mark old.core.next) (Leased c.in-Ok-Some.rest) [] refl event
    ∙ ap (λ (v : Held g.row.R.Denot × ℕ). drained v.0.log) c.self.view_is

pub returns-in-Ok-Some-clause-owned : goal.returns-in-Ok-Some-clause-owned
returns-in-Ok-Some-clause-owned g c =
    let n = g.N.Run in
    let old = c.self.inside.board in
    let event = rw c.in-Ok-Some.field-0-is at c.in-Ok-Some.ensures.event in
    subst (λ (s : ℕ). may_give_up s (segment_of c.in-Ok-Some.rest.segment c.split.new.self.core.segments) ≡ true) c.requires.lease
    (stolen_fits n.all n.span n.cuts n.opening g.N.Crew.workers c.self.inside.calls.total c.args.lease.now.seat c.args.lease.now.segment c.in-Ok-Some.rest.mark old c.split.new.self c.in-Ok-Some.rest c.self.invariant.0 event)

pub returns-in-Ok-Some-clause-short : goal.returns-in-Ok-Some-clause-short
returns-in-Ok-Some-clause-short g c s =
    let n = g.N.Run in
    let old = c.self.inside.board in
    let k = c.self.invariant.0 in
    split-short old.core c.args.lease.now c.in-Ok-Some.rest.mark (board-short n.all n.span n.cuts old k.board k.short s) (rw c.in-Ok-Some.field-0-is at c.in-Ok-Some.ensures.cut)
