use Rattle.std.proofs.Common.{[], ℕ, ◌≤◌, ap, ◌∙◌, subst, false, Option, ◌≡◌, sym}
use Rattle.kr_board.specs.Held.{Held}
use Rattle.kr_board.specs.Taking.{take_event, reply_of as take_reply}
use Rattle.kr_board.specs.Windows.{CountsFew}
use Rattle.kr_core.specs.Rows.{drained}
use Rattle.kr_pool_desk.specs.Draining.{rows_kept}
use Rattle.kr_survey.specs.Takings.{is_past}
use Rattle.kr_pool_desk.proofs.Growing.{run-more, take-shared, take-drained, take-quiet}
use Rattle.kr_pool_desk.proofs.Keeping.{take-kept}
use Rattle.kr_pool_desk.proofs.Leased.{takes}
use Rattle.kr_pool_desk.proofs.Short.{board-short, take-short}
use Rattle.kr_pool_desk.proofs.Limits.{event_keeps, open_begins, quiet_kept}
use Rattle.kr_pool_desk.proofs.desk.Desk.take.Goals as goal

pub invariant_of-self-in-Ok : goal.invariant_of-self-in-Ok
invariant_of-self-in-Ok g c =
    let n = g.N.Run in let m = g.N.Crew in
    let old = c.self.inside.board in
    let k = c.self.invariant.0 in
    let open' = subst (λ (v : Held g.row.R.Denot × ℕ). is_past n.limit (drained v.0.log) ≡ false) (sym c.self.view_is) c.requires.open in
    let q = quiet_kept n.limit old c.take.new.self (take_event c.args.seat old.core) _ _ _ c.self.inside.wanted (take-quiet c.args.seat old.core) (open_begins n.limit (drained old.log) (take_event c.args.seat old.core) open') c.in-Ok.ensures.event
    c.self.invariant.2 c.self.invariant.3 c.self.invariant.4 in (
      run-more n.all n.span n.cuts n.opening m.workers c.self.inside.calls.total c.add.new.self.total old c.take.new.self _ _ _ k c.in-Ok.ensures.event (c.in-Ok.ensures.stays n.all n.span n.cuts k.ascends k.inside k.board)
          (take-shared m.workers c.args.seat old.core c.requires.below) c.add.ensures.total (λ s. take-short c.args.seat old.core (board-short n.all n.span n.cuts old k.board k.short s)),
      c.in-Ok.ensures.event.window ∙ c.self.invariant.1,
      q.0,
      q.1,
      q.2,
      event_keeps n.window _ old c.take.new.self _ _ _ k.board.replays c.in-Ok.ensures.event (subst (λ (o : Option ℕ). CountsFew o c.take.new.self.core) (c.in-Ok.ensures.event.window ∙ c.self.invariant.1) c.counts_few.ensures) c.self.invariant.5,
    )

pub returns-in-Ok-clause-lease : goal.returns-in-Ok-clause-lease
returns-in-Ok-clause-lease g c =
    let n = g.N.Run in let m = g.N.Crew in
    takes n.all n.span n.cuts n.opening m.workers c.self.inside.calls.total c.args.seat c.self.inside.board c.take.new.self c.in-Ok.taken c.self.invariant.0 c.in-Ok.ensures.event

pub returns-in-Ok-clause-drained : goal.returns-in-Ok-clause-drained
returns-in-Ok-clause-drained g c = take-drained c.self.inside.board c.take.new.self c.args.seat _ [] c.in-Ok.ensures.event
    ∙ ap (λ (v : Held g.row.R.Denot × ℕ). drained v.0.log) c.self.view_is

pub returns-in-Ok-clause-kept : goal.returns-in-Ok-clause-kept
returns-in-Ok-clause-kept g c = subst (λ (v : Held g.row.R.Denot × ℕ). rows_kept c.take.new.self ≤ rows_kept v.0) c.self.view_is (take-kept c.self.inside.board c.take.new.self c.args.seat (take_reply c.in-Ok.taken) c.in-Ok.ensures.event)
