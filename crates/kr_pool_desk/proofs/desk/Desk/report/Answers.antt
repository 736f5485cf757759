use Rattle.std.proofs.Common.{ℕ, Option, ◌+◌, ◌<◌, ◌≤◌, sym, subst, ap, ◌∙◌}
use Rattle.kr_board.specs.Held.{Held}
use Rattle.kr_board.specs.Windows.{CountsFew}
use Rattle.kr_core.specs.Rows.{drained}
use Rattle.kr_board.specs.Reporting.{reply_of, report_event}
use Rattle.kr_board.proofs.Windows.{few}
use Rattle.kr_pool_desk.proofs.Growing.{run-more, report-shared, report-drained, report-quiet}
use Rattle.kr_pool_desk.proofs.Limits.{event_keeps, quiet_kept, report_begins}
use Rattle.kr_pool_desk.proofs.Leased.{reports}
use Rattle.kr_pool_desk.proofs.Short.{report-short}
use Rattle.std.specs.Prelude.{length}
use Rattle.kr_pool_desk.specs.Draining.{rows_kept}
use Rattle.kr_pool_desk.proofs.Keeping.{report-kept}
use Rattle.kr_pool_desk.proofs.desk.Desk.report.Goals as goal

pub report-requires-clause-possible : goal.report-requires-clause-possible
report-requires-clause-possible g c = (c.part_law.ensures g.N.Run.all c.args.lease.mark c.args.part).possible c.requires.honest

pub report-requires-clause-few : goal.report-requires-clause-few
report-requires-clause-few g c = few c.self.inside.board.window _ c.requires.few

pub invariant_of-self-in-Ok : goal.invariant_of-self-in-Ok
invariant_of-self-in-Ok g c =
    let n = g.N.Run in let m = g.N.Crew in
    let old = c.self.inside.board in
    let k = c.self.invariant.0 in
    let q = quiet_kept n.limit old c.report.new.self (report_event old c.args.lease c.args.part) _ _ _ c.self.inside.wanted (report-quiet old c.args.lease c.args.part) (report_begins n.limit (drained old.log) old c.args.lease c.args.part) c.in-Ok.ensures.event
    c.self.invariant.2 c.self.invariant.3 c.self.invariant.4 in (
      run-more n.all n.span n.cuts n.opening m.workers c.self.inside.calls.total c.add.new.self.total old c.report.new.self _ _ _ k c.in-Ok.ensures.event
          (c.in-Ok.ensures.stays n.all n.span n.cuts k.ascends k.inside c.requires.honest k.board)
          (report-shared m.workers old c.args.lease c.args.part (subst (λ (s : ℕ). s < m.workers) (sym c.requires.lease) c.requires.below)) c.add.ensures.total (λ s. report-short old c.args.lease c.args.part (c.requires.short s)),
      c.in-Ok.ensures.event.window ∙ c.self.invariant.1,
      q.0,
      q.1,
      q.2,
      event_keeps n.window _ old c.report.new.self _ _ _ k.board.replays c.in-Ok.ensures.event (subst (λ (o : Option ℕ). CountsFew o c.report.new.self.core) (c.in-Ok.ensures.event.window ∙ c.self.invariant.1) c.counts_few.ensures) c.self.invariant.5,
    )

pub returns-in-Ok-clause-lease : goal.returns-in-Ok-clause-lease
returns-in-Ok-clause-lease g c =
    let n = g.N.Run in let m = g.N.Crew in
    reports n.all n.span n.cuts n.opening m.workers c.self.inside.calls.total c.args.seat c.self.inside.board c.report.new.self c.args.lease c.args.part c.in-Ok.reported c.self.invariant.0 c.requires.short c.requires.lease
    c.in-Ok.ensures.refusal c.in-Ok.ensures.event

pub returns-in-Ok-clause-drained : goal.returns-in-Ok-clause-drained
returns-in-Ok-clause-drained g c = report-drained c.self.inside.board c.report.new.self c.args.lease c.args.part (reply_of c.in-Ok.reported) c.args.part.rows c.in-Ok.ensures.event
    ∙ ap (λ (v : Held g.row.R.Denot × ℕ). drained v.0.log) c.self.view_is

pub returns-in-Ok-clause-kept : goal.returns-in-Ok-clause-kept
returns-in-Ok-clause-kept g c =
    subst (λ (v : Held g.row.R.Denot × ℕ). rows_kept c.report.new.self ≤ rows_kept v.0 + length c.args.part.rows) c.self.view_is
    (report-kept c.self.inside.board c.report.new.self c.args.lease c.args.part (reply_of c.in-Ok.reported) c.in-Ok.ensures.event)
