use Rattle.std.proofs.Common.{Option, ℕ, ◌+◌, ◌≡◌, ◌<◌, ◌≤◌, sym, subst, ap, ◌∙◌, refl, arith}
use Rattle.std.specs.Prelude.{length}
use Rattle.kr_board.specs.Held.{Held}
use Rattle.kr_board.specs.Reporting.{reply_of, report_event}
use Rattle.kr_board.proofs.Windows.{few}
use Rattle.kr_board.specs.Windows.{CountsFew}
use Rattle.kr_core.specs.Rows.{drained}
use Rattle.kr_pool_desk.specs.Draining.{rows_kept}
use Rattle.kr_pool_desk.proofs.Growing.{run-more, report-shared, report-drained, report-quiet}
use Rattle.kr_pool_desk.proofs.Keeping.{report-kept}
use Rattle.kr_pool_desk.proofs.Short.{report-short}
use Rattle.kr_pool_desk.proofs.Limits.{event_keeps, quiet_kept, report_begins}
use Rattle.kr_pool.specs.Owning.{IsOwn}
use Rattle.kr_pool.proofs.Owned.{by_result}
use Rattle.kr_pool.proofs.alone.Alone.report.Goals as goal

pub report-reported-requires-clause-possible : goal.report-reported-requires-clause-possible
report-reported-requires-clause-possible g c = (c.part_law.ensures g.N.Run.all c.args.lease.mark c.args.part).possible c.requires.honest

pub report-reported-requires-clause-few : goal.report-reported-requires-clause-few
report-reported-requires-clause-few g c = few c.self.inside.board.window _ c.requires.few

pub invariant_of-self-2 : goal.invariant_of-self-2
invariant_of-self-2 g c =
    let n = g.N.Run in let m = g.N.Crew in
    let old = c.self.inside.board in
    let new = c.report-reported.new.self in
    let i = c.self.invariant in
    by_result _ _ _ _ c.report-reported.result c.report-reported.ensures.event c.report-reported.ensures.stays c.report-reported.ensures.unchanged
    (λ reported event stays.
    let q = quiet_kept n.limit old new (report_event old c.args.lease c.args.part) _ _ (drained old.log) c.self.inside.wanted (report-quiet old c.args.lease c.args.part) (report_begins n.limit (drained old.log) old c.args.lease c.args.part) event refl
    i.left i.begun in
    record {
      calls = i.calls + 1;
      run = run-more n.all n.span n.cuts n.opening m.workers i.calls (i.calls + 1) old new _ _ _ i.run event (stays n.all n.span n.cuts i.run.ascends i.run.inside c.requires.honest i.run.board)
          (report-shared m.workers old c.args.lease c.args.part (subst (λ (s : ℕ). s < m.workers) (sym c.requires.lease) i.some)) refl (λ s. report-short old c.args.lease c.args.part (c.requires.short s));
      left = q.1;
      begun = q.2;
      window_is = event.window ∙ i.window_is;
      kept = event_keeps n.window _ old new _ _ _ i.run.board.replays event (subst (λ (o : Option ℕ). CountsFew o new.core) (event.window ∙ i.window_is) c.counts_few.ensures) i.kept;
      some = i.some;
    })
    (λ same. subst (λ (b : Held g.row.R.Denot). IsOwn n.all n.span n.cuts n.opening m.workers n.window n.limit b c.self.inside.wanted) (sym same) i)

pub returns-clause-drained : goal.returns-clause-drained
returns-clause-drained g c =
    by_result _ _ _ _ c.report-reported.result c.report-reported.ensures.event c.report-reported.ensures.stays c.report-reported.ensures.unchanged
    (λ reported event stays. report-drained c.self.inside.board c.report-reported.new.self c.args.lease c.args.part (reply_of reported) c.args.part.rows event) (λ same. ap (λ (v : Held g.row.R.Denot). drained v.log) same)
    ∙ ap (λ (v : Held g.row.R.Denot). drained v.log) c.self.view_is

pub returns-clause-kept : goal.returns-clause-kept
returns-clause-kept g c =
    subst (λ (v : Held g.row.R.Denot). rows_kept c.report-reported.new.self ≤ rows_kept v + length c.args.part.rows) c.self.view_is
    (by_result _ _ _ _ c.report-reported.result c.report-reported.ensures.event c.report-reported.ensures.stays c.report-reported.ensures.unchanged
    (λ reported event stays. report-kept c.self.inside.board c.report-reported.new.self c.args.lease c.args.part (reply_of reported) event) (λ same. let e = ap (λ (v : Held g.row.R.Denot). rows_kept v) same in omega (arith, e)))
