use Rattle.std.proofs.Common.{[], Option, ℕ, ◌+◌, ◌≡◌, ◌≤◌, ap, ◌∙◌, subst, false, sym, refl, arith}
use Rattle.kr_board.specs.Held.{Held}
use Rattle.kr_board.specs.Taking.{take_event, reply_of}
use Rattle.kr_board.specs.Windows.{CountsFew}
use Rattle.kr_core.specs.Rows.{drained}
use Rattle.kr_survey.specs.Takings.{is_past}
use Rattle.kr_pool_desk.specs.Draining.{rows_kept}
use Rattle.kr_pool_desk.specs.Leasing.{Takes}
use Rattle.kr_pool_desk.specs.Short.{IsShortRun}
use Rattle.kr_pool_desk.proofs.Growing.{run-more, take-shared, take-drained, take-quiet}
use Rattle.kr_pool_desk.proofs.Keeping.{take-kept}
use Rattle.kr_pool_desk.proofs.Leased.{takes}
use Rattle.kr_pool_desk.proofs.Short.{board-short, take-short}
use Rattle.kr_pool_desk.proofs.Limits.{event_keeps, open_begins, quiet_kept}
use Rattle.kr_pool.specs.Owning.{IsOwn}
use Rattle.kr_pool.proofs.Owned.{by_ok, by_result}
use Rattle.kr_pool.proofs.alone.Alone.take.Goals as goal

pub invariant_of-self : goal.invariant_of-self
invariant_of-self g c =
    let n = g.N.Run in let m = g.N.Crew in
    let old = c.self.inside.board in
    let new = c.take-taken.new.self in
    let i = c.self.invariant in
    let open' = subst (λ (v : Held g.row.R.Denot). is_past n.limit (drained v.log) ≡ false) (sym c.self.view_is) c.requires.open in
    by_result _ _ _ _ c.take-taken.result c.take-taken.ensures.event c.take-taken.ensures.stays c.take-taken.ensures.unchanged
    (λ taken event stays.
    let q = quiet_kept n.limit old new (take_event 0 old.core) _ _ (drained old.log) c.self.inside.wanted (take-quiet 0 old.core) (open_begins n.limit (drained old.log) (take_event 0 old.core) open') event refl i.left i.begun in
    record {
      calls = i.calls + 1;
      run = run-more n.all n.span n.cuts n.opening m.workers i.calls (i.calls + 1) old new _ _ _ i.run event (stays n.all n.span n.cuts i.run.ascends i.run.inside i.run.board) (take-shared m.workers 0 old.core i.some) refl (λ s. take-short 0 old.core (board-short n.all n.span n.cuts old i.run.board i.run.short s));
      left = q.1;
      begun = q.2;
      window_is = event.window ∙ i.window_is;
      kept = event_keeps n.window _ old new _ _ _ i.run.board.replays event (subst (λ (o : Option ℕ). CountsFew o new.core) (event.window ∙ i.window_is) c.counts_few.ensures) i.kept;
      some = i.some;
    })
    (λ same. subst (λ (b : Held g.row.R.Denot). IsOwn n.all n.span n.cuts n.opening m.workers n.window n.limit b c.self.inside.wanted) (sym same) i)

pub returns-clause-lease : goal.returns-clause-lease
returns-clause-lease g c =
    let n = g.N.Run in
    by_ok (Takes (IsShortRun n.all n.span n.cuts) 0) _ c.take-taken.result c.take-taken.ensures.event (λ taken event. takes n.all n.span n.cuts n.opening g.N.Crew.workers c.self.invariant.calls 0 c.self.inside.board c.take-taken.new.self taken c.self.invariant.run event)

pub returns-clause-drained : goal.returns-clause-drained
returns-clause-drained g c =
    by_result _ _ _ _ c.take-taken.result c.take-taken.ensures.event c.take-taken.ensures.stays c.take-taken.ensures.unchanged (λ taken event stays. take-drained c.self.inside.board c.take-taken.new.self 0 _ [] event)
    (λ same. ap (λ (v : Held g.row.R.Denot). drained v.log) same)
    ∙ ap (λ (v : Held g.row.R.Denot). drained v.log) c.self.view_is

pub returns-clause-kept : goal.returns-clause-kept
returns-clause-kept g c =
    subst (λ (v : Held g.row.R.Denot). rows_kept c.take-taken.new.self ≤ rows_kept v) c.self.view_is
    (by_result _ _ _ _ c.take-taken.result c.take-taken.ensures.event c.take-taken.ensures.stays c.take-taken.ensures.unchanged (λ taken event stays. take-kept c.self.inside.board c.take-taken.new.self 0 (reply_of taken) event)
    (λ same. let e = ap (λ (v : Held g.row.R.Denot). rows_kept v) same in omega (arith, e)))
