use Rattle.std.proofs.Common.{◌+◌, ◌≤◌, ◌≡◌, ℕ, Option, List, length, take, drop, sym, subst, ap, ◌∙◌, [], refl, arith}
use Rattle.kr_board.specs.Held.{Held}
use Rattle.kr_board.specs.Windows.{CountsFew}
use Rattle.kr_core.specs.Rows.{drained}
use Rattle.kr_core.specs.declared.event.Event.{Event}
use Rattle.kr_core.specs.declared.event.Event.TheVariants.{Drain}
use Rattle.kr_core.specs.declared.event.Reply.TheVariants.{Noted}
use Rattle.kr_survey.specs.Listings.{listed_in}
use Rattle.kr_survey.specs.Scans.{rows_of}
use Rattle.kr_pool_desk.specs.Draining.{last_rows, rows_kept}
use Rattle.kr_pool_desk.specs.Limits.{IsWanted}
use Rattle.kr_pool_desk.proofs.Drained.{last_drained}
use Rattle.kr_pool_desk.proofs.Growing.{run-more, drain-drained, drain-shared}
use Rattle.kr_pool_desk.proofs.Keeping.{drain-kept}
use Rattle.kr_pool_desk.proofs.Limits.{event_keeps, event_within}
use Rattle.kr_pool_desk.proofs.Nexts.{next_rows, all_drained}
use Rattle.kr_pool_desk.proofs.desk.Desk.drain.Goals as goal

pub invariant_of-self-in-Ok : goal.invariant_of-self-in-Ok
invariant_of-self-in-Ok g c =
    let n = g.N.Run in let m = g.N.Crew in
    let k = c.self.invariant.0 in
    let old = c.self.inside.board in
    let new = c.drain.new.self in
    let event = c.in-Ok.ensures.event in
    let more = drain-drained old new (length c.in-Ok.rows) Noted [] event in
    let last = ap (λ (l : List Event). last_rows l) c.log.ensures ∙ last_drained old.log new.log (Drain (length c.in-Ok.rows)) event.logged in
    let count : c.last_rows-count.result ≡ length c.in-Ok.rows = c.last_rows-count.ensures ∙ last in
    let now : drained old.log + c.last_rows-count.result ≡ drained new.log = omega (arith, more, count) in
    let total : drained new.log ≡ c.add-in-Ok.new.self.total = (let a = c.add-in-Ok.ensures.total in let b = c.audit.ensures.total in let d = c.self.invariant.2 in omega (arith, now, a, b, d)) in (
      run-more n.all n.span n.cuts n.opening m.workers c.self.inside.calls.total c.add.new.self.total old new (Drain (length c.in-Ok.rows)) Noted [] k event (c.in-Ok.ensures.stays n.all n.span n.cuts k.ascends k.inside k.board)
          (drain-shared m.workers (length c.in-Ok.rows)) c.add.ensures.total (λ s. tt),
      event.window ∙ c.self.invariant.1,
      total,
      subst (λ (d : ℕ). IsWanted n.limit d c.after-self-inside.result) now (c.after-self-inside.ensures n.limit (drained old.log) c.self.invariant.3),
      event_within n.limit old new (Drain (length c.in-Ok.rows)) Noted [] refl event c.self.invariant.4,
      event_keeps n.window _ old new _ _ _ k.board.replays event (subst (λ (o : Option ℕ). CountsFew o new.core) (event.window ∙ c.self.invariant.1) c.counts_few.ensures) c.self.invariant.5,
    )

pub returns-in-Ok-clause-rows : goal.returns-in-Ok-clause-rows
returns-in-Ok-clause-rows g c =
    let n = g.N.Run in
    let k = c.self.invariant.0 in
    let at : drained c.self.inside.board.log ≡ c.args.tap.now.amount = c.self.invariant.2 ∙ sym (c.audit.ensures.whole c.requires.whole) in
    next_rows n.all n.span n.cuts c.self.inside.board c.in-Ok.rows k.ascends k.inside k.board c.in-Ok.ensures.rows ∙ ap (λ (d : ℕ). take (length c.in-Ok.rows) (drop d (rows_of (listed_in n.all n.span)))) at

pub returns-in-Ok-clause-counted : goal.returns-in-Ok-clause-counted
returns-in-Ok-clause-counted g c =
    let event = c.in-Ok.ensures.event in
    let last = ap (λ (l : List Event). last_rows l) c.log.ensures ∙ last_drained c.self.inside.board.log c.drain.new.self.log (Drain (length c.in-Ok.rows)) event.logged in
    let count : c.last_rows-count.result ≡ length c.in-Ok.rows = c.last_rows-count.ensures ∙ last in
    let a = c.add-in-Ok.ensures.amount in let b = c.audit.ensures.amount in omega (arith, a, b, count)

pub returns-in-Ok-clause-last : goal.returns-in-Ok-clause-last
returns-in-Ok-clause-last g c q =
    let n = g.N.Run in let m = g.N.Crew in
    let k = c.self.invariant.0 in
    let old = c.self.inside.board in
    let new = c.drain.new.self in
    let event = c.in-Ok.ensures.event in
    let run = run-more n.all n.span n.cuts n.opening m.workers c.self.inside.calls.total c.add.new.self.total old new (Drain (length c.in-Ok.rows)) Noted [] k event (c.in-Ok.ensures.stays n.all n.span n.cuts k.ascends k.inside k.board)
    (drain-shared m.workers (length c.in-Ok.rows)) c.add.ensures.total (λ s. tt) in
    let all = all_drained n.all n.span n.cuts n.opening m.workers c.add.new.self.total (length c.in-Ok.rows) old new Noted run event (sym c.is_finished-finished.ensures ∙ q) in
    let more = drain-drained old new (length c.in-Ok.rows) Noted [] event in
    let given = returns-in-Ok-clause-counted g c in
    let at = c.audit.ensures.whole c.requires.whole in
    let d = c.self.invariant.2 in
    omega (arith, all, more, given, at, d)

pub returns-in-Ok-clause-kept : goal.returns-in-Ok-clause-kept
returns-in-Ok-clause-kept g c =
    subst (λ (v : Held g.row.R.Denot × ℕ). rows_kept c.drain.new.self + length c.in-Ok.rows ≤ rows_kept v.0) c.self.view_is
    (drain-kept c.self.inside.board c.drain.new.self c.in-Ok.rows (length c.in-Ok.rows) Noted c.in-Ok.ensures.rows c.in-Ok.ensures.event)

pub returns-in-Ok-clause-observed : goal.returns-in-Ok-clause-observed
returns-in-Ok-clause-observed g c =
    let whole = invariant_of-self-in-Ok g c in
    let more = drain-drained c.self.inside.board c.drain.new.self (length c.in-Ok.rows) Noted [] c.in-Ok.ensures.event in
    let given = returns-in-Ok-clause-counted g c in
    let at = c.audit.ensures.whole c.requires.whole in
    let d = c.self.invariant.2 in
    let b = c.add.ensures.total in let e = c.add.ensures.amount in
    record {
      old = c.self.inside.board;
      new = c.drain.new.self;
      call = record { before = c.self.inside.calls.total; now = c.add.new.self.total; old_run = c.self.invariant.0; new_run = whole.0; counted = omega (arith, b, e) };
      front = c.in-Ok.ensures.rows;
      event = c.in-Ok.ensures.event;
      given = omega (arith, more, given, at, d);
      finished_is = c.is_finished-finished.ensures;
    }
