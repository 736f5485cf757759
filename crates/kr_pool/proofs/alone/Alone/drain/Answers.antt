use Rattle.std.proofs.Common.{◌+◌, ◌≤◌, ◌≡◌, ℕ, Option, List, length, take, drop, sym, subst, ap, ◌∙◌, [], refl, arith}
use Rattle.kr_board.specs.Held.{Held}
use Rattle.kr_board.specs.Windows.{CountsFew}
use Rattle.kr_core.specs.Rows.{drained}
use Rattle.kr_core.specs.declared.event.Event.{Event}
use Rattle.kr_core.specs.declared.event.Event.TheVariants.{Drain}
use Rattle.kr_core.specs.declared.event.Reply.TheVariants.{Noted}
use Rattle.kr_survey.specs.Listings.{listed_in}
use Rattle.kr_survey.specs.Scans.{rows_of}
use Rattle.kr_pool_desk.specs.Draining.{last_rows, rows_kept}
use Rattle.kr_pool_desk.specs.Limits.{IsWanted}
use Rattle.kr_pool_desk.proofs.Drained.{last_drained}
use Rattle.kr_pool_desk.proofs.Growing.{run-more, drain-drained, drain-shared}
use Rattle.kr_pool_desk.proofs.Keeping.{drain-kept}
use Rattle.kr_pool_desk.proofs.Limits.{event_keeps, event_within}
use Rattle.kr_pool_desk.proofs.Nexts.{next_rows, all_drained}
use Rattle.kr_pool.proofs.alone.Alone.drain.Goals as goal

pub invariant_of-self-in-Ok : goal.invariant_of-self-in-Ok
invariant_of-self-in-Ok g c =
    let n = g.N.Run in let m = g.N.Crew in
    let k = c.self.invariant.run in
    let old = c.self.inside.board in
    let new = c.drain.new.self in
    let event = c.in-Ok.ensures.event in
    let more = drain-drained old new (length c.in-Ok.rows) Noted [] event in
    let last = ap (λ (l : List Event). last_rows l) c.log.ensures ∙ last_drained old.log new.log (Drain (length c.in-Ok.rows)) event.logged in
    let count : c.last_rows.result ≡ length c.in-Ok.rows = c.last_rows.ensures ∙ last in
    let now : drained old.log + c.last_rows.result ≡ drained new.log = omega (arith, more, count) in
    record {
      calls = c.self.invariant.calls + 1;
      run = run-more n.all n.span n.cuts n.opening m.workers c.self.invariant.calls (c.self.invariant.calls + 1) old new (Drain (length c.in-Ok.rows)) Noted [] k event (c.in-Ok.ensures.stays n.all n.span n.cuts k.ascends k.inside k.board)
          (drain-shared m.workers (length c.in-Ok.rows)) refl (λ s. tt);
      left = subst (λ (d : ℕ). IsWanted n.limit d c.after-self-inside.result) now (c.after-self-inside.ensures n.limit (drained old.log) c.self.invariant.left);
      begun = event_within n.limit old new (Drain (length c.in-Ok.rows)) Noted [] refl event c.self.invariant.begun;
      window_is = event.window ∙ c.self.invariant.window_is;
      kept = event_keeps n.window _ old new _ _ _ k.board.replays event (subst (λ (o : Option ℕ). CountsFew o new.core) (event.window ∙ c.self.invariant.window_is) c.counts_few.ensures) c.self.invariant.kept;
      some = c.self.invariant.some;
    }

pub returns-in-Ok-clause-rows : goal.returns-in-Ok-clause-rows
returns-in-Ok-clause-rows g c =
    let n = g.N.Run in
    let k = c.self.invariant.run in
    next_rows n.all n.span n.cuts c.self.inside.board c.in-Ok.rows k.ascends k.inside k.board c.in-Ok.ensures.rows
    ∙ ap (λ (v : Held g.row.R.Denot). take (length c.in-Ok.rows) (drop (drained v.log) (rows_of (listed_in n.all n.span)))) c.self.view_is

pub returns-in-Ok-clause-given : goal.returns-in-Ok-clause-given
returns-in-Ok-clause-given g c = drain-drained c.self.inside.board c.drain.new.self (length c.in-Ok.rows) Noted [] c.in-Ok.ensures.event ∙ ap (λ (v : Held g.row.R.Denot). drained v.log + length c.in-Ok.rows) c.self.view_is

pub returns-in-Ok-clause-last : goal.returns-in-Ok-clause-last
returns-in-Ok-clause-last g c q =
    let n = g.N.Run in let m = g.N.Crew in
    let k = c.self.invariant.run in
    let old = c.self.inside.board in
    let new = c.drain.new.self in
    let calls = c.self.invariant.calls + 1 in
    let run = run-more n.all n.span n.cuts n.opening m.workers c.self.invariant.calls calls old new (Drain (length c.in-Ok.rows)) Noted [] k c.in-Ok.ensures.event (c.in-Ok.ensures.stays n.all n.span n.cuts k.ascends k.inside k.board)
    (drain-shared m.workers (length c.in-Ok.rows)) refl (λ s. tt) in
    all_drained n.all n.span n.cuts n.opening m.workers calls (length c.in-Ok.rows) old new Noted run c.in-Ok.ensures.event (sym c.is_finished-finished.ensures ∙ q)

pub returns-in-Ok-clause-kept : goal.returns-in-Ok-clause-kept
returns-in-Ok-clause-kept g c =
    subst (λ (v : Held g.row.R.Denot). rows_kept c.drain.new.self + length c.in-Ok.rows ≤ rows_kept v) c.self.view_is
    (drain-kept c.self.inside.board c.drain.new.self c.in-Ok.rows (length c.in-Ok.rows) Noted c.in-Ok.ensures.rows c.in-Ok.ensures.event)
