use Rattle.std.proofs.Common.{◌≡◌, Option, ℕ, List, false, sym, subst, [], ap, ◌∙◌, refl}
use Rattle.kr_core.specs.declared.event.Event.{Event}
use Rattle.kr_core.specs.declared.event.Event.TheVariants.{StopAt}
use Rattle.kr_core.specs.declared.event.Reply.TheVariants.{Noted}
use Rattle.kr_board.specs.Held.{Held}
use Rattle.kr_board.specs.Windows.{CountsFew}
use Rattle.kr_core.specs.Openings.{opening}
use Rattle.kr_board.specs.Closing.{all_closed}
use Rattle.kr_pool_desk.specs.Limits.{KeepsWindow, begins_within}
use Rattle.kr_pool_desk.specs.Stops.{IsStopped}
use Rattle.kr_pool_desk.proofs.Limits.{event_keeps, event_within}
use Rattle.kr_pool_desk.proofs.Stopping.{may_be_stopped, stop_finishes, stopped_log}
use Rattle.kr_pool.proofs.alone.Alone.stop.Goals as goal

pub stop-requires : goal.stop-requires
stop-requires g c =
    let n = g.N.Run in
    may_be_stopped n.all n.span n.cuts n.opening g.N.Crew.workers c.self.invariant.calls c.self.inside.board c.self.invariant.run
    (subst (λ (v : Held g.row.R.Denot). all_closed v.core ≡ false) (sym c.self.view_is) c.requires.unfinished)

pub returns-in-Ok-close_with_log-clause-log : goal.returns-in-Ok-close_with_log-clause-log
returns-in-Ok-close_with_log-clause-log g c =
    let n = g.N.Run in
    let k = c.self.invariant.run in
    stop_finishes n.all n.span n.cuts n.opening g.N.Crew.workers c.self.invariant.calls c.self.inside.board c.stop.new.self _ Noted [] _ k c.in-Ok.ensures.mark c.in-Ok.ensures.event (c.in-Ok.ensures.stays n.all n.span n.cuts k.ascends k.inside k.board)
    c.in-Ok-close_with_log.ensures.log

pub returns-in-Ok-close_with_log-clause-own : goal.returns-in-Ok-close_with_log-clause-own
returns-in-Ok-close_with_log-clause-own g c =
    subst (λ (v : Held g.row.R.Denot). IsStopped v c.in-Ok-close_with_log.field-0.log.items) c.self.view_is (stopped_log c.self.inside.board c.stop.new.self _ Noted [] _ c.in-Ok.ensures.mark c.in-Ok.ensures.event c.in-Ok-close_with_log.ensures.log)

pub returns-in-Ok-close_with_log-clause-begun : goal.returns-in-Ok-close_with_log-clause-begun
returns-in-Ok-close_with_log-clause-begun g c =
    ap (λ (log : List Event). begins_within g.N.Run.limit 0 log) c.in-Ok-close_with_log.ensures.log
    ∙ event_within g.N.Run.limit c.self.inside.board c.stop.new.self _ Noted [] refl c.in-Ok.ensures.event c.self.invariant.begun

pub returns-in-Ok-close_with_log-clause-kept : goal.returns-in-Ok-close_with_log-clause-kept
returns-in-Ok-close_with_log-clause-kept g c =
    let n = g.N.Run in
    let event = c.in-Ok.ensures.event in
    subst (λ (log : List Event). KeepsWindow n.window (opening n.span n.cuts) log) (sym c.in-Ok-close_with_log.ensures.log)
    (event_keeps n.window _ c.self.inside.board c.stop.new.self _ _ _ c.self.invariant.run.board.replays event (subst (λ (o : Option ℕ). CountsFew o c.stop.new.self.core) (event.window ∙ c.self.invariant.window_is) c.counts_few.ensures) c.self.invariant.kept)
