use Rattle.std.proofs.Common.{ℕ, Option, [], ◌<◌, refl, sym, subst, ap, ◌∙◌}
use Rattle.kr_board.specs.Held.{Held}
use Rattle.kr_board.specs.Windows.{CountsFew}
use Rattle.kr_core.specs.Rows.{drained}
use Rattle.kr_core.specs.declared.event.Event.TheVariants.{GiveUp}
use Rattle.kr_core.specs.declared.event.Reply.TheVariants.{Noted}
use Rattle.kr_pool_desk.proofs.Growing.{run-more, give_up-shared, same-drained}
use Rattle.kr_pool_desk.proofs.Limits.{event_keeps, quiet_kept}
use Rattle.kr_pool_desk.proofs.desk.Desk.give_up.Goals as goal

pub invariant_of-self-in-Released : goal.invariant_of-self-in-Released
invariant_of-self-in-Released g c =
    let n = g.N.Run in let m = g.N.Crew in
    let old = c.self.inside.board in
    let k = c.self.invariant.0 in
    let q = quiet_kept n.limit old c.give_up.new.self (GiveUp c.args.lease.now.seat c.args.lease.now.segment) Noted _ _ c.self.inside.wanted refl refl (c.in-Released.ensures.event refl) c.self.invariant.2 c.self.invariant.3 c.self.invariant.4 in (
      run-more n.all n.span n.cuts n.opening m.workers c.self.inside.calls.total c.add.new.self.total old c.give_up.new.self _ _ _ k (c.in-Released.ensures.event refl)
          (c.in-Released.ensures.stays n.all n.span n.cuts k.ascends k.inside k.board)
          (give_up-shared m.workers c.args.lease.now.seat c.args.lease.now.segment (subst (λ (s : ℕ). s < m.workers) (sym c.requires.lease) c.requires.below)) c.add.ensures.total (λ s. tt),
      (c.in-Released.ensures.event refl).window ∙ c.self.invariant.1,
      q.0,
      q.1,
      q.2,
      event_keeps n.window _ old c.give_up.new.self _ _ _ k.board.replays (c.in-Released.ensures.event refl) (subst (λ (o : Option ℕ). CountsFew o c.give_up.new.self.core) ((c.in-Released.ensures.event refl).window ∙ c.self.invariant.1) c.counts_few.ensures)
          c.self.invariant.5,
    )

pub returns-in-Released-clause-drained : goal.returns-in-Released-clause-drained
returns-in-Released-clause-drained g c =
    same-drained c.self.inside.board c.give_up.new.self (GiveUp c.args.lease.now.seat c.args.lease.now.segment) Noted [] refl (c.in-Released.ensures.event refl)
    ∙ ap (λ (v : Held g.row.R.Denot × ℕ). drained v.0.log) c.self.view_is
