use Rattle.std.proofs.Common.{subst, sym, ℕ, List, ap, ◌∙◌}
use Rattle.kr_board.specs.Held.{Held}
use Rattle.kr_core.specs.declared.event.Event.{Event}
use Rattle.kr_core.specs.Openings.{opening}
use Rattle.kr_core.specs.Rows.{drained}
use Rattle.kr_survey.specs.Listings.{listed_in}
use Rattle.kr_pool_desk.specs.Limits.{KeepsWindow, begins_within}
use Rattle.kr_pool_desk.specs.Listings.{ListsFrom}
use Rattle.kr_pool_desk.specs.Runs.{are_shared}
use Rattle.kr_pool_desk.proofs.Whole.{whole_listing, finishes}
use Rattle.kr_pool.proofs.alone.Alone.close.Goals as goal

pub returns-in-Ok-clause-listing : goal.returns-in-Ok-clause-listing
returns-in-Ok-clause-listing g c =
    let n = g.N.Run in
    subst (λ (v : Held g.row.R.Denot). ListsFrom (drained v.log) (listed_in n.all n.span) c.in-Ok.logged.listing) c.self.view_is
    (whole_listing n.all n.span n.cuts n.opening g.N.Crew.workers c.self.invariant.calls c.self.inside.board c.in-Ok.logged.listing c.self.invariant.run c.in-Ok.ensures.finished c.in-Ok.ensures.listing.1)

pub returns-in-Ok-clause-log : goal.returns-in-Ok-clause-log
returns-in-Ok-clause-log g c =
    let n = g.N.Run in
    finishes n.all n.span n.cuts n.opening g.N.Crew.workers c.self.invariant.calls c.self.inside.board c.in-Ok.logged.log.items c.self.invariant.run c.in-Ok.ensures.finished c.in-Ok.ensures.log

pub returns-in-Ok-clause-unstopped : goal.returns-in-Ok-clause-unstopped
returns-in-Ok-clause-unstopped g c = ap (λ (log : List Event). are_shared g.N.Crew.workers log) c.in-Ok.ensures.log ∙ c.self.invariant.run.grown.shared

pub returns-in-Ok-clause-begun : goal.returns-in-Ok-clause-begun
returns-in-Ok-clause-begun g c = ap (λ (log : List Event). begins_within g.N.Run.limit 0 log) c.in-Ok.ensures.log ∙ c.self.invariant.begun

pub returns-in-Ok-clause-kept : goal.returns-in-Ok-clause-kept
returns-in-Ok-clause-kept g c = subst (λ (log : List Event). KeepsWindow g.N.Run.window (opening g.N.Run.span g.N.Run.cuts) log) (sym c.in-Ok.ensures.log) c.self.invariant.kept
