use Rattle.std.proofs.Common.{List, ℕ, sym, subst, ◌∙◌}
use Rattle.std.specs.Prelude.{IfOk, Result}
use Rattle.kr_core.specs.Openings.{AreInside, opening}
use Rattle.kr_core.specs.declared.event.Event.{Event}
use Rattle.kr_core.proofs.Cuts.{cuts_inside}
use Rattle.kr_pool_desk.specs.Limits.{KeepsWindow}
use Rattle.kr_pool.specs.Sharing.{IsLog, SharesLogged}
use Rattle.kr_survey.specs.Listings.{listed_in}
use Rattle.kr_survey.specs.declared.taker.End.{End}
use Rattle.kr_survey.specs.declared.taker.Halt.{Halt}
use Rattle.kr_survey.specs.declared.taker.Room.TheVariants.{More}
use Rattle.kr_pool.proofs.Handed.{named_ok}
use Rattle.kr_pool.proofs.shares.share_run.Goals as goal

pub share_on-ended-requires-clause-inside : goal.share_on-ended-requires-clause-inside
share_on-ended-requires-clause-inside g c κs within =
    subst (λ (cuts : List (List ℕ)). AreInside cuts c.args.span) (sym (c.as_slice.ensures.value ∙ c.in-Ok.ensures)) (cuts_inside c.args.span c.args.workers)

pub returns-in-Err-clause-shares : goal.returns-in-Err-clause-shares
returns-in-Err-clause-shares g c = (0, More, c.requires.fresh)

pub returns-in-Ok-clause-shares : goal.returns-in-Ok-clause-shares
returns-in-Ok-clause-shares g c =
    subst (λ (r : Result (End × List Event) Halt). SharesLogged g.T.Taker.takes (listed_in g.N.Run.all g.N.Run.span) g.N.Crew.workers c.args.taker.now c.args.out.now c.share_on-ended.new.taker c.share_on-ended.new.out r) (sym c.name_log.ensures)
    (c.share_on-ended.ensures.shares c.args.taker.now c.args.out.now c.requires.fresh)

pub returns-in-Ok-clause-log : goal.returns-in-Ok-clause-log
returns-in-Ok-clause-log g c =
    let n = g.N.Run in
    subst (λ (r : Result (End × List Event) Halt). IfOk r (λ x. IsLog n.all (opening n.span n.cuts) g.N.Crew.workers n.limit x.0 x.1)) (sym c.name_log.ensures)
    (named_ok (λ x. IsLog n.all (opening n.span n.cuts) g.N.Crew.workers n.limit x.0 x.1) c.share_on-ended.result c.share_on-ended.ensures.log)

pub returns-in-Ok-clause-window : goal.returns-in-Ok-clause-window
returns-in-Ok-clause-window g c =
    let n = g.N.Run in
    subst (λ (r : Result (End × List Event) Halt). IfOk r (λ x. KeepsWindow n.window (opening n.span n.cuts) x.1)) (sym c.name_log.ensures)
    (named_ok (λ x. KeepsWindow n.window (opening n.span n.cuts) x.1) c.share_on-ended.result c.share_on-ended.ensures.window)
