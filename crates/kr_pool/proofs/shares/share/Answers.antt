use Rattle.std.proofs.Common.{List, sym, subst}
use Rattle.kr_core.specs.Openings.{opening}
use Rattle.kr_core.specs.declared.event.Event.{Event}
use Rattle.kr_core.specs.Cutting.{cuts_for}
use Rattle.kr_pool_desk.specs.Limits.{KeepsWindow}
use Rattle.kr_pool.specs.Sharing.{IsLogOf}
use Rattle.kr_survey.specs.Listings.{listed_in}
use Rattle.kr_pool.proofs.Handed.{logged_ends}
use Rattle.kr_pool.proofs.shares.share.Goals as goal

pub returns-in-Ok-clause-shares : goal.returns-in-Ok-clause-shares
returns-in-Ok-clause-shares g c =
    logged_ends g.T.Taker.takes (listed_in (g.S.Survey.all c.args.survey.now) c.args.span) c.args.workers c.in-Ok.log c.args.taker.now c.args.out.now c.share_run.new.taker c.share_run.new.out c.in-Ok.end c.in-Ok.ensures.shares

pub returns-in-Ok-clause-log : goal.returns-in-Ok-clause-log
returns-in-Ok-clause-log g c =
    subst (λ (log : List Event). IsLogOf (g.S.Survey.all c.args.survey.now) c.args.span c.args.workers (g.T.Taker.limit c.args.taker.now) c.in-Ok.end log) (sym c.into_events.ensures) c.in-Ok.ensures.log

pub returns-in-Ok-clause-window : goal.returns-in-Ok-clause-window
returns-in-Ok-clause-window g c =
    subst (λ (log : List Event). KeepsWindow c.args.window (opening c.args.span (cuts_for c.args.span c.args.workers)) log) (sym c.into_events.ensures) c.in-Ok.ensures.window
