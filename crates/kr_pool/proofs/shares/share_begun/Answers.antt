use Rattle.std.proofs.Common.{◌≡◌, ℕ, subst}
use Rattle.std.specs.Prelude.{Ok, Err, IfOk}
use Rattle.kr_core.specs.Rows.{drained}
use Rattle.kr_survey.specs.Listings.{listed_in}
use Rattle.kr_survey.specs.declared.taker.Room.{Room}
use Rattle.kr_survey.specs.declared.taker.Room.TheVariants.{More, Full}
use Rattle.kr_pool.specs.Handing.{ReachesTo}
use Rattle.kr_pool.specs.Sharing.{SharesRest}
use Rattle.kr_pool.proofs.Handed.{halts, shares_full, shares_then}
use Rattle.kr_pool.proofs.shares.share_begun.Goals as goal

pub returns-in-Err-clause-shares : goal.returns-in-Err-clause-shares
returns-in-Err-clause-shares g c = λ start from t.
    let es = listed_in g.N.Run.all g.N.Run.span in
    let now = c.go_rounds.new in
    let h = subst (λ (d : ℕ). ReachesTo g.T.Taker.takes es d now.rounds.lead.0 c.args.taker.now c.args.out.now now.taker now.out (Err c.in-Err.halt)) c.requires.none c.in-Err.ensures.comes in
    halts g.T.Taker.takes es start from now.taker now.out c.in-Err.halt (h start from t)

pub returns-in-More-clause-shares : goal.returns-in-More-clause-shares
returns-in-More-clause-shares g c =
    let es = listed_in g.N.Run.all g.N.Run.span in
    let now = c.go_rounds.new in
    let h = subst (λ (d : ℕ). ReachesTo g.T.Taker.takes es d now.rounds.lead.0 c.args.taker.now c.args.out.now now.taker now.out (Ok c.in-Ok.came.room)) c.requires.none c.in-Ok.ensures.comes in
    let more = subst (λ (room : Room). ReachesTo g.T.Taker.takes es 0 now.rounds.lead.0 c.args.taker.now c.args.out.now now.taker now.out (Ok room)) c.in-More.is h in
    let rest = subst (λ (d : ℕ). SharesRest g.T.Taker.takes es g.N.Crew.workers d now.taker now.out c.go_on_alone.new.taker c.go_on_alone.new.out c.go_on_alone.result) c.into_alone-alone.ensures c.go_on_alone.ensures.shares in
    shares_then g.T.Taker.takes es g.N.Crew.workers 0 now.rounds.lead.0 c.args.taker.now c.args.out.now now.taker now.out c.go_on_alone.new.taker c.go_on_alone.new.out c.go_on_alone.result more rest

pub returns-in-Full-clause-shares : goal.returns-in-Full-clause-shares
returns-in-Full-clause-shares g c =
    let es = listed_in g.N.Run.all g.N.Run.span in
    let now = c.go_rounds.new in
    let h = subst (λ (d : ℕ). ReachesTo g.T.Taker.takes es d now.rounds.lead.0 c.args.taker.now c.args.out.now now.taker now.out (Ok c.in-Ok.came.room)) c.requires.none c.in-Ok.ensures.comes in
    let full = subst (λ (room : Room). ReachesTo g.T.Taker.takes es 0 now.rounds.lead.0 c.args.taker.now c.args.out.now now.taker now.out (Ok room)) c.in-Full.is h in
    let drained_is = subst (λ (d : ℕ). IfOk c.end_full.result (λ r. drained r.1.items ≡ d)) c.into_alone-alone.ensures c.end_full.ensures.drained in
    shares_full g.T.Taker.takes es g.N.Crew.workers 0 now.rounds.lead.0 c.args.taker.now c.args.out.now now.taker now.out c.end_full.result full c.end_full.ensures.full drained_is
