use Rattle.std.proofs.Common.{◌≡◌, ◌++◌, ℕ, List, true, false, ap, sym, ◌∙◌, subst}
use Rattle.kr_mean.specs.Space.{Space}
use Rattle.kr_step.specs.declared.stage.Stage.{Stage}
use Rattle.kr_step.specs.Limits.{Opens}
use Rattle.kr_step.specs.Steps.{IsStuck, path_of}
use Rattle.kr_step.specs.Stages.{StandsAt}
use Rattle.kr_step.proofs.Keeps.{keeps_cut}
use Rattle.kr_step.proofs.Turns.{back, stays_behind, moved_along}
use Rattle.kr_step.proofs.search.find.Goals as goal

pub returns-then-not-advance-clause-stands : goal.returns-then-not-advance-clause-stands
returns-then-not-advance-clause-stands g c = λ after stands.
    let S = g.C.Slots.space c.args.candidates.now in
    let o = g.C.Candidate.order c.args.candidates.now in
    let m = g.C.Candidate.ending c.args.candidates.now in
    let w = g.C.Candidate.vector c.args.candidates.now in
    let on = back S o m c.args.stage.now after w (g.C.Candidate.vector c.advance.new.candidates) c.args.path.now.items c.advance.new.path.items c.advance.result false c.in-Behind.is c.if-not-advance.true (c.advance.ensures.advanced after) stands in
    stays_behind S o m c.args.stage.now after (g.C.Candidate.vector c.advance.new.candidates) c.advance.new.path.items c.in-Behind.is on.0

pub returns-then-not-advance-clause-found : goal.returns-then-not-advance-clause-found
returns-then-not-advance-clause-found g c = λ after stands.
    let S = g.C.Slots.space c.args.candidates.now in
    let o = g.C.Candidate.order c.args.candidates.now in
    let m = g.C.Candidate.ending c.args.candidates.now in
    let w = g.C.Candidate.vector c.args.candidates.now in
    let on = back S o m c.args.stage.now after w (g.C.Candidate.vector c.advance.new.candidates) c.args.path.now.items c.advance.new.path.items c.advance.result false c.in-Behind.is c.if-not-advance.true (c.advance.ensures.advanced after) stands in
    on.1

pub arrive-requires-in-Behind-clause-moved : goal.arrive-requires-in-Behind-clause-moved
arrive-requires-in-Behind-clause-moved g c =
    let S = g.C.Slots.space c.args.candidates.now in
    let o = g.C.Candidate.order c.args.candidates.now in
    let m = g.C.Candidate.ending c.args.candidates.now in
    let w = g.C.Candidate.vector c.args.candidates.now in
    let on = back S o m c.args.stage.now c.requires.stands.0 w (g.C.Candidate.vector c.advance.new.candidates) c.args.path.now.items c.advance.new.path.items c.advance.result true c.in-Behind.is c.if-not-advance.false (c.advance.ensures.advanced c.requires.stands.0) c.requires.stands.1 in
    (c.requires.stands.0, moved_along S (g.C.Slots.space c.advance.new.candidates) o (g.C.Candidate.order c.advance.new.candidates) c.requires.stands.0 (g.C.Candidate.vector c.advance.new.candidates) c.advance.new.path.items c.advance.ensures.space c.advance.ensures.order on)

pub returns-in_ok-ending-in-Behind-clause-kept : goal.returns-in_ok-ending-in-Behind-clause-kept
returns-in_ok-ending-in-Behind-clause-kept g c = λ after stands.
    let S = g.C.Slots.space c.args.candidates.now in
    let o = g.C.Candidate.order c.args.candidates.now in
    let m = g.C.Candidate.ending c.args.candidates.now in
    let w = g.C.Candidate.vector c.args.candidates.now in
    let on = back S o m c.args.stage.now after w (g.C.Candidate.vector c.advance.new.candidates) c.args.path.now.items c.advance.new.path.items c.advance.result true c.in-Behind.is c.if-not-advance.false (c.advance.ensures.advanced after) stands in
    let x = g.C.Candidate.vector c.advance.new.candidates in
    let stuck : IsStuck S o after w c.args.path.now.items = subst (λ (s : Stage). StandsAt S o m s after w c.args.path.now.items) c.in-Behind.is stands in
    let path : c.arrive-in-Behind.new.path.items ≡ c.advance.new.path.items ++ on.leads.0 = c.in_ok-ending-in-Behind.ensures.path ∙ (ap (λ (q : List ℕ → List ℕ). path_of x (q x)) c.advance.ensures.order ∙ on.leads.1) in
    let keeps = keeps_cut after stuck.cut.0 c.args.path.now.items c.advance.new.path.items c.arrive-in-Behind.new.path.items on.leads.0 stuck.cut.1 (c.advance.ensures.front c.if-not-advance.false) path in
    rw c.as_slice.ensures.value keeps

pub arrive-requires-in-Behind-clause-opens : goal.arrive-requires-in-Behind-clause-opens
arrive-requires-in-Behind-clause-opens g c = subst (λ (S : Space). Opens S c.advance.new.path.items c.advance.new.limit) (sym c.advance.ensures.space) c.advance.ensures.opens
