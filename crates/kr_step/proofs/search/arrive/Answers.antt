use Rattle.std.proofs.Common.{drop, length}
use Rattle.kr_step.specs.Steps.{path_of}
use Rattle.kr_step.proofs.Limits.{opens_full}
use Rattle.kr_step.proofs.Turns.{arrived}
use Rattle.kr_step.proofs.search.arrive.Goals as goal

pub returns-clause-path : goal.returns-clause-path
returns-clause-path g c =
    let S = g.C.Slots.space c.args.candidates.now in
    let o = g.C.Candidate.order c.args.candidates.now in
    let w = g.C.Candidate.vector c.args.candidates.now in
    arrived S o c.requires.moved.0 w (g.C.Candidate.vector c.run.new.self) (g.C.Candidate.last c.run.new.self) c.args.path.now.items c.extend.new.path.items c.requires.moved.1 c.run.ensures.vector c.in_ok-ending.ensures.last c.in_ok-extend.ensures.ok

pub returns-clause-opens : goal.returns-clause-opens
returns-clause-opens g c =
    let S = g.C.Slots.space c.args.candidates.now in
    let more = path_of (g.C.Candidate.vector c.run.new.self) (drop (length c.args.path.now.items) (g.C.Candidate.last c.run.new.self)) in
    opens_full S c.args.path.now.items more c.extend.new.path.items c.args.limit.now c.limit_at.result c.in_ok-extend.ensures.ok (λ h. c.limit_at.ensures.same (cc)) (λ n. c.limit_at.ensures.grown (λ e. n (cc))) c.requires.opens
