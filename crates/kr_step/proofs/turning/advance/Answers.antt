use Rattle.std.proofs.Common.{ℕ, Bool, Vec, Global, subst}
use Rattle.kr_step.specs.Keeps.{Follows}
use Rattle.kr_step.specs.Steps.{IsStuck}
use Rattle.kr_step.specs.Turns.{Turned}
use Rattle.kr_step.proofs.Limits.{advanced_along, opens_none}
use Rattle.kr_step.proofs.Turns.{stuck_along}
use Rattle.kr_step.proofs.turning.advance.Goals as goal

pub returns-then-step_on-clause-advanced : goal.returns-then-step_on-clause-advanced
returns-then-step_on-clause-advanced g c = λ after stuck.
    let S = g.C.Slots.space c.args.candidates.now in
    let o = g.C.Candidate.order c.args.candidates.now in
    subst (λ (b : Bool). Turned S o after b (g.C.Candidate.vector c.step_on.new.candidates) c.step_on.new.path.items) c.if-step_on.true (c.step_on.ensures.stepped after stuck)

pub go_back-requires : goal.go_back-requires
go_back-requires g c =
    let S = g.C.Slots.space c.args.candidates.now in
    let o = g.C.Candidate.order c.args.candidates.now in
    let v = g.C.Candidate.vector c.step_on.new.candidates in
    let path = c.step_on.new.path.items in
    let after = c.requires.stuck.0 in
    let here : IsStuck S o after v path = subst (λ (b : Bool). Turned S o after b v path) c.if-step_on.false (c.step_on.ensures.stepped after c.requires.stuck.1) in
    (after, stuck_along S (g.C.Slots.space c.step_on.new.candidates) o (g.C.Candidate.order c.step_on.new.candidates) after v path c.step_on.ensures.space c.step_on.ensures.order here)

pub returns-clause-opens : goal.returns-clause-opens
returns-clause-opens g c = opens_none (g.C.Slots.space c.args.candidates.now) c.go_back.new.path.items

pub returns-clause-advanced : goal.returns-clause-advanced
returns-clause-advanced g c = λ after stuck.
    let S = g.C.Slots.space c.args.candidates.now in
    let o = g.C.Candidate.order c.args.candidates.now in
    let T = g.C.Slots.space c.step_on.new.candidates in
    let p = g.C.Candidate.order c.step_on.new.candidates in
    let v = g.C.Candidate.vector c.step_on.new.candidates in
    let path = c.step_on.new.path.items in
    let here : IsStuck S o after v path = subst (λ (b : Bool). Turned S o after b v path) c.if-step_on.false (c.step_on.ensures.stepped after stuck) in
    advanced_along S T o p after c.go_back.result (g.C.Candidate.vector c.go_back.new.candidates) c.go_back.new.path.items c.step_on.ensures.space c.step_on.ensures.order
    (c.go_back.ensures.advanced after (stuck_along S T o p after v path c.step_on.ensures.space c.step_on.ensures.order here))

pub returns-clause-front : goal.returns-clause-front
returns-clause-front g c = λ t.
    subst (λ (x : Vec (ℕ × ℕ) Global). Follows x.items c.go_back.new.path.items) (c.step_on.ensures.kept c.if-step_on.false) (c.go_back.ensures.front t)
