use Rattle.std.proofs.Common.{ℕ, List, [], subst}
use Rattle.std.specs.Prelude.{IsTrue, ◌↔◌}
use Rattle.kr_mean.specs.Choices.{AllowedAlong}
use Rattle.kr_mean.specs.Space.{Space}
use Rattle.kr_plain.proofs.least.is_least.Goals as goal

pub returns-clause-least : goal.returns-clause-least
returns-clause-least g c =
    let r = c.args.candidates.now in
    let S = g.C.Slots.space r in
    let v = g.C.Candidate.vector r in
    let law = c.choice_law.ensures S (g.C.Candidate.order r) (g.C.Candidate.ending r) c.laws.ensures.space c.laws.ensures.reading v (record { long = c.requires.long; within = c.requires.within }) in
    let on_space = subst (λ (s : Space). IsTrue c.in_ok-allowed.allowed ↔ AllowedAlong s (g.C.Candidate.vector c.run.new.self) [] (g.C.Candidate.last c.run.new.self)) c.in_ok-run.ensures.space c.in_ok-allowed.ensures in
    let on_vector = subst (λ (u : List ℕ). IsTrue c.in_ok-allowed.allowed ↔ AllowedAlong S u [] (g.C.Candidate.last c.run.new.self)) c.in_ok-run.ensures.vector on_space in
    let along = subst (λ (ss : List ℕ). IsTrue c.in_ok-allowed.allowed ↔ AllowedAlong S v [] ss) c.in_ok-run.ensures.last on_vector in
    (λ t. law.1 (along.0 t), λ l. along.1 (law.0 l))
