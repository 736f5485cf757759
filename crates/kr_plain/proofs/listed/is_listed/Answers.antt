use Rattle.std.proofs.Common.{ℕ, List, [], subst, sym, ◌∙◌}
use Rattle.kr_mean.specs.Choices.{AllowedAlong}
use Rattle.kr_mean.specs.Space.{IsVector}
use Rattle.kr_plain.specs.Plain.{IsSettledUpto}
use Rattle.kr_plain.proofs.listed.is_listed.Goals as goal

pub returns-then-not-branch : goal.returns-then-not-branch
returns-then-not-branch g c =
    let r = c.args.candidates.now in
    let S = g.C.Slots.space r in
    let v = g.C.Candidate.vector r in
    let law = c.choice_law.ensures S (g.C.Candidate.order r) (g.C.Candidate.ending r) c.laws.ensures.space c.laws.ensures.reading v (record { long = c.requires.vector.long; within = c.requires.vector.within }) in (
      λ t. absurd (cc (t)),
      λ l. sym c.if-not-branch.true ∙ c.in_ok-is_allowed_along.ensures.1 (subst (λ (ss : List ℕ). AllowedAlong S v [] ss) (sym c.requires.last) (law.0 l.least)),
    )

pub returns : goal.returns
returns g c =
    let r = c.args.candidates.now in
    let S = g.C.Slots.space r in
    let v = g.C.Candidate.vector r in
    let is : IsVector S v = record { long = c.requires.vector.long; within = c.requires.vector.within } in
    let law = c.choice_law.ensures S (g.C.Candidate.order r) (g.C.Candidate.ending r) c.laws.ensures.space c.laws.ensures.reading v is in (
      λ t. record {
        vector = is;
        least = law.1 (subst (λ (ss : List ℕ). AllowedAlong S v [] ss) c.requires.last (c.in_ok-is_allowed_along.ensures.0 c.if-not-branch.false));
        settled = subst (λ (ss : List ℕ). IsSettledUpto S.slots ss v) c.requires.last (c.is_settled.ensures.0 t);
      },
      λ l. c.is_settled.ensures.1 (subst (λ (ss : List ℕ). IsSettledUpto S.slots ss v) (sym c.requires.last) l.settled),
    )
