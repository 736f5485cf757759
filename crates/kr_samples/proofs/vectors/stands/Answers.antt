use Rattle.std.proofs.Common.{ℕ, List, refl, sym, subst}
use Rattle.kr_mean.specs.Space.{IsVector}
use Rattle.kr_plain.proofs.Moving.{vector_zero}
use Rattle.kr_samples.proofs.vectors.stands.Goals as goal

pub returns : goal.returns
returns g c =
    let S = g.C.Slots.space c.args.candidates.now in
    subst (λ (v : List ℕ). IsVector S v) (sym c.requires) (vector_zero S c.laws.ensures.space S.slots refl)
