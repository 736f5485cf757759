use Rattle.std.proofs.Common.{◌<◌, ◌∙◌, ℕ, ap, get_or, length, sym, subst}
use Rattle.kr_mean.specs.Problem.{choices_at}
use Rattle.kr_mean.specs.Space.{no_choice}
use Rattle.kr_space_layout.specs.Bounds.{bare}
use Rattle.kr_build.proofs.Rows.{in_vector}
use Rattle.kr_build.proofs.structure.value_of.Goals as goal

pub get-requires : goal.get-requires
get-requires c = (in_vector (bare c.args.layout.now) c.args.vector.now c.args.slot c.requires.vector c.requires.slot).slot

pub value-requires-clause-index : goal.value-requires-clause-index
value-requires-clause-index c =
    subst (λ (i : ℕ). i < length (choices_at (bare c.args.layout.now) c.args.slot)) (sym c.get.ensures)
    (in_vector (bare c.args.layout.now) c.args.vector.now c.args.slot c.requires.vector c.requires.slot).index

pub returns : goal.returns
returns c = c.value.ensures ∙ ap (λ (i : ℕ). (get_or (choices_at (bare c.args.layout.now) c.args.slot) i no_choice).value) c.get.ensures
