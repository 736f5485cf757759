use Rattle.std.proofs.Common.{◌<◌, ℕ, ap, ◌∙◌, sym, subst, length, get_or}
use Rattle.kr_value.specs.declared.value.Value.{Value}
use Rattle.kr_mean.specs.Heaps.{length_in}
use Rattle.kr_mean.specs.Problem.{choices_at}
use Rattle.kr_mean.specs.Space.{no_choice}
use Rattle.kr_space_layout.specs.Bounds.{bare}
use Rattle.kr_build.specs.Extents.{is_array}
use Rattle.kr_build.proofs.Rows.{in_vector}
use Rattle.kr_build.proofs.objects.extent.Goals as goal

pub get-requires : goal.get-requires
get-requires c = (in_vector (bare c.args.layout.now) c.args.vector.now c.args.first c.requires.vector (c.requires.array (ap is_array c.in-Array.is))).slot

pub value-requires-clause-index : goal.value-requires-clause-index
value-requires-clause-index c =
    subst (λ (i : ℕ). i < length (choices_at (bare c.args.layout.now) c.args.first)) (sym c.get.ensures)
    (in_vector (bare c.args.layout.now) c.args.vector.now c.args.first c.requires.vector (c.requires.array (ap is_array c.in-Array.is))).index

pub length_of-requires : goal.length_of-requires
length_of-requires c =
    subst (λ (x : Value). length_in x < 2147483648)
    (sym (c.value.ensures ∙ ap (λ (i : ℕ). (get_or (choices_at (bare c.args.layout.now) c.args.first) i no_choice).value) c.get.ensures))
    (c.requires.short (ap is_array c.in-Array.is))
