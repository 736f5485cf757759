use Rattle.std.proofs.Common.{◌≡◌, ◌+◌, ◌<◌, ℕ, ap, sym, subst, length, ◌∙◌, get_or}
use Rattle.kr_mean.specs.Heaps.{value_at}
use Rattle.kr_mean.specs.Space.{no_choice}
use Rattle.kr_mean.specs.Problem.{choices_at}
use Rattle.kr_space_layout.specs.Bounds.{bare}
use Rattle.kr_value.specs.Heaps.{object_in}
use Rattle.kr_build.proofs.Changed.{with_next}
use Rattle.kr_build.proofs.Rows.{in_vector}
use Rattle.kr_build.proofs.updates.push_values.Goals as goal

pub get-requires : goal.get-requires
get-requires c = (in_vector (bare c.args.layout.now) c.args.vector.now (c.args.stretch.first + c.loop-number.number) c.requires.vector (c.requires.inside c.loop-number.number c.loop-number-test.true)).slot

pub value-requires-clause-index : goal.value-requires-clause-index
value-requires-clause-index c =
    subst (λ (i : ℕ). i < length (choices_at (bare c.args.layout.now) (c.args.stretch.first + c.loop-number.number))) (sym c.get.ensures)
    (in_vector (bare c.args.layout.now) c.args.vector.now (c.args.stretch.first + c.loop-number.number) c.requires.vector (c.requires.inside c.loop-number.number c.loop-number-test.true)).index

pub loop-number-preserved : goal.loop-number-preserved
loop-number-preserved c =
    let f = value_at (bare c.args.layout.now) c.args.vector.now in
    let at = c.args.stretch.first + c.loop-number.number in
    let value : c.value.result ≡ f at = c.value.ensures ∙ ap (λ (i : ℕ). (get_or (choices_at (bare c.args.layout.now) at) i no_choice).value) c.get.ensures in
    with_next c.args.heap.now c.loop-number.heap c.push_value.new.self c.args.object f c.args.stretch.first c.loop-number.number c.value.result (object_in c.args.heap.now c.args.object).values c.loop-number.invariant value c.in_ok-push_value.ensures.added
