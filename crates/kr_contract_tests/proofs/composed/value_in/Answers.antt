use Rattle.std.proofs.Common.{◌<◌, ℕ, sym, subst, length, arith}
use Rattle.kr_mean.specs.Problem.{choices_at, slots}
use Rattle.kr_space_layout.specs.Bounds.{bare}
use Rattle.kr_build.proofs.Rows.{in_vector}
use Rattle.kr_contract_tests.proofs.composed.value_in.Goals as goal

pub get-requires : goal.get-requires
get-requires c =
    let h : c.args.slot < length (slots (bare c.args.layout.now)) = omega (arith, c.if-slot-slots.true, c.slots.ensures) in
    (in_vector (bare c.args.layout.now) c.args.vector.now c.args.slot c.requires.vector h).slot

pub value-requires-clause-index : goal.value-requires-clause-index
value-requires-clause-index c =
    let h : c.args.slot < length (slots (bare c.args.layout.now)) = omega (arith, c.if-slot-slots.true, c.slots.ensures) in
    subst (λ (i : ℕ). i < length (choices_at (bare c.args.layout.now) c.args.slot)) (sym c.get.ensures)
    (in_vector (bare c.args.layout.now) c.args.vector.now c.args.slot c.requires.vector h).index
