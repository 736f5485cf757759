use Rattle.std.proofs.Common.{◌≡◌, ◌∙◌, ap, sym, length, arith}
use Rattle.kr_space.proofs.Pooled.{parameter_below}
use Rattle.kr_space.proofs.places.parameter_domain.Goals as goal

pub overflow_add-result : goal.overflow_add-result
overflow_add-result c =
    let long : length c.as_slice.result.now ≡ length c.args.document.now.fields = ap length c.as_slice.ensures in
    let below = parameter_below c.args.document.now c.args.keys.now c.args.key.now c.in-Some.at c.requires.keys (sym c.find.ensures ∙ c.in-Some.is) in
    let few = c.requires.few in
    omega (arith, long, below, few)
