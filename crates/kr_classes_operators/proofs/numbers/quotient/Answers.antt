use Rattle.std.proofs.Common.{ℤ, to_z, of_z, ap, ◌∙◌}
use Rattle.std.specs.Int.{w64, int_wrapping_div}
use Rattle.std.proofs.lemmas.Int.{to_z-of_z}
use Rattle.kr_classes_table.specs.Numbers.{wrap}
use Rattle.kr_classes_operators.proofs.Wraps.{quotient_wraps}
use Rattle.kr_classes_operators.proofs.numbers.quotient.Goals as goal

pub returns : goal.returns
returns c =
    let first = ap (λ (x : ℤ). int_wrapping_div w64 x (to_z w64 (of_z w64 c.args.b))) (to_z-of_z w64 c.args.a c.ranges.a) in
    let second = ap (int_wrapping_div w64 c.args.a) (to_z-of_z w64 c.args.b c.ranges.b) in
    let quotient = to_z-of_z w64 c.wrapping_div.result (record { sfits = c.wrapping_div.type_inv }) ∙ (c.wrapping_div.ensures ∙ (first ∙ second)) in
    to_z-of_z w64 c.narrowed.result (record { sfits = c.narrowed.type_inv })
    ∙ (c.narrowed.ensures ∙ (ap (wrap c.args.width) quotient ∙ quotient_wraps c.args.width c.args.a c.args.b c.ranges.a))
