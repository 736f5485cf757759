use Rattle.std.proofs.Common.{◌∙◌, ◌≡◌, ℕ, arith, get_or, sym}
use Rattle.std.specs.Prelude.{None, Some, pos}
use Rattle.kr_mean.specs.Problem.{slot_at}
use Rattle.kr_space_layout.specs.Bounds.{bare}
use Rattle.kr_value.specs.declared.value.Value.{Value}
use Rattle.kr_value.specs.declared.value.Value.TheVariants.{Int}
use Rattle.kr_report_rows.specs.Parts.{number_in}
use Rattle.kr_report_rows.proofs.Arguments.{no_more, no_parameter, some_parameter}
use Rattle.kr_report_rows.proofs.parameters.has_parameters.Goals as goal

pub returns-in-Some : goal.returns-in-Some
returns-in-Some c = λ names.
    let d : ℕ × Value = (0, Int (pos 0)) in
    let b = bare c.args.layout.now in
    let xs = c.args.structure.now in
    let k = c.loop-entry.entry-index in
    let e : number_in (slot_at b (get_or xs k d).0).place ≡ Some c.in-Some.field-0 = sym c.parameter_at.ensures ∙ c.in-Some.is in
    sym (c.loop-entry.invariant names ∙ some_parameter b names xs k d c.in-Some.field-0 c.loop-entry-test.true e)

pub loop-entry-preserved : goal.loop-entry-preserved
loop-entry-preserved c = λ names.
    let d : ℕ × Value = (0, Int (pos 0)) in
    let b = bare c.args.layout.now in
    let xs = c.args.structure.now in
    let k = c.loop-entry.entry-index in
    let e : number_in (slot_at b (get_or xs k d).0).place ≡ None = sym c.parameter_at.ensures ∙ c.in-None.is in
    c.loop-entry.invariant names ∙ no_parameter b names xs k d c.loop-entry-test.true e

pub returns : goal.returns
returns c = λ names.
    sym (c.loop-entry.invariant names ∙ no_more (bare c.args.layout.now) names c.args.structure.now c.loop-entry.entry-index (omega (arith, c.loop-entry-test.false)))
