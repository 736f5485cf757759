use Rattle.std.proofs.Common.{◌<◌, ◌+◌, ◌^◌, arith, rules, sym}
use Rattle.kr_space_layout.specs.Bounds.{bare}
use Rattle.kr_build.proofs.Rows.{roots_inside}
use Rattle.kr_laws_pruning.proofs.Places.{parameter_slots_are}
use Rattle.kr_judge.proofs.Spots.{no_parameter}
use Rattle.kr_judge.proofs.places.parameter_slot.Goals as goal

pub overflow_add-result : goal.overflow_add-result
overflow_add-result c =
    let r = roots_inside (bare c.args.layout.now) in
    let f : c.args.number + 1 < 2 ^ 32 = omega (arith, r, c.requires.small, c.parameters.ensures, c.if-number-parameters.true) in
    search rules

pub returns-then-number-parameters : goal.returns-then-number-parameters
returns-then-number-parameters c = sym (parameter_slots_are (bare c.args.layout.now) c.requires.well c.args.number (omega (arith, c.parameters.ensures, c.if-number-parameters.true)))

pub returns-else-number-parameters : goal.returns-else-number-parameters
returns-else-number-parameters c = sym (no_parameter (bare c.args.layout.now) c.args.number (omega (arith, c.parameters.ensures, c.if-number-parameters.false)))
