use Rattle.std.proofs.Common.{◌<◌, ◌+◌, ◌^◌, arith, rules}
use Rattle.kr_space_layout.specs.Bounds.{bare}
use Rattle.kr_build.proofs.Rows.{roots_inside}
use Rattle.kr_build.proofs.walk.Walk.walk.Goals as goal

pub overflow_cast-roots : goal.overflow_cast-roots
overflow_cast-roots c =
    let r = roots_inside (bare c.args.layout.now) in
    let f : c.parameters.result < 2 ^ 32 = omega (arith, r, c.requires.small, c.parameters.ensures) in
    search rules

pub overflow_add-roots : goal.overflow_add-roots
overflow_add-roots c =
    let r = roots_inside (bare c.args.layout.now) in
    let f : c.parameters.result + 1 < 2 ^ 32 = omega (arith, r, c.requires.small, c.parameters.ensures) in
    search rules

pub add_slots-requires : goal.add_slots-requires
add_slots-requires c = λ j h.
    let r = roots_inside (bare c.args.layout.now) in
    omega (arith, r, h, c.requires.small, c.parameters.ensures)
