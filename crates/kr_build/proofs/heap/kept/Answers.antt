use Rattle.std.proofs.Common.{◌+◌, ◌<◌, arith}
use Rattle.kr_build.proofs.heap.kept.Goals as goal

pub returns-in-Array-clause-inside : goal.returns-in-Array-clause-inside
returns-in-Array-clause-inside c = λ j h.
    let n = c.without_first.ensures.count in
    let some : 0 < c.args.stretch.count = omega (arith, h, n) in
    let f = c.without_first.ensures.first some in
    (j + 1, omega (arith, h, n), omega (arith, f))
