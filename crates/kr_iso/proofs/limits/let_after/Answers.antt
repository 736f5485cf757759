use Rattle.std.proofs.Common.{◌<◌, ◌-◌, length, arith}
use Rattle.kr_iso.specs.Objects.{shown, object_of}
use Rattle.kr_iso.specs.Rows.{further}
use Rattle.kr_iso.proofs.Drops.{in_at, near_at}
use Rattle.kr_iso.proofs.Unused.{first_may, reached_may}
use Rattle.kr_iso.proofs.limits.let_after.Goals as goal

pub object_at-requires-clause-slot : goal.object_at-requires-clause-slot
object_at-requires-clause-slot g c =
    let some = c.loop-left-test.true in
    let inside : c.loop-left.left - 1 < length c.args.path.now = omega arith in
    (in_at (g.S.Slots.space c.args.slots.now) c.args.path.now (c.loop-left.left - 1) inside c.requires.path).0

pub object_at-requires-clause-index : goal.object_at-requires-clause-index
object_at-requires-clause-index g c =
    let some = c.loop-left-test.true in
    let inside : c.loop-left.left - 1 < length c.args.path.now = omega arith in
    (in_at (g.S.Slots.space c.args.slots.now) c.args.path.now (c.loop-left.left - 1) inside c.requires.path).1

pub returns-then-count-gt0 : goal.returns-then-count-gt0
returns-then-count-gt0 g c = λ n h.
    let S = g.S.Slots.space c.args.slots.now in
    let some = c.loop-left-test.true in
    let inside : c.loop-left.left - 1 < length c.args.path.now = omega arith in
    let o = further (object_of c.args.object) n in
    reached_may S c.args.path.now o c.requires.allowed (near_at S c.args.path.now (c.loop-left.left - 1) o (shown c.object_at.result) inside c.object_at.ensures (c.let_by-count.ensures n h))

pub returns-then-object-eq0 : goal.returns-then-object-eq0
returns-then-object-eq0 g c = λ n h. first_may (g.S.Slots.space c.args.slots.now) c.args.path.now (further (object_of c.args.object) n) (omega (arith, h, c.if-object-eq0.true))

pub returns-else-object-eq0 : goal.returns-else-object-eq0
returns-else-object-eq0 g c = λ n h. absurd (omega (arith, h))
