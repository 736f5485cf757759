use Rattle.std.proofs.Common.{◌<◌, ◌-◌, length, arith, refl}
use Rattle.kr_iso.specs.Objects.{shown, object_of}
use Rattle.kr_iso.specs.Unused.{IsReached}
use Rattle.kr_iso.proofs.Drops.{in_at, near_at}
use Rattle.kr_iso.proofs.choice.is_reached.Goals as goal

pub object_at-requires-clause-slot : goal.object_at-requires-clause-slot
object_at-requires-clause-slot g c =
    let some = c.loop-left-test.true in
    let inside : c.loop-left.left - 1 < length c.args.path.now = omega arith in
    (in_at (g.S.Slots.space c.args.slots.now) c.args.path.now (c.loop-left.left - 1) inside c.requires).0

pub object_at-requires-clause-index : goal.object_at-requires-clause-index
object_at-requires-clause-index g c =
    let some = c.loop-left-test.true in
    let inside : c.loop-left.left - 1 < length c.args.path.now = omega arith in
    (in_at (g.S.Slots.space c.args.slots.now) c.args.path.now (c.loop-left.left - 1) inside c.requires).1

pub returns-then-is_near : goal.returns-then-is_near
returns-then-is_near g c =
    let some = c.loop-left-test.true in
    let inside : c.loop-left.left - 1 < length c.args.path.now = omega arith in
    let near = c.is_near.ensures.0 c.if-is_near.true in
    let r : IsReached (g.S.Slots.space c.args.slots.now) c.args.path.now (object_of c.args.object) =
    near_at (g.S.Slots.space c.args.slots.now) c.args.path.now (c.loop-left.left - 1) (object_of c.args.object) (shown c.object_at.result) inside c.object_at.ensures near in
    (λ t. r, λ x. refl)
