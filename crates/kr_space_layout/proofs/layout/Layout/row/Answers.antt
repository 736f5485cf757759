use Rattle.std.proofs.Common.{arith}
use Rattle.kr_mean.specs.Problem.{choices_at}
use Rattle.kr_mean.specs.Space.{space_of}
use Rattle.kr_space_layout.specs.Bounds.{bare}
use Rattle.kr_space_layout.proofs.Layouts.{known, shape_is}
use Rattle.kr_space_layout.proofs.layout.Layout.row.Goals as goal

pub index-requires : goal.index-requires
index-requires c = omega (arith, c.requires.slot, (known c.self.inside c.args.self.now c.self.invariant.0 c.self.view_is).long, c.self.invariant.1.long, c.self.inside.shapes.ok.0)

pub row-requires : goal.row-requires
row-requires c =
    let shape = shape_is c.self.inside c.args.self.now c.self.invariant.0 c.self.view_is c.self.invariant.1 c.args.slot c.index.result.now c.requires.slot c.index.ensures in
    omega (arith, shape.size, c.requires.index)

pub returns : goal.returns
unfolding space_of
returns c =
    let shape = shape_is c.self.inside c.args.self.now c.self.invariant.0 c.self.view_is c.self.invariant.1 c.args.slot c.index.result.now c.requires.slot c.index.ensures in
    let alike = c.row.ensures (choices_at (bare c.args.self.now) c.args.slot) shape in
    record { within = alike.within; each = alike.each }
