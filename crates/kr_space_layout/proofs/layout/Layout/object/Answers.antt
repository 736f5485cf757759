use Rattle.std.proofs.Common.{◌∙◌, arith, sym}
use Rattle.kr_space_layout.proofs.Layouts.{known, shape_is}
use Rattle.kr_space_layout.proofs.layout.Layout.object.Goals as goal

pub index-shape-requires : goal.index-shape-requires
index-shape-requires c = omega (arith, c.requires.slot, (known c.self.inside c.args.self.now c.self.invariant.0 c.self.view_is).long, c.self.invariant.1.long, c.self.inside.shapes.ok.0)

pub returns-then-shape : goal.returns-then-shape
returns-then-shape c =
    let shape = shape_is c.self.inside c.args.self.now c.self.invariant.0 c.self.view_is c.self.invariant.1 c.args.slot c.index-shape.result.now c.requires.slot c.index-shape.ensures in
    c.object.ensures ∙ sym (shape.objects c.if-shape.true c.args.index c.requires.index)
