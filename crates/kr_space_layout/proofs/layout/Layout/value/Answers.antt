use Rattle.std.proofs.Common.{◌∙◌, arith, sym}
use Rattle.kr_space_layout.proofs.Layouts.{known, shape_is}
use Rattle.kr_space_layout.proofs.layout.Layout.value.Goals as goal

pub index-shape-requires : goal.index-shape-requires
index-shape-requires c = omega (arith, c.requires.slot, (known c.self.inside c.args.self.now c.self.invariant.0 c.self.view_is).long, c.self.invariant.1.long, c.self.inside.shapes.ok.0)

pub reference-requires-clause-from : goal.reference-requires-clause-from
reference-requires-clause-from c = (c.has_object.ensures c.if-has_object.true).1

pub reference-requires-clause-index : goal.reference-requires-clause-index
reference-requires-clause-index c =
    let shape = shape_is c.self.inside c.args.self.now c.self.invariant.0 c.self.view_is c.self.invariant.1 c.args.slot c.index-shape.result.now c.requires.slot c.index-shape.ensures in
    omega (arith, shape.size, c.requires.index)

pub reference-requires-clause-fits : goal.reference-requires-clause-fits
reference-requires-clause-fits c =
    (shape_is c.self.inside c.args.self.now c.self.invariant.0 c.self.view_is c.self.invariant.1 c.args.slot c.index-shape.result.now c.requires.slot c.index-shape.ensures).fits

pub returns-then-has_object : goal.returns-then-has_object
returns-then-has_object c =
    let shape = shape_is c.self.inside c.args.self.now c.self.invariant.0 c.self.view_is c.self.invariant.1 c.args.slot c.index-shape.result.now c.requires.slot c.index-shape.ensures in
    let told = c.has_object.ensures c.if-has_object.true in
    c.reference.ensures ∙ sym (shape.values c.args.index told.0 told.1 c.requires.index)
