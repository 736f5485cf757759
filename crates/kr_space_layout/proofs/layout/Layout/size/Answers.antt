use Rattle.std.proofs.Common.{arith}
use Rattle.kr_space_layout.proofs.Layouts.{known, shape_is}
use Rattle.kr_space_layout.proofs.layout.Layout.size.Goals as goal

pub index-requires : goal.index-requires
index-requires c = omega (arith, c.requires, (known c.self.inside c.args.self.now c.self.invariant.0 c.self.view_is).long, c.self.invariant.1.long, c.self.inside.shapes.ok.0)

pub returns : goal.returns
returns c = (shape_is c.self.inside c.args.self.now c.self.invariant.0 c.self.view_is c.self.invariant.1 c.args.slot c.index.result.now c.requires c.index.ensures).size
