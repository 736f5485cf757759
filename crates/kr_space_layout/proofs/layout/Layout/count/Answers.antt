use Rattle.std.proofs.Common.{ap, ◌∙◌, arith}
use Rattle.kr_space_layout.proofs.Objects.{of_objects}
use Rattle.kr_space_layout.specs.declared.stretch.Block.{Block}
use Rattle.kr_space_layout.proofs.layout.Layout.count.Goals as goal

pub index-requires : goal.index-requires
index-requires c = omega (arith, c.requires, (of_objects c.self.inside c.args.self.now c.self.invariant.0 c.self.view_is).blocks, c.self.inside.blocks.ok.0)

pub returns : goal.returns
returns c = ap (λ (b : Block). b.count) c.index.ensures ∙ (of_objects c.self.inside c.args.self.now c.self.invariant.0 c.self.view_is).count c.args.domain c.index.result.now c.requires
