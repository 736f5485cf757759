use Rattle.std.proofs.Common.{arith}
use Rattle.kr_space_layout.proofs.Shapes.{alike_alone, alike_before, alike_on}
use Rattle.kr_space_layout.proofs.shape.Shape.row.Goals as goal

pub returns-then-not-self : goal.returns-then-not-self
returns-then-not-self c = λ choices is. alike_alone choices c.args.self.now c.args.index is c.requires

pub returns-then-index-self : goal.returns-then-index-self
returns-then-index-self c = λ choices is. alike_before choices c.args.self.now c.args.index is c.if-not-self.false c.if-index-self.true

pub returns-else-index-self : goal.returns-else-index-self
returns-else-index-self c = λ choices is. alike_on choices c.args.self.now c.args.index is c.if-not-self.false (omega (arith, c.if-index-self.false)) c.requires
