use Rattle.kr_code_lowering.proofs.Widths.{unary_resolves}
use Rattle.kr_code_lowering.proofs.operators.unary_expression.Goals as goal

pub returns : goal.returns
returns c = λ arrays links names.
    rw c.code_number.ensures (unary_resolves c.args.program.now c.requires.program arrays c.args.site c.args.entry c.requires.here names links c.args.operator c.args.operand c.width_of-width.result c.requires.node (rw c.at.ensures at c.width_of-width.ensures))
