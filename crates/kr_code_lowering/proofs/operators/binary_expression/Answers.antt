use Rattle.kr_code_lowering.proofs.Widths.{binary_resolves}
use Rattle.kr_code_lowering.proofs.operators.binary_expression.Goals as goal

pub returns : goal.returns
returns c = λ arrays links names.
    binary_resolves c.args.program.now c.requires.program arrays c.args.site c.args.entry c.requires.here names links c.args.operator c.args.left c.args.right c.width_of-first.result c.width_of-second.result c.operator_width-width.result c.binary.result c.requires.node
    (rw c.at.ensures at c.width_of-first.ensures) (rw c.at-2.ensures at c.width_of-second.ensures) c.operator_width-width.ensures (rw (c.code_number.ensures, c.code_number-2.ensures) at c.binary.ensures)
