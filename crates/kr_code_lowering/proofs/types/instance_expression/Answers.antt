use Rattle.kr_code_lowering.proofs.TypeNames.{instance_resolves}
use Rattle.kr_code_lowering.proofs.types.instance_expression.Goals as goal

pub returns : goal.returns
returns c = λ arrays links names.
    rw c.code_number.ensures (instance_resolves c.args.program.now c.requires.program arrays c.args.site c.args.entry c.requires.here names links c.args.operand c.args.tested c.named_type.result c.requires.node c.named_type.ensures)
