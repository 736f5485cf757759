use Rattle.kr_code_lowering.proofs.TypeNames.{array_resolves}
use Rattle.kr_code_lowering.proofs.types.array_expression.Goals as goal

pub returns : goal.returns
returns c = λ links names.
    rw c.code_number.ensures (array_resolves c.args.program.now c.requires.program c.args.arrays.now c.args.site c.args.entry c.requires.here names links c.args.size c.args.element c.named_type-number.result c.array_number.result c.default_value.result c.requires.node c.named_type-number.ensures c.array_number.ensures c.default_value.ensures)
