use Rattle.std.proofs.Common.{sym, ◌∙◌}
use Rattle.kr_code_lowering.proofs.TypeNames.{cast_resolves, convert_resolves}
use Rattle.kr_code_lowering.proofs.types.cast_expression.Goals as goal

pub returns-then-is_primitive_type : goal.returns-then-is_primitive_type
returns-then-is_primitive_type c = λ arrays links names.
    convert_resolves c.args.program.now c.requires.program arrays c.args.site c.args.entry c.requires.here names links c.args.operand c.args.target c.named_type-to.result c.primitive_cast.result c.requires.node (sym c.is_primitive_type.ensures ∙ c.if-is_primitive_type.true) c.named_type-to.ensures (rw c.code_number.ensures at c.primitive_cast.ensures)

pub returns : goal.returns
returns c = λ arrays links names.
    rw c.code_number-2.ensures (cast_resolves c.args.program.now c.requires.program arrays c.args.site c.args.entry c.requires.here names links c.args.operand c.args.target c.named_type-to.result c.requires.node (sym c.is_primitive_type.ensures ∙ c.if-is_primitive_type.false) c.named_type-to.ensures)
