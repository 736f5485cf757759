use Rattle.std.proofs.Common.{sym, ◌∙◌, subst}
use Rattle.kr_ast.specs.Arena.{tree_in}
use Rattle.kr_code_lowering.specs.Sites.{Resolves, arena_at}
use Rattle.kr_code_lowering.proofs.Dispatch.{long_number_resolves, no_expression_resolves, number_resolves, old_resolves, operator_resolves}
use Rattle.kr_code_lowering.proofs.expressions.expression_at.Goals as goal

pub returns-then-is_no_expression-clause-resolves : goal.returns-then-is_no_expression-clause-resolves
returns-then-is_no_expression-clause-resolves c =
    let p = c.args.program.now in
    let s = c.args.site in
    let e = c.entry-entry.result in
    no_expression_resolves p c.requires.program c.args.arrays.now s e c.entry-entry.ensures c.args.names.now c.args.links.now (sym (c.is_no_expression.ensures (arena_at p s).text (tree_in (arena_at p s)) e.place) ∙ c.if-is_no_expression.true)

pub returns-then-is_operator-clause-resolves : goal.returns-then-is_operator-clause-resolves
returns-then-is_operator-clause-resolves c =
    operator_resolves c.args.program.now c.requires.program c.args.arrays.now c.args.site c.entry-entry.result c.entry-entry.ensures c.args.names.now c.args.links.now c.operator_expression.result (sym c.is_operator.ensures ∙ c.if-is_operator.true) c.operator_expression.ensures

pub returns-in-Number-clause-resolves : goal.returns-in-Number-clause-resolves
returns-in-Number-clause-resolves c =
    subst (Resolves c.args.program.now c.args.arrays.now c.args.site c.args.names.now c.args.links.now) (sym c.int_literal.ensures) (number_resolves c.args.program.now c.requires.program c.args.arrays.now c.args.site c.entry-entry.result c.entry-entry.ensures c.args.names.now c.args.links.now c.in-Number.value c.in-Number.is)

pub returns-in-LongNumber-clause-resolves : goal.returns-in-LongNumber-clause-resolves
returns-in-LongNumber-clause-resolves c =
    subst (Resolves c.args.program.now c.args.arrays.now c.args.site c.args.names.now c.args.links.now) (sym c.long_literal.ensures) (long_number_resolves c.args.program.now c.requires.program c.args.arrays.now c.args.site c.entry-entry.result c.entry-entry.ensures c.args.names.now c.args.links.now c.in-LongNumber.value c.in-LongNumber.is)

pub returns-in-Unary-clause-resolves : goal.returns-in-Unary-clause-resolves
returns-in-Unary-clause-resolves c = c.unary_expression.ensures c.args.arrays.now c.args.links.now c.args.names.now

pub returns-in-Binary-clause-resolves : goal.returns-in-Binary-clause-resolves
returns-in-Binary-clause-resolves c = c.binary_expression.ensures c.args.arrays.now c.args.links.now c.args.names.now

pub returns-in-Old-clause-resolves : goal.returns-in-Old-clause-resolves
returns-in-Old-clause-resolves c = old_resolves c.args.program.now c.requires.program c.args.arrays.now c.args.site c.entry-entry.result c.entry-entry.ensures c.args.names.now c.args.links.now c.in-Old.operand c.in-Old.is

pub returns-in-ArrayCreation-clause-resolves : goal.returns-in-ArrayCreation-clause-resolves
returns-in-ArrayCreation-clause-resolves c = c.array_expression.ensures c.args.links.now c.args.names.now

pub returns-in-InstanceOf-clause-resolves : goal.returns-in-InstanceOf-clause-resolves
returns-in-InstanceOf-clause-resolves c = c.instance_expression.ensures c.args.arrays.now c.args.links.now c.args.names.now

pub returns-in-Cast-clause-resolves : goal.returns-in-Cast-clause-resolves
returns-in-Cast-clause-resolves c = c.cast_expression.ensures c.args.arrays.now c.args.links.now c.args.names.now
