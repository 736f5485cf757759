use Rattle.kr_code_lowering.proofs.Assigned.{compound_resolves}
use Rattle.kr_code_lowering.proofs.writes.compound_expression.Goals as goal

pub returns-clause-resolves : goal.returns-clause-resolves
returns-clause-resolves c = λ arrays links.
    let p = c.args.program.now in
    let s = c.args.site in
    let written = rw c.at-3.ensures at c.in_ok-variable.ensures.target in
    rw c.code_number.ensures (compound_resolves p c.requires.program arrays s c.args.entry c.requires.here c.variable_at.new.names links c.args.target c.in_ok-variable.variable written c.args.operator c.args.value c.width_of-to.result c.width_of-from.result c.operator_width.result c.requires.node (rw c.at.ensures at c.width_of-to.ensures) (rw c.at-2.ensures at c.width_of-from.ensures) c.operator_width.ensures)
