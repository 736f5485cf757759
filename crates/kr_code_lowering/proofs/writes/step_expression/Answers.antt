use Rattle.kr_code_lowering.proofs.Assigned.{step_resolves}
use Rattle.kr_code_lowering.proofs.writes.step_expression.Goals as goal

pub returns-clause-resolves : goal.returns-clause-resolves
returns-clause-resolves c = λ arrays links.
    let p = c.args.program.now in
    let s = c.args.site in
    let written = rw c.at-2.ensures at c.in_ok-variable.ensures.target in
    step_resolves p c.requires.program arrays s c.args.entry c.requires.here c.variable_at.new.names links c.args.target c.in_ok-variable.variable written c.args.operator c.width_of-width.result c.requires.node (rw c.at.ensures at c.width_of-width.ensures)
