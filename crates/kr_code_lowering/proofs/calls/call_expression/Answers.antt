use Rattle.kr_code_lowering.proofs.Called.{call_resolves}
use Rattle.kr_code_lowering.proofs.calls.call_expression.Goals as goal

pub returns-clause-resolves : goal.returns-clause-resolves
returns-clause-resolves c = λ arrays names.
    let p = c.args.program.now in
    let s = c.args.site in
    let links = c.list_links.new.links in
    let linked = rw c.at.ensures at c.in_ok-arguments.ensures.linked in
    call_resolves p c.requires.program arrays s c.args.entry c.requires.here names links c.args.arguments c.in_ok-arguments.arguments linked c.args.name c.requires.node c.own_callee-callee.result c.own_callee-callee.ensures
