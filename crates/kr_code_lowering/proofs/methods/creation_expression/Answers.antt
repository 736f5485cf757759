use Rattle.kr_code_lowering.proofs.Called.{creation_resolves}
use Rattle.kr_code_lowering.proofs.methods.creation_expression.Goals as goal

pub returns-clause-resolves : goal.returns-clause-resolves
returns-clause-resolves c = λ arrays names.
    let p = c.args.program.now in
    let s = c.args.site in
    let links = c.list_links.new.links in
    let linked = rw c.at.ensures at c.in_ok-arguments.ensures.linked in
    creation_resolves p c.requires.program arrays s c.args.entry c.requires.here names links c.args.class c.args.arguments c.requires.node c.in_ok-arguments.arguments linked c.creator-callee.result (rw c.named_type.ensures.type_is at c.creator-callee.ensures)
