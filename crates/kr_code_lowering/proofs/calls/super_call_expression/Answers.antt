use Rattle.kr_code_members.specs.Nodes.{table}
use Rattle.kr_code_lowering.proofs.Called.{super_resolves}
use Rattle.kr_code_lowering.proofs.Read.{super_found}
use Rattle.kr_code_lowering.proofs.calls.super_call_expression.Goals as goal

pub returns-clause-resolves : goal.returns-clause-resolves
returns-clause-resolves c = λ arrays names.
    let p = c.args.program.now in
    let s = c.args.site in
    let m = c.super_method-method in
    let found = super_found p s c.args.entry c.requires.here c.meaning_at.result c.meaning_at.ensures c.args.name c.args.arguments c.requires.node m.result (m.ensures.within (table p) c.meaning_at.ensures.within) (m.ensures.shown (table p)) in
    super_resolves p c.requires.program arrays s c.args.entry c.requires.here names c.list_links.new.links c.args.arguments c.in_ok-arguments.arguments (rw c.at.ensures at c.in_ok-arguments.ensures.linked) c.args.name c.requires.node m.result found
