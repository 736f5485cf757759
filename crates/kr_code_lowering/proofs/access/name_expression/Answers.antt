use Rattle.std.proofs.Common.{sym, subst}
use Rattle.kr_code_lowering.specs.Sites.{Resolves}
use Rattle.kr_code_lowering.proofs.Naming.{constant_resolves, local_resolves, nothing_resolves, own_resolves}
use Rattle.kr_code_lowering.proofs.access.name_expression.Goals as goal

pub returns-in-Local-clause-resolves : goal.returns-in-Local-clause-resolves
returns-in-Local-clause-resolves c = λ arrays links. local_resolves c.args.program.now arrays c.args.site c.args.entry c.args.name c.requires.here c.requires.node c.args.names.now links c.in-Local.number c.in-Local.ensures

pub returns-in-Constant-clause-resolves : goal.returns-in-Constant-clause-resolves
returns-in-Constant-clause-resolves c = λ arrays links.
    let p = c.args.program.now in
    subst (Resolves p arrays c.args.site c.args.names.now links) (sym c.literal.ensures) (constant_resolves p arrays c.args.site c.args.entry c.args.name c.requires.here c.requires.node c.args.names.now links c.in-Constant.value c.in-Constant.ensures)

pub returns-in_ok-number-in-Own-clause-resolves : goal.returns-in_ok-number-in-Own-clause-resolves
returns-in_ok-number-in-Own-clause-resolves c = λ arrays links.
    let p = c.args.program.now in
    own_resolves p arrays c.args.site c.args.entry c.args.name c.requires.here c.requires.node c.number.new.self links c.in-Own.field-0 c.in_ok-number-in-Own.number c.in-Own.ensures (rw c.text.ensures at c.in_ok-number-in-Own.ensures.at)

pub returns-in-Nothing-clause-resolves : goal.returns-in-Nothing-clause-resolves
returns-in-Nothing-clause-resolves c = λ arrays links. nothing_resolves c.args.program.now arrays c.args.site c.args.entry c.args.name c.requires.here c.requires.node c.args.names.now links c.in-Nothing.ensures
