use Rattle.kr_code_lowering.proofs.Performed.{leave_does, return_does}
use Rattle.kr_code_lowering.proofs.statements.return_statement.Goals as goal

pub returns-in-None : goal.returns-in-None
returns-in-None c = λ names links.
    let p = c.args.program.now in
    let s = c.args.site in
    let all = rw c.at.ensures at c.maybe_part.ensures in
    let nil = rw c.in-None.is at all in
    leave_does p c.requires.program s c.args.entry c.requires.here names links c.args.value c.requires.node nil

pub returns-in-Some : goal.returns-in-Some
returns-in-Some c = λ names links.
    let p = c.args.program.now in
    let s = c.args.site in
    let all = rw c.at.ensures at c.maybe_part.ensures in
    let some = rw c.in-Some.is at all in
    return_does p c.requires.program s c.args.entry c.requires.here names links c.args.value c.in-Some.number c.requires.node some.1 some.0
