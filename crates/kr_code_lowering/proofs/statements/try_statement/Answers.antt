use Rattle.kr_code_lowering.proofs.Performed.{try_does}
use Rattle.kr_code_lowering.proofs.statements.try_statement.Goals as goal

pub returns-clause-does : goal.returns-clause-does
returns-clause-does c = λ names.
    let p = c.args.program.now in
    let links = c.list_links.new.links in
    let linked = rw c.at.ensures at c.in_ok-nodes.ensures.linked in
    rw c.code_number.ensures (try_does p c.requires.program c.args.site c.args.entry c.requires.here names links c.args.body c.args.catches c.in_ok-nodes.nodes c.requires.node linked)
