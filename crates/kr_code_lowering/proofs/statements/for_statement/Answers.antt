use Rattle.kr_code_lowering.proofs.Performed.{for_does, linked_on}
use Rattle.kr_code_lowering.proofs.statements.for_statement.Goals as goal

pub returns-clause-does : goal.returns-clause-does
returns-clause-does c = λ names.
    let p = c.args.program.now in
    let s = c.args.site in
    let first = c.list_links.new.links in
    let second = c.list_links-2.new.links in
    let before = linked_on p (record s { node = c.args.initial }) first second c.in_ok-before.before c.in_ok-behind.ensures.grown (rw c.at.ensures at c.in_ok-before.ensures.linked) in
    let behind = rw c.at-2.ensures at c.in_ok-behind.ensures.linked in
    let test = rw c.at-3.ensures at c.maybe_part.ensures in
    rw c.code_number.ensures (for_does p c.requires.program s c.args.entry c.requires.here names second c.args.initial c.args.condition c.args.updates c.args.body c.in_ok-before.before c.in_ok-behind.behind c.maybe_part.result c.requires.node before test behind)
