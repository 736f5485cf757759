use Rattle.kr_code_members.proofs.Nested.{member_items}
use Rattle.kr_code_members.proofs.classes.nested.Goals as goal

pub returns-in_ok-found-in-Some-clause-stand : goal.returns-in_ok-found-in-Some-clause-stand
returns-in_ok-found-in-Some-clause-stand c =
    let found = c.in_ok-found-in-Some.found.items in
    let list = c.in-Some.list in
    member_items c.args.program.now c.args.file c.args.node list found c.in-Some.ensures
    (rw c.tree_at.ensures at c.in_ok-found-in-Some.ensures.shown)
    (rw c.tree_at.ensures at c.in_ok-found-in-Some.ensures.within)
