use Rattle.kr_code_members.specs.Nodes.{node_scope, node_tree}
use Rattle.kr_code_members.proofs.Items.{still_members}
use Rattle.kr_code_members.proofs.members.members_of.Goals as goal

pub list_nodes-requires-clause-still : goal.list_nodes-requires-clause-still
list_nodes-requires-clause-still c =
    let p = c.args.program.now in
    let f = c.args.at.file in
    still_members (node_scope p f c.in-Some.list) (node_tree p f c.in-Some.list) c.in-Some.ensures.shape
