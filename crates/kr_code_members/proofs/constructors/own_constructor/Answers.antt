use Rattle.std.proofs.Common.{arith}
use Rattle.kr_code_members.proofs.Constructing.{maybe_here}
use Rattle.kr_classes_table.specs.Table.{constructors_in}
use Rattle.kr_code_members.specs.Nodes.{node_tree, table}
use Rattle.kr_code_members.proofs.constructors.own_constructor.Goals as goal

pub returns-then-is_some : goal.returns-then-is_some
returns-then-is_some c =
    let p = c.args.program.now in
    maybe_here p c.args.class (λ n. constructors_in (table p).headings (node_tree p c.args.file n)) c.args.members.now c.loop-member.member-index 0 c.constructor_node-found.result (omega arith) c.loop-member.invariant c.constructor_node-found.ensures c.if-is_some.ensures
