use Rattle.std.proofs.Common.{arith}
use Rattle.kr_classes_table.specs.Table.{methods_in}
use Rattle.kr_code_members.specs.Nodes.{IsMethodNode, node_tree, table}
use Rattle.kr_code_members.proofs.Zipped.{zip_step}
use Rattle.kr_code_members.proofs.methods.add_methods.Goals as goal

pub loop-member-preserved : goal.loop-member-preserved
loop-member-preserved c = λ before h.
    let p = c.args.program.now in
    zip_step (IsMethodNode p) (λ n. methods_in (table p).headings c.args.class (node_tree p c.args.file n)) before c.loop-member.methods.items _ c.method_node.result c.args.members.now c.loop-member.member-index 0 (omega arith)
    c.in_ok-add_found.ensures (c.loop-member.invariant before h) c.method_node.ensures
