use Rattle.std.proofs.Common.{arith}
use Rattle.kr_code_members.specs.Nodes.{IsFieldNode}
use Rattle.kr_code_members.specs.Walk.{declared_on}
use Rattle.kr_code_members.proofs.Zipped.{zip_step}
use Rattle.kr_code_members.proofs.fields.add_declared.Goals as goal

pub loop-declarator-preserved : goal.loop-declarator-preserved
loop-declarator-preserved c = λ before h.
    let p = c.args.program.now in
    zip_step (IsFieldNode p) (declared_on p c.args.file c.args.class c.args.line) before c.loop-declarator.fields.items _ c.field_node.result c.args.declarators.now c.loop-declarator.declarator-index 0 (omega arith)
    c.in_ok-add_found.ensures (c.loop-declarator.invariant before h) c.field_node.ensures
