use Rattle.std.proofs.Common.{sym, ap, ◌∙◌, ◌++◌, map, arith}
use Rattle.std.specs.Prelude.{None, Some, option_to_list}
use Rattle.std.specs.List.{AllZip}
use Rattle.kr_classes_table.specs.Table.{heading_of}
use Rattle.kr_code_members.specs.Nodes.{node_tree}
use Rattle.kr_code_members.specs.Walk.{HasHeading}
use Rattle.kr_code_members.proofs.Nested.{class_added}
use Rattle.kr_code_members.proofs.Zipped.{zip_append, zip_end, zip_start, zip_step}
use Rattle.kr_code_members.proofs.classes.add_class.Goals as goal

pub loop-member-init : goal.loop-member-init
loop-member-init c = λ k before h. let p = c.args.program.now in zip_start (HasHeading p) (λ n. heading_of (Some k) (node_tree p c.args.file n)) before c.add_found.new.items.items c.deref-member-items.result.now h

pub loop-member-preserved : goal.loop-member-preserved
loop-member-preserved c = λ k before h.
    let p = c.args.program.now in
    zip_step (HasHeading p) (λ n. heading_of (Some k) (node_tree p c.args.file n)) before c.loop-member.classes.items _ c.class_node-in-loop-member.result c.deref-member-items.result.now c.loop-member.member-index 0 (omega arith)
    c.in_ok-add_found-2.ensures (c.loop-member.invariant k before h) (c.class_node-in-loop-member.ensures (Some k))

pub returns : goal.returns
returns c = λ k before h.
    let p = c.args.program.now in
    let v = node_tree p c.args.file in
    let t = v c.args.node in
    let heads = heading_of None t in
    let xs = c.deref-member-items.result.now in
    let first : AllZip (HasHeading p) (before ++ heads) c.add_found.new.items.items =
    rw c.in_ok-add_found.ensures (zip_append (HasHeading p) before heads c.args.classes.now.items (option_to_list c.class_node.result) h (c.class_node.ensures None)) in
    let shown = c.in_ok-members.ensures.shown None ∙ ap (map v) (sym c.deref-member-items.ensures.value) in
    rw (← class_added v k before t xs shown) (zip_end (HasHeading p) (λ n. heading_of (Some k) (v n)) (before ++ heads) c.loop-member.classes.items xs c.loop-member.member-index (omega arith) (c.loop-member.invariant k (before ++ heads) first))
