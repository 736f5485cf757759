use Rattle.std.proofs.Common.{◌+◌, ◌++◌, length, map, take, arith}
use Rattle.kr_classes_table.specs.Table.{headings_from}
use Rattle.kr_code_members.specs.Nodes.{node_tree}
use Rattle.kr_code_members.proofs.Nested.{headings_more}
use Rattle.kr_code_members.proofs.classes.add_file.Goals as goal

pub loop-top-preserved : goal.loop-top-preserved
loop-top-preserved c = λ before h.
    let p = c.args.program.now in
    let xs = c.deref-top-items.result.now in
    let i = c.loop-top.top-index in
    let hs = headings_from 0 (before ++ map (node_tree p c.args.file) (take i xs)) in
    rw (← headings_more p c.args.file before xs i 0 (omega arith)) (c.in_ok-add_class.ensures (0 + length hs) hs (c.loop-top.invariant before h))
