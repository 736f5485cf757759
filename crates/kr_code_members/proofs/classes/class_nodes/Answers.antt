use Rattle.std.proofs.Common.{sym, ap, ◌∙◌, List, arith}
use Rattle.std.specs.Prelude.{flat_map}
use Rattle.std.proofs.lemmas.List.{take_all}
use Rattle.kr_ast.specs.Arena.{Arena, root}
use Rattle.kr_classes_table.specs.Table.{headings_from, items}
use Rattle.kr_code_members.proofs.Tables.{headings_are}
use Rattle.kr_code_members.proofs.classes.class_nodes.Goals as goal

pub returns : goal.returns
returns c =
    let p = c.args.program.now in
    let files = p.trees.items in
    rw (← ap (λ (xs : List Arena). headings_from 0 (flat_map (λ a. items (root a)) xs)) (take_all c.loop-file.file files (omega arith)) ∙ sym (headings_are files)) c.loop-file.invariant
