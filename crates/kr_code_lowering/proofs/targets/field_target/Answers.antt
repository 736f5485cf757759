use Rattle.std.proofs.Common.{Some, None}
use Rattle.kr_ast.specs.Arena.{name_in}
use Rattle.kr_types_meaning.specs.Typing.{type_of}
use Rattle.kr_classes_members.specs.Rosters.{field_numbered}
use Rattle.kr_code_members.specs.Nodes.{table}
use Rattle.kr_code_lowering.specs.Origins.{node_tree}
use Rattle.kr_code_lowering.specs.Sites.{arena_at, scope_at}
use Rattle.kr_code_lowering.proofs.Meant.{typed_so}
use Rattle.kr_code_lowering.proofs.Read.{instance_found}
use Rattle.kr_code_lowering.proofs.Variables.{field_written, no_field_written}
use Rattle.kr_code_lowering.proofs.targets.field_target.Goals as goal

pub returns-in-None-clause-target : goal.returns-in-None-clause-target
returns-in-None-clause-target c =
    let p = c.args.program.now in
    let r = scope_at p c.args.site in
    let at = c.args.at in
    let e = c.args.entry in
    let t = node_tree p at.file c.args.object in
    let x = name_in (arena_at p at).text c.args.name in
    let is = rw c.requires.handed at (instance_found p at e c.requires.here c.meaning_at.result c.meaning_at.ensures c.args.object c.args.name c.requires.node None (c.in-None.ensures.shown (table p))) in
    no_field_written p c.requires.program r at e c.args.object c.args.name c.requires.here c.requires.node c.requires.handed c.args.names.now is

pub returns-in_ok-number-in-Some-clause-target : goal.returns-in_ok-number-in-Some-clause-target
returns-in_ok-number-in-Some-clause-target c =
    let p = c.args.program.now in
    let r = scope_at p c.args.site in
    let at = c.args.at in
    let e = c.args.entry in
    let t = node_tree p at.file c.args.object in
    let x = name_in (arena_at p at).text c.args.name in
    let is = rw c.requires.handed at (instance_found p at e c.requires.here c.meaning_at.result c.meaning_at.ensures c.args.object c.args.name c.requires.node (Some c.in-Some.field) (c.in-Some.ensures.shown (table p))) in
    rw c.code_number.ensures (field_written p c.requires.program r at e c.args.object c.args.name c.requires.here c.requires.node c.requires.handed c.number.new.self c.in-Some.field c.in_ok-number-in-Some.number is (typed_so r.table x (type_of r t) (field_numbered (table p) c.in-Some.field) is) (rw c.text.ensures at c.in_ok-number-in-Some.ensures.at))
