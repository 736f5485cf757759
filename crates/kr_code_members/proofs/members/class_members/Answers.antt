use Rattle.kr_classes_table.specs.Table.{constructors_in, fields_in, methods_in}
use Rattle.kr_code_members.specs.Nodes.{node_tree, table}
use Rattle.kr_code_members.specs.Walk.{heading_numbered}
use Rattle.kr_code_members.proofs.Zipped.{by_shown}
use Rattle.kr_code_members.proofs.members.class_members.Goals as goal

pub returns-clause-methods : goal.returns-clause-methods
returns-clause-methods c = λ before h.
    let p = c.args.program.now in
    let ms = (heading_numbered p c.args.class).members in
    rw (← by_shown (methods_in (table p).headings c.args.class) (node_tree p c.args.at.file) c.in_ok-members.members.items c.deref.result.now ms c.deref.ensures.value c.in_ok-members.ensures.shown) (c.in_ok-add_methods.ensures before h)

pub returns-clause-fields : goal.returns-clause-fields
returns-clause-fields c =
    let p = c.args.program.now in
    let ms = (heading_numbered p c.args.class).members in
    rw (← by_shown (fields_in (table p).headings c.args.class) (node_tree p c.args.at.file) c.in_ok-members.members.items c.deref-2.result.now ms c.deref-2.ensures.value c.in_ok-members.ensures.shown) c.in_ok-fields.ensures

pub returns-clause-constructor : goal.returns-clause-constructor
returns-clause-constructor c =
    let p = c.args.program.now in
    let ms = (heading_numbered p c.args.class).members in
    rw (← by_shown (constructors_in (table p).headings) (node_tree p c.args.at.file) c.in_ok-members.members.items c.deref-3.result.now ms c.deref-3.ensures.value c.in_ok-members.ensures.shown) c.own_constructor-constructor.ensures
