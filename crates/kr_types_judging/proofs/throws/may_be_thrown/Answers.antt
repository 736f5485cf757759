use Rattle.std.proofs.Common.{◌∙◌, ap, sym}
use Rattle.std.specs.Prelude.{List, codes, map}
use Rattle.kr_base.specs.Places.{nowhere}
use Rattle.kr_ast.specs.Arena.{root}
use Rattle.kr_ast.specs.Tree.{NamedType}
use Rattle.kr_classes_table.specs.Types.{JavaType}
use Rattle.kr_classes_table.specs.Table.{Heading, Table, is_assignable, type_named}
use Rattle.kr_classes_members.specs.Shown.{table_in}
use Rattle.kr_classes_names.specs.Types.{type_at}
use Rattle.kr_types_judging.proofs.Tables.{headings_are}
use Rattle.kr_types_judging.proofs.throws.may_be_thrown.Goals as goal

pub returns : goal.returns
returns c = λ s e.
    let k = c.args.classes.now in
    let from = type_at k.types.now c.args.number in
    let named : List Heading → JavaType = λ hs. type_named hs (NamedType nowhere (codes "Throwable")) in
    c.is_assignable.ensures k.trees.now c.requires.classes.members
    ∙ ap (is_assignable (table_in k.trees.now) from) (c.requires.throwable.type_is ∙ ap named (sym (headings_are k.trees.now)))
    ∙ ap (λ (t : Table). is_assignable t from (named t.headings)) (sym e)
