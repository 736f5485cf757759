use Rattle.std.proofs.Common.{sym, ap, ◌∙◌, map, if◌then◌else◌}
use Rattle.std.specs.Prelude.{None, is_none}
use Rattle.kr_ast.specs.Arena.{root}
use Rattle.kr_classes_table.specs.Table.{number_of}
use Rattle.kr_classes_members.specs.Shown.{table_in}
use Rattle.kr_classes_constants.proofs.Listed.{table_headings}
use Rattle.kr_classes_constants.proofs.names.class_named.Goals as goal

pub returns-in-None : goal.returns-in-None
returns-in-None c = λ files p h m.
    let name = c.args.name.now in
    c.number_of.ensures files h
    ∙ ap (λ hs. number_of hs name) (sym (table_headings (map root files)))
    ∙ ap (λ o. if is_none o then number_of (table_in files).headings name else None) (c.in-None.ensures.shown files m)
