use Rattle.std.proofs.Common.{sym, ap, ◌∙◌, Option}
use Rattle.std.specs.Prelude.{option_map}
use Rattle.kr_ast.specs.Arena.{tree_in}
use Rattle.kr_ast.specs.Files.{file_at}
use Rattle.kr_classes_table.specs.Constants.{field_width}
use Rattle.kr_classes_members.specs.declared.fields.Field.{Field}
use Rattle.kr_classes_members.specs.Shown.{field_shown, headings_in}
use Rattle.kr_classes_constants.proofs.Written.{written_width}
use Rattle.kr_classes_constants.proofs.widths.field_width.Goals as goal

pub returns-in-Some : goal.returns-in-Some
returns-in-Some c =
    c.declared_width.ensures
    ∙ (written_width (headings_in c.args.trees.now) (tree_in (file_at c.args.trees.now c.in-Some.field.file) c.in-Some.field.declared)
    ∙ sym (ap (λ (f : Option Field). field_width (option_map (field_shown c.args.trees.now) f)) c.in-Some.is))
