use Rattle.std.proofs.Common.{ap, ◌∙◌, Option, ℕ}
use Rattle.kr_classes_table.specs.Table.{Field}
use Rattle.kr_classes_table.specs.Constants.{constant_of, field_width, known_value}
use Rattle.kr_classes_members.specs.Shown.{table_in}
use Rattle.kr_classes_constants.specs.Outcomes.{known_outcome, sized}
use Rattle.kr_classes_constants.proofs.names.access_note.Goals as goal

pub returns : goal.returns
returns c = λ known v.
    c.field_found.ensures known v
    ∙ ap (λ (f : Option Field). sized (field_width f) (known_outcome (known_value known f)))
    (c.constant_of.ensures.shown c.args.trees.now c.requires.members ∙ ap (λ (d : Option ℕ). constant_of (table_in c.args.trees.now) d c.args.name.now) c.class_before-class.ensures)
