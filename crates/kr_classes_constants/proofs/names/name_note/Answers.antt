use Rattle.std.proofs.Common.{ap, ◌∙◌, Option}
use Rattle.kr_classes_table.specs.Table.{Field}
use Rattle.kr_classes_table.specs.Constants.{field_width, known_value}
use Rattle.kr_classes_constants.specs.Outcomes.{known_outcome, sized}
use Rattle.kr_classes_constants.proofs.names.name_note.Goals as goal

pub returns : goal.returns
returns c = λ known v.
    c.field_found.ensures known v ∙ ap (λ (f : Option Field). sized (field_width f) (known_outcome (known_value known f))) (c.field_meant.ensures.shown c.args.trees.now c.requires)
