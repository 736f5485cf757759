use Rattle.std.proofs.Common.{ap, ◌∙◌}
use Rattle.kr_classes_constants.specs.Outcomes.{known_outcome, note_shown, sized}
use Rattle.kr_classes_constants.proofs.names.field_found.Goals as goal

pub returns : goal.returns
returns c = λ known v.
    ap (λ w. sized w (note_shown c.of_known.result)) c.field_width.ensures
    ∙ ap (sized _) (c.of_known.ensures ∙ ap known_outcome (c.value_of.ensures c.args.trees.now known v))
