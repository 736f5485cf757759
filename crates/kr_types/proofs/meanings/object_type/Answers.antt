use Rattle.std.proofs.Common.{ap, ◌∙◌}
use Rattle.kr_types_meaning.specs.Typing.{type_in}
use Rattle.kr_types_meaning.specs.Noting as noting
use Rattle.kr_types_expressions.specs.Notes.{typed_in}
use Rattle.kr_types.proofs.meanings.object_type.Goals as goal

pub returns-clause-within : goal.returns-clause-within
returns-clause-within c = c.part_type.ensures.within c.args.types.now c.part_note.ensures.within

pub returns-clause-shown : goal.returns-clause-shown
returns-clause-shown c = c.part_type.ensures.shown c.args.types.now (typed_in c.args.types.now c.args.noted.now.notes) ∙ ap (λ (x : noting.Note). type_in x.typed) c.part_note.ensures.shown
