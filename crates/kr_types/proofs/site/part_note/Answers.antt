use Rattle.std.proofs.Common.{sym}
use Rattle.kr_types_expressions.proofs.Notes.{shown_at, below_weaker}
use Rattle.kr_types.proofs.site.part_note.Goals as goal

pub returns-clause-within : goal.returns-clause-within
returns-clause-within c = c.requires.notes.within c.args.part _ c.at.ensures

pub returns-clause-below : goal.returns-clause-below
returns-clause-below c = below_weaker c.args.part _ _ c.requires.part (c.requires.notes.below c.args.part _ c.at.ensures)

pub returns-clause-linked : goal.returns-clause-linked
returns-clause-linked c = c.requires.notes.linked c.args.part _ c.at.ensures

pub returns-clause-shown : goal.returns-clause-shown
returns-clause-shown c = sym (shown_at c.args.types.now c.args.notes.now c.requires.notes c.args.part _ c.at.ensures)
