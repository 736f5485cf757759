use Rattle.kr_types_expressions.proofs.Notes.{within_kept}
use Rattle.kr_types.proofs.Passing.{site_kept}
use Rattle.kr_types.proofs.throws.thrown_note.Goals as goal

pub note_by-requires-clause-context : goal.note_by-requires-clause-context
note_by-requires-clause-context c =
    let l = c.type_of_name.new.types in
    let grown = c.in_ok-throwable.ensures.extends in
    record { site = site_kept c.args.site.now c.args.types.now l grown c.requires.site; notes = within_kept c.args.types.now l c.args.notes.now grown c.requires.notes; spot = c.requires.spot }
