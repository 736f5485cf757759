use Rattle.kr_types_expressions.specs.Notes.{shown_notes}
use Rattle.kr_types_resolving.specs.declared.meaning.Meaning.TheVariants.{Nothing}
use Rattle.kr_types.proofs.Meant.{kept_more, unmeant}
use Rattle.kr_types.proofs.notes.add_bare.Goals as goal

pub returns-clause-kept : goal.returns-clause-kept
returns-clause-kept c =
    let s = c.args.site.now in
    let k = c.args.noted.now in
    let spot = c.args.spot in
    kept_more s c.args.types.now c.bare_note.new.types k (record { notes = c.push.new.self; meanings = c.push-2.new.self; inside = k.inside }) c.in_ok-note.note Nothing spot c.requires.spot
    c.requires.forest c.requires.kept c.in_ok-note.ensures.extends c.in_ok-note.ensures.note (unmeant s (shown_notes c.args.types.now k.notes) spot.at spot.place spot.node c.requires.spot.tree c.args.kind c.requires.kind)
    c.in_ok-push.ensures c.in_ok-push-2.ensures c.requires.kept.inside
