use Rattle.kr_types.proofs.Meant.{kept_more}
use Rattle.kr_types.proofs.notes.add_named.Goals as goal

pub returns-clause-kept : goal.returns-clause-kept
returns-clause-kept c =
    kept_more c.args.site.now c.args.types.now c.named_note.new.types c.args.noted.now (record { notes = c.push.new.self; meanings = c.push-2.new.self; inside = c.inside-inside.result }) c.in_ok-note.note c.in_ok-meaning.meaning c.args.spot c.requires.spot
    c.requires.forest c.requires.kept c.in_ok-note.ensures.extends c.in_ok-note.ensures.note c.in_ok-meaning.ensures c.in_ok-push.ensures c.in_ok-push-2.ensures c.inside-inside.ensures.inside
