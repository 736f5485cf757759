use Rattle.kr_classes_names.proofs.Growing.{extends_itself}
use Rattle.kr_types_resolving.specs.declared.meaning.Meaning.TheVariants.{Nothing}
use Rattle.kr_types.proofs.Meant.{kept_more}
use Rattle.kr_types.proofs.notes.add_note.Goals as goal

pub returns-clause-kept : goal.returns-clause-kept
returns-clause-kept c =
    let l = c.args._types.now in
    let k = c.args.noted.now in
    kept_more c.args._site.now l l k (record { notes = c.push.new.self; meanings = c.push-2.new.self; inside = k.inside }) c.args.note Nothing c.args._spot c.requires.spot
    c.requires.forest c.requires.kept (extends_itself l) c.requires.note c.requires.nothing c.in_ok-push.ensures c.in_ok-push-2.ensures c.requires.kept.inside
