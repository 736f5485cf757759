use Rattle.kr_classes_members.specs.Shown.{field_shown, table_in}
use Rattle.kr_classes_constants.proofs.Rules.{noted}
use Rattle.kr_classes_constants.proofs.values.add_constant.Goals as goal

pub returns : goal.returns
returns c =
    noted (table_in c.args.trees.now) (field_shown c.args.trees.now c.args.constant) c.in_ok-found.found c.args.values.now c.note.new.self c.in_ok-found.ensures c.note.result c.note.ensures
