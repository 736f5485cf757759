use Rattle.std.proofs.Common.{arith}
use Rattle.kr_classes_members.specs.Shown.{table_in}
use Rattle.kr_types.proofs.Meant.{class_said}
use Rattle.kr_types.proofs.meanings.class_of_object.Goals as goal

pub at-requires : goal.at-requires
at-requires c = omega (arith, c.requires.kept.count, c.requires.object)

pub returns : goal.returns
returns c =
    let s = c.args._site.now in
    class_said s c.args._types.now c.args.noted.now.notes c.args.noted.now.meanings.items c.args._at c.args.object c.at.result c.class.result c.requires.kept.meant c.requires.kept.count c.requires.within c.requires.object c.at.ensures
    (c.class.ensures (table_in s.trees.now)) c.requires.handed
