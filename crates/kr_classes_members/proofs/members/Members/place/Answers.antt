use Rattle.std.proofs.Common.{sym, ap}
use Rattle.std.specs.Prelude.{option_map}
use Rattle.kr_classes_table.specs.Table.{Class}
use Rattle.kr_classes_members.proofs.Classes.{at_class, at_none}
use Rattle.kr_classes_members.proofs.members.Members.place.Goals as goal

pub returns-in-None : goal.returns-in-None
returns-in-None c = λ files h. sym (ap (option_map (λ (d : Class). d.place)) (at_none files c.args.self.now c.args.class h c.in-None.ensures))

pub returns-in-Some : goal.returns-in-Some
returns-in-Some c = λ files h. sym (ap (option_map (λ (d : Class). d.place)) (at_class files c.args.self.now c.args.class c.in-Some.members.now h c.in-Some.ensures))
