use Rattle.std.proofs.Common.{refl}
use Rattle.kr_value.specs.declared.object.Class.TheVariants.{List as ListClass, Set as SetClass}
use Rattle.kr_code.specs.Collections.{name_of}
use Rattle.kr_run_known.proofs.Told.{asked_alone}
use Rattle.kr_run_known.proofs.places.asked_made_with.Goals as goal

pub returns-in-Set : goal.returns-in-Set
returns-in-Set c = asked_alone c.args.world.now (name_of c.args.call) c.args.object c.args.number SetClass c.args.argument c.members.result.now c.set_asked.result c.requires c.in-Set.ensures refl c.members.ensures c.set_asked.ensures

pub returns-in-List : goal.returns-in-List
returns-in-List c = asked_alone c.args.world.now (name_of c.args.call) c.args.object c.args.number ListClass c.args.argument c.members-in-List.result.now c.list_asked.result c.requires c.in-List.ensures refl c.members-in-List.ensures c.list_asked.ensures
