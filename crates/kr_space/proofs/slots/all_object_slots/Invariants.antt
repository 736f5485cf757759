use Rattle.std.proofs.Common.{◌≡◌, ◌<◌, ◌+◌, ◌-◌, ◌^◌, map, min, drop}
use Rattle.kr_space_meaning.specs.Bounds.{setting_of}
use Rattle.kr_space_rules.specs.Classes.{files_of}
use Rattle.kr_space_rules.specs.ObjectDomains.{declared_shown}
use Rattle.kr_space.specs.Slots.{slots_of_objects}
use Rattle.kr_space.proofs.slots.all_object_slots.Given as goal

abbrev pub invariant-loop-object : goal.invariant-loop-object
invariant-loop-object l = record {
  is : min (slots_of_objects (setting_of (files_of l.classes) l.document) (map (declared_shown l.document.objects) l.objects)) (2 ^ 64 - 1)
      ≡ min (l.total + slots_of_objects (setting_of (files_of l.classes) l.document) (map (declared_shown l.document.objects) (drop l.object-index l.objects))) (2 ^ 64 - 1);
  small : l.total < 2 ^ 64;
}
