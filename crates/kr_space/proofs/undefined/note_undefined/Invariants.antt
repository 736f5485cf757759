use Rattle.std.proofs.Common.{◌≡◌, map, fold, drop}
use Rattle.std.specs.Prelude.{flat_map}
use Rattle.kr_space_meaning.specs.Bounds.{setting_of}
use Rattle.kr_space_meaning.specs.Faults.{object_S2}
use Rattle.kr_space_meaning.specs.Order.{lesser}
use Rattle.kr_space_rules.specs.Classes.{files_of}
use Rattle.kr_space_rules.specs.ObjectDomains.{declared_shown}
use Rattle.kr_space.proofs.undefined.note_undefined.Given as goal

abbrev pub invariant-loop-object : goal.invariant-loop-object
invariant-loop-object l =
    fold lesser l.initial.least (flat_map (object_S2 (setting_of (files_of l.classes) l.document)) (map (declared_shown l.document.objects) l.objects))
    ≡ fold lesser l.least (flat_map (object_S2 (setting_of (files_of l.classes) l.document)) (map (declared_shown l.document.objects) (drop l.object-index l.objects)))
