use Rattle.std.proofs.Common.{◌≡◌, fold, map, drop}
use Rattle.std.specs.Prelude.{flat_map}
use Rattle.kr_space_meaning.specs.Bounds.{setting_of}
use Rattle.kr_space_meaning.specs.Faults.{array_S2}
use Rattle.kr_space_meaning.specs.Order.{lesser}
use Rattle.kr_space_rules.specs.Classes.{files_of}
use Rattle.kr_space_rules.specs.Entries.{bound_shown}
use Rattle.kr_space.proofs.elements.note_all_elements.Given as goal

abbrev pub invariant-loop-bound : goal.invariant-loop-bound
invariant-loop-bound l =
    fold lesser l.initial.least (flat_map (array_S2 (setting_of (files_of l.classes) l.document)) (map (bound_shown l.types l.document.arrays) l.bounds))
    ≡ fold lesser l.least (flat_map (array_S2 (setting_of (files_of l.classes) l.document)) (map (bound_shown l.types l.document.arrays) (drop l.bound-index l.bounds)))
