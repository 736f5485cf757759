use Rattle.std.proofs.Common.{◌≡◌, ◌<◌, ◌+◌, ◌-◌, ◌^◌, map, min, drop}
use Rattle.kr_space_meaning.specs.Bounds.{setting_of}
use Rattle.kr_space_rules.specs.Classes.{files_of}
use Rattle.kr_space_rules.specs.Entries.{bound_shown}
use Rattle.kr_space.specs.Slots.{slots_of_arrays}
use Rattle.kr_space.proofs.slots.all_array_slots.Given as goal

abbrev pub invariant-loop-bound : goal.invariant-loop-bound
invariant-loop-bound l = record {
  is : min (slots_of_arrays (setting_of (files_of l.classes) l.document) (map (bound_shown l.types l.document.arrays) l.bounds)) (2 ^ 64 - 1)
      ≡ min (l.total + slots_of_arrays (setting_of (files_of l.classes) l.document) (map (bound_shown l.types l.document.arrays) (drop l.bound-index l.bounds))) (2 ^ 64 - 1);
  small : l.total < 2 ^ 64;
}
