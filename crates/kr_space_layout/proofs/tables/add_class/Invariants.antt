use Rattle.std.proofs.Common.{◌≡◌, ◌++◌, ◌-◌}
use Rattle.std.specs.Prelude.{flat_map}
use Rattle.std.specs.List.{range_with_len}
use Rattle.kr_space_layout.specs.Tables.{class_entries, object_entries}
use Rattle.kr_space_layout.proofs.tables.add_class.Given as goal

abbrev pub invariant-loop-number : goal.invariant-loop-number
invariant-loop-number l = l.initial.entries.items ++ class_entries l.block l.spots ≡ l.entries.items ++ flat_map (object_entries l.block l.spots) (range_with_len l.number (l.block.count - l.number))
