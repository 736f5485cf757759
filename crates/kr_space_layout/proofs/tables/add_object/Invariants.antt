use Rattle.std.proofs.Common.{◌≡◌, ◌++◌, drop}
use Rattle.kr_space_layout.specs.Tables.{object_entries}
use Rattle.kr_space_layout.proofs.tables.add_object.Given as goal

abbrev pub invariant-loop-spotted : goal.invariant-loop-spotted
invariant-loop-spotted l = l.initial.entries.items ++ object_entries l.block l.spots l.number ≡ l.entries.items ++ object_entries l.block (drop l.spotted-index l.spots) l.number
