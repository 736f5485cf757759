use Rattle.std.proofs.Common.{◌≡◌, ◌++◌, take}
use Rattle.std.specs.Prelude.{flat_map}
use Rattle.kr_pure.specs.Entries.{initial_entry}
use Rattle.kr_pure.proofs.members.add_initials.Given as goal

abbrev pub invariant-loop-field : goal.invariant-loop-field
invariant-loop-field l = l.entries.items ≡ l.fn.entries.items ++ flat_map initial_entry (take l.field-index l.fields)
