use Rattle.std.proofs.Common.{◌≡◌, ◌++◌, drop, length}
use Rattle.kr_space_layout.specs.Tables.{entries_with, starts_with}
use Rattle.kr_space_layout.proofs.tables.add_classes.Given as goal

abbrev pub invariant-loop-domain : goal.invariant-loop-domain
invariant-loop-domain l = record {
  entries : l.initial.entries.items ++ entries_with l.blocks l.classes ≡ l.entries.items ++ entries_with (drop l.domain l.blocks) (drop l.domain l.classes);
  starts : l.initial.starts.items ++ starts_with (length l.initial.entries.items) l.blocks l.classes ≡ l.starts.items ++ starts_with (length l.entries.items) (drop l.domain l.blocks) (drop l.domain l.classes);
}
