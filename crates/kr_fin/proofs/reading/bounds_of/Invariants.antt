use Rattle.std.proofs.Common.{◌≡◌, ◌++◌}
use Rattle.toml.specs.View.{members_view}
use Rattle.kr_fin.specs.Document.{bounds_of}
use Rattle.kr_fin.proofs.reading.bounds_of.Given as goal

abbrev pub invariant-loop-key : goal.invariant-loop-key
invariant-loop-key l = bounds_of (members_view l.table.entries) ≡ l.bounds ++ bounds_of (members_view l.key-iterator)
