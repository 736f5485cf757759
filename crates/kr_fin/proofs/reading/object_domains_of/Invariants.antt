use Rattle.std.proofs.Common.{◌≡◌, ◌++◌}
use Rattle.toml.specs.View.{members_view}
use Rattle.kr_fin.specs.Document.{object_domains_of}
use Rattle.kr_fin.proofs.reading.object_domains_of.Given as goal

abbrev pub invariant-loop-key : goal.invariant-loop-key
invariant-loop-key l = object_domains_of (members_view l.table.entries) ≡ l.domains ++ object_domains_of (members_view l.key-iterator)
