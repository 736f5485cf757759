use Rattle.std.proofs.Common.{◌≡◌, ◌+◌, drop}
use Rattle.kr_plain.specs.Keys.{through_count}
use Rattle.kr_plain.proofs.keeping.count_through.Given as goal

abbrev pub invariant-loop-at : goal.invariant-loop-at
invariant-loop-at g l = through_count l.entries ≡ l.at + through_count (drop l.at l.entries)
