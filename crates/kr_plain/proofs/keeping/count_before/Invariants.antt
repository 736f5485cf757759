use Rattle.std.proofs.Common.{◌≡◌, ◌+◌, drop}
use Rattle.kr_plain.specs.Keys.{before_count}
use Rattle.kr_plain.proofs.keeping.count_before.Given as goal

abbrev pub invariant-loop-at : goal.invariant-loop-at
invariant-loop-at g l = before_count l.key l.entries ≡ l.at + before_count l.key (drop l.at l.entries)
