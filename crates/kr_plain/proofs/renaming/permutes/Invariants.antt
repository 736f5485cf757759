use Rattle.std.proofs.Common.{ℕ, ◌<◌}
use Rattle.kr_mean.specs.Entries.{name_in}
use Rattle.kr_plain.specs.Names.{IsNew}
use Rattle.kr_plain.proofs.renaming.permutes.Given as goal

abbrev pub invariant-loop-number : goal.invariant-loop-number
invariant-loop-number l = (k : ℕ) → k < l.number → (name_in l.perm l.domain k < l.count) × IsNew (name_in l.perm) l.domain k
