use Rattle.std.proofs.Common.{◌≡◌, ℕ, ◌<◌}
use Rattle.kr_mean.specs.Entries.{name_in}
use Rattle.kr_plain.proofs.renaming.is_new.Given as goal

abbrev pub invariant-loop-other : goal.invariant-loop-other
invariant-loop-other l = (j : ℕ) → j < l.other → name_in l.perm l.domain j ≡ name_in l.perm l.domain l.number → ⊥
