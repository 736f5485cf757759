use Rattle.std.proofs.Common.{ℕ, ◌<◌}
use Rattle.kr_mean.specs.Entries.{name_in}
use Rattle.kr_mean.specs.Problem.{domain_at}
use Rattle.kr_space_layout.specs.Bounds.{bare}
use Rattle.kr_plain.specs.Names.{Permutes}
use Rattle.kr_plain.proofs.renaming.is_renaming.Given as goal

abbrev pub invariant-loop-domain : goal.invariant-loop-domain
invariant-loop-domain l = (d : ℕ) → d < l.domain → Permutes (name_in l.perm) d (domain_at (bare l.layout) d).count
