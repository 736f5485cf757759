use Rattle.std.proofs.Common.{◌≡◌, ◌++◌, map, drop}
use Rattle.kr_space_layout.specs.Bounds.{class_domain}
use Rattle.kr_space_meaning.specs.Bounds.{array_class_domain}
use Rattle.kr_space_rules.specs.Entries.{bound_shown}
use Rattle.kr_space.specs.Basis.{setting_on}
use Rattle.kr_space.specs.Pools.{pool}
use Rattle.kr_space.proofs.array_domains.add_array_domains.Given as goal

abbrev pub invariant-loop-bound : goal.invariant-loop-bound
invariant-loop-bound l =
    map (class_domain (pool (setting_on l.basis) l.basis.document.now)) l.initial.domains ++ map (array_class_domain (setting_on l.basis)) (map (bound_shown l.types l.basis.document.now.arrays) l.basis.bounds.now)
    ≡ map (class_domain (pool (setting_on l.basis) l.basis.document.now)) l.domains ++ map (array_class_domain (setting_on l.basis)) (map (bound_shown l.types l.basis.document.now.arrays) (drop l.bound-index l.basis.bounds.now))
