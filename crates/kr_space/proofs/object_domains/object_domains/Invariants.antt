use Rattle.std.proofs.Common.{◌≡◌, ◌++◌, map, drop}
use Rattle.kr_space_layout.specs.Bounds.{class_domain}
use Rattle.kr_space_meaning.specs.Bounds.{object_domain}
use Rattle.kr_space_rules.specs.ObjectDomains.{declared_shown}
use Rattle.kr_space.specs.Basis.{setting_on}
use Rattle.kr_space.specs.Pools.{pool}
use Rattle.kr_space.proofs.object_domains.object_domains.Given as goal

abbrev pub invariant-loop-object : goal.invariant-loop-object
invariant-loop-object l =
    map (object_domain (setting_on l.basis)) (map (declared_shown l.basis.document.now.objects) l.basis.objects.now)
    ≡ map (class_domain (pool (setting_on l.basis) l.basis.document.now)) l.domains ++ map (object_domain (setting_on l.basis)) (map (declared_shown l.basis.document.now.objects) (drop l.object-index l.basis.objects.now))
