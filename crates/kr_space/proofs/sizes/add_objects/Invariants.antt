use Rattle.std.proofs.Common.{◌≡◌, ◌++◌, map, drop}
use Rattle.kr_space_rules.specs.ObjectDomains.{declared_shown}
use Rattle.kr_space.specs.Sizes.{object_counts}
use Rattle.kr_space.proofs.sizes.add_objects.Given as goal

abbrev pub invariant-loop-object : goal.invariant-loop-object
invariant-loop-object l =
    l.initial.counts.items ++ object_counts (map (declared_shown l.document.objects) l.objects)
    ≡ l.counts.items ++ object_counts (map (declared_shown l.document.objects) (drop l.object-index l.objects))
