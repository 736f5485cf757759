use Rattle.std.proofs.Common.{◌≡◌, map, drop}
use Rattle.kr_space_meaning.specs.Bounds.{object_number}
use Rattle.kr_space_rules.specs.ObjectDomains.{declared_shown}
use Rattle.kr_space_rules.proofs.objects.object_domain_of.Given as goal

abbrev pub invariant-loop-at : goal.invariant-loop-at
invariant-loop-at l =
    object_number 0 (map (declared_shown l.all) l.objects) l.name l.class
    ≡ object_number l.at (map (declared_shown l.all) (drop l.at l.objects)) l.name l.class
