use Rattle.std.proofs.Common.{◌≡◌, ◌+◌, map, drop}
use Rattle.kr_classes_names.specs.Types.{type_at}
use Rattle.kr_space_meaning.specs.Bounds.{bound_number}
use Rattle.kr_space_rules.specs.Entries.{bound_shown}
use Rattle.kr_space_rules.proofs.bounds.array_domain_of.Given as goal

abbrev pub invariant-loop-at : goal.invariant-loop-at
invariant-loop-at l =
    bound_number l.objects (map (bound_shown l.types l.all) l.bounds) (type_at l.types l.number)
    ≡ bound_number (l.objects + l.at) (map (bound_shown l.types l.all) (drop l.at l.bounds)) (type_at l.types l.number)
