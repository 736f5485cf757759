use Rattle.std.proofs.Common.{◌≡◌, ◌<◌, length, map, All}
use Rattle.kr_classes_names.specs.Types.{count, type_at}
use Rattle.kr_types_judging.specs.Shown.{IsKnownWithin, known_shown}
use Rattle.kr_types_expressions.specs.Notes.{IsRestBelow, typed_in}
use Rattle.kr_types_expressions.proofs.Gathering.{before, nodes_left}
use Rattle.kr_types_expressions.proofs.lists.value_types.Given as goal

abbrev pub invariant-loop-at : goal.invariant-loop-at
invariant-loop-at l = record {
  within : All (λ t. t < count l.types) l.found.items;
  known : IsKnownWithin l.types l.at;
  below : IsRestBelow (length l.notes) l.at;
  shown : before (map (type_at l.types) l.found.items) (known_shown l.types (typed_in l.types l.notes) l.at) ≡ known_shown l.types (typed_in l.types l.notes) l.fn.list;
}

abbrev pub decreases-loop-at : goal.decreases-loop-at
decreases-loop-at l = nodes_left l.at
