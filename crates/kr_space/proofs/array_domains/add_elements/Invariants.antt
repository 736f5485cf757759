use Rattle.std.proofs.Common.{◌≡◌, ◌++◌, ◌-◌, [], List, map, get_or}
use Rattle.kr_mean.specs.Problem.{Domain}
use Rattle.kr_space_layout.specs.Bounds.{spotted}
use Rattle.kr_space_meaning.specs.Bounds.{element_spots}
use Rattle.kr_space.proofs.array_domains.add_elements.Given as goal

abbrev pub invariant-loop-at : goal.invariant-loop-at
invariant-loop-at l = (domains : List Domain) →
    map (spotted domains) l.initial.spots ++ element_spots 0 l.count (get_or domains l.domain [])
    ≡ map (spotted domains) l.spots ++ element_spots l.at (l.count - l.at) (get_or domains l.domain [])
