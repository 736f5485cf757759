use Rattle.std.proofs.Common.{map, take}
use Rattle.kr_classes_names.specs.Listed.{IsIndexOf}
use Rattle.kr_space.proofs.keys.domain_index.Given as goal

abbrev pub invariant-loop-at : goal.invariant-loop-at
invariant-loop-at l = IsIndexOf (map (λ d. d.key) (take l.at l.domains)) l.index
