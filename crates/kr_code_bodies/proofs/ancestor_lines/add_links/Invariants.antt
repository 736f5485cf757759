use Rattle.std.proofs.Common.{◌≡◌, ◌++◌, map, take}
use Rattle.kr_code_bodies.proofs.ancestor_lines.add_links.Given as goal

abbrev pub invariant-loop-number : goal.invariant-loop-number
invariant-loop-number l = l.links ≡ l.initial.links ++ map (λ n. n) (take l.number-index l.numbers)
