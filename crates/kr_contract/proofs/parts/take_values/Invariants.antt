use Rattle.std.proofs.Common.{◌≡◌, take}
use Rattle.std.specs.Prelude.{map}
use Rattle.kr_contract.proofs.parts.take_values.Given as goal

-- the values so far
abbrev pub invariant-loop-local : goal.invariant-loop-local
invariant-loop-local l = l.values.items ≡ map (λ x. x.value) (take l.local-index l.locals)
