use Rattle.std.proofs.Common.{◌≡◌, map, bytes_eq, drop}
use Rattle.std.specs.Prelude.{find}
use Rattle.kr_space_rules.specs.Parameters.{parameter_shown}
use Rattle.kr_space_rules.proofs.key_types.type_among.Given as goal

abbrev pub invariant-loop-parameter : goal.invariant-loop-parameter
invariant-loop-parameter l =
    find (λ p. bytes_eq p.name l.name) (map (parameter_shown l.classes.trees.now) l.parameters)
    ≡ find (λ p. bytes_eq p.name l.name) (map (parameter_shown l.classes.trees.now) (drop l.parameter-index l.parameters))
