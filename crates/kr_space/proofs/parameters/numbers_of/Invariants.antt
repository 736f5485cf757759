use Rattle.std.proofs.Common.{◌≡◌, ◌++◌, [], map, drop, get_or}
use Rattle.kr_mean.specs.declared.mode.Mode.TheVariants.{Method as Testing}
use Rattle.kr_space_meaning.specs.Bounds.{parameter_key}
use Rattle.kr_space_rules.specs.Parameters.{parameter_shown}
use Rattle.kr_space.specs.Basis.{setting_on}
use Rattle.kr_space.specs.Pools.{params_given, pool}
use Rattle.kr_space.proofs.parameters.numbers_of.Given as goal

abbrev pub invariant-loop-parameter : goal.invariant-loop-parameter
invariant-loop-parameter l =
    map (λ p. params_given (setting_on l.basis) l.basis.document.now (parameter_key (Testing l.method) p)) (map (parameter_shown l.basis.classes.now.trees.now) l.parameters)
    ≡ map (λ n. get_or (pool (setting_on l.basis) l.basis.document.now) n []) l.numbers
    ++ map (λ p. params_given (setting_on l.basis) l.basis.document.now (parameter_key (Testing l.method) p)) (map (parameter_shown l.basis.classes.now.trees.now) (drop l.parameter-index l.parameters))
