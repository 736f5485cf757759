-- Between crates: the part that an overriding method must share with the overridden one.
use Rattle.std.specs.Prelude.{ℕ, ◌&&◌, not, Bool, true, false, List, [], ◌∷◌, if◌then◌else◌}
use Rattle.kr_classes_table.specs.Types.{JavaType, is_same}
use Rattle.kr_classes_table.specs.Table.{Method, Table}
use Rattle.kr_classes_table.specs.Rules.{result_fits, same_types}
use Rattle.kr_classes.specs.declared.overriding.Shared.{Shared}
use Rattle.kr_classes.specs.declared.overriding.Shared.TheVariants.{Parameters, ResultType}

-- equally many types, pairwise equal
abbrev pub are_same : List JavaType → List JavaType → Bool
are_same [] [] = true
are_same (a ∷ more) (b ∷ others) = is_same a b && are_same more others
are_same _ _ = false

-- the types of its parameters; or that both are static or neither, and its result
abbrev pub is_shared : Shared → Table → Method → Method → Bool
is_shared Parameters t m above = same_types m.parameters above.parameters
is_shared ResultType t m above = (if m.is_static then above.is_static else not above.is_static) && result_fits t m.result above.result

-- the class rule that asks for it
abbrev pub rule_for : Shared → ℕ
rule_for Parameters = 5
rule_for ResultType = 7
