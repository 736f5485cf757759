-- Between crates: the results of looking up a rule.
use Rattle.std.specs.Prelude.{◌≡◌, List, [], Option, Some, None}
use Rattle.std.specs.Borrow.{Bor}
use Rattle.kr_parse_grammar.specs.declared.goal.Symbol.{Symbol}
use Rattle.kr_parse_grammar.specs.declared.goal.Goal.{Goal}
use Rattle.kr_parse_grammar.specs.declared.goal.Goal.TheVariants as goals
use Rattle.kr_parse_grammar.specs.declared.operators.Infix.{Infix}
use Rattle.kr_parse_grammar.specs.declared.operators.Infix.TheVariants.{Dead, Ends, Tests, Operates}

abbrev pub IsRule : Option (Bor (List Symbol)) → Option (List Symbol) → Type 0
IsRule None rule = rule ≡ None
IsRule (Some body) rule = rule ≡ Some body.now

abbrev pub IsInfix : Infix → Option (List Symbol) → Type 0
IsInfix Dead rule = rule ≡ None
IsInfix Ends rule = rule ≡ Some []
IsInfix (Tests body) rule = rule ≡ Some body
IsInfix (Operates body) rule = rule ≡ Some body

-- a goal whose rule is in the table
abbrev pub IsFixed : Goal → Type 0
IsFixed (goals.Operators n x) = ⊥
IsFixed _ = Unit {0}
