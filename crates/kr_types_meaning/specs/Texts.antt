-- Between crates: words for written trees and answers.
use Rattle.std.specs.Prelude.{ℕ, List, [], ◌∷◌}
use Rattle.kr_base.specs.declared.place.Place.{Place}
use Rattle.kr_ast.specs.Tree.{Tree, Nil, Cons}
use Rattle.kr_classes_table.specs.Rules.{Fault}
use Rattle.kr_types_meaning.specs.Typing.{Refusal, ClassRule, TypeRule}

abbrev pub at : ℕ → ℕ → ℕ → Place
at file line col = record { file = file; line = line; col = col }

abbrev pub list_of : List Tree → Tree
list_of [] = Nil
list_of (t ∷ ts) = Cons t (list_of ts)

abbrev pub fault_at : ℕ → ℕ → ℕ → ℕ → Fault
fault_at rule file line col = record { place = at file line col; rule = rule }

abbrev pub class_rule_at : ℕ → ℕ → ℕ → ℕ → Refusal
class_rule_at rule file line col = ClassRule (fault_at rule file line col)

abbrev pub type_rule_at : ℕ → ℕ → ℕ → ℕ → Refusal
type_rule_at rule file line col = TypeRule (fault_at rule file line col)
