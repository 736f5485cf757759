-- Between crates: the rules on a declared name, from the facts known of its scope.
use Rattle.std.specs.Prelude.{Bool, Option}
use Rattle.kr_classes_table.specs.Types.{JavaType}
use Rattle.kr_classes_table.specs.Table.{Table}
use Rattle.kr_types_meaning.specs.Rules as rules
use Rattle.kr_types_meaning.specs.Scopes.{Declaring, Locals, Fields, Constants}
use Rattle.kr_types_judging.specs.Shown.{constant_says, initial_goes_into}

-- the verdict on a name that is new or not, declared with this type and initial value; a constant has a value or not
abbrev pub declares : Table → Declaring → JavaType → Bool → Bool → Option JavaType → rules.Judgement
declares t Locals to is_new has_value from = rules.ask is_new 4 (rules.ask (initial_goes_into t to from) 29 rules.fine)
declares t Fields to is_new has_value from = rules.ask (initial_goes_into t to from) 35 rules.fine
declares t (Constants is_final) to is_new has_value from = constant_says t to is_final has_value from
