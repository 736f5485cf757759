-- Between crates: the outcome of a constant's initial value, from those of its operands.
use Rattle.std.specs.Prelude.{ℕ, Bool, List, ◌++◌, if◌then◌else◌, Option, Some, None, option_and_then, option_map, option_to_list, unwrap_or}
use Rattle.kr_base.specs.declared.place.Place.{Place}
use Rattle.kr_ast.specs.Tree.{Tree}
use Rattle.kr_ast.specs.declared.node.UnaryOperator.{UnaryOperator}
use Rattle.kr_ast.specs.declared.node.BinaryOperator.{BinaryOperator}
use Rattle.kr_value.specs.declared.value.Value.{Value}
use Rattle.kr_classes_table.specs.Numbers.{Width, Bits32, wider}
use Rattle.kr_classes_table.specs.Operators.{operator_width}
use Rattle.kr_classes_table.specs.Table.{Table, Field}
use Rattle.kr_classes_table.specs.Constants.{Known, known_as, is_constant, evaluated, unary_value, binary_value, cast_value, constant_width, chosen, constant_only}
use Rattle.kr_classes_constants.specs.declared.note.Found.{Found}
use Rattle.kr_classes_constants.specs.declared.note.Note.{Note}
use Rattle.kr_classes_constants.specs.declared.note.Note.TheVariants.{NotConstant, NoValue, Value as Valued}

-- none where it is no constant expression; else its value, which is none where a zero divisor is met
abbrev pub Outcome : Type 0
Outcome = Option (Option Value)

abbrev pub outcome : Bool → Option Value → Outcome
outcome is v = if is then Some v else None

abbrev pub outcome_of : Table → List Known → ℕ → Tree → Outcome
outcome_of t known c e = outcome (is_constant t known c e) (evaluated t known c e)

abbrev pub unary_outcome : Width → UnaryOperator → Outcome → Outcome
unary_outcome w o None = None
unary_outcome w o (Some v) = Some (option_and_then (unary_value w o) v)

abbrev pub binary_outcome : Width → BinaryOperator → Outcome → Outcome → Outcome
binary_outcome w o (Some x) (Some y) = Some (binary_value w o x y)
binary_outcome w o x y = None

-- of a cast to a type of numbers, or to another primitive one
abbrev pub cast_outcome : Option Width → Outcome → Outcome
cast_outcome w None = None
cast_outcome w (Some v) = Some (option_map (cast_value w) v)

abbrev pub conditional_outcome : Outcome → Outcome → Outcome → Outcome
conditional_outcome (Some c) (Some v) (Some w) = Some (chosen c v w)
conditional_outcome c v w = None

-- an outcome, with the width of the expression's numbers
pub record Sized : Type 0 where
  pub width : Width
  pub outcome : Outcome

abbrev pub sized : Width → Outcome → Sized
sized w o = record { width = w; outcome = o }

abbrev pub sized_of : Table → List Known → ℕ → Tree → Sized
sized_of t known c e = sized (constant_width t c e) (outcome_of t known c e)

abbrev pub unary_sized : UnaryOperator → Sized → Sized
unary_sized o x = sized x.width (unary_outcome x.width o x.outcome)

abbrev pub binary_sized : BinaryOperator → Sized → Sized → Sized
binary_sized o x y = sized (operator_width o x.width y.width) (binary_outcome (operator_width o x.width y.width) o x.outcome y.outcome)

abbrev pub conditional_sized : Sized → Sized → Sized → Sized
conditional_sized c x y = sized (wider x.width y.width) (conditional_outcome c.outcome x.outcome y.outcome)

abbrev pub cast_sized : Option Width → Sized → Sized
cast_sized w x = sized (unwrap_or w Bits32) (cast_outcome w x.outcome)

-- the outcome of a name: the value of the constant that it means
abbrev pub known_outcome : Option Value → Outcome
known_outcome None = None
known_outcome (Some v) = Some (Some v)

-- the known constants, followed by one at a place if it is constant and has a value
abbrev pub with_outcome : List Known → Place → Outcome → List Known
with_outcome known p None = known
with_outcome known p (Some v) = known ++ known_as p v

-- a field, if it is a constant
abbrev pub constant_listed : Field → List Field
constant_listed f = option_to_list (constant_only f)

abbrev pub note_shown : Note → Outcome
note_shown NotConstant = None
note_shown NoValue = Some None
note_shown (Valued v) = Some (Some v)

-- a note with its width, as the code has it
abbrev pub found_shown : Found → Sized
found_shown f = sized f.width (note_shown f.note)
