-- Between crates: steps of the meaning that need no other code, each of which gives a value.
use Rattle.std.specs.Prelude.{[]}
use Rattle.kr_value.specs.declared.value.Value.{Value}
use Rattle.kr_value.specs.declared.value.Value.TheVariants.{Null}
use Rattle.kr_mean.specs.Steps.{Run, say, give, stop, ◌>>=◌, ◌>>◌, tick, get_this, read_local, declare, assign, get_result, get_old, element, class_or_null, make}
use Rattle.kr_mean.specs.Operators.{operated, operated_alone}
use Rattle.kr_code.specs.declared.code.Code.{Code}
use Rattle.kr_code.specs.Steps.{load_named, store_field, store_item, cast_to, instance_of}
use Rattle.kr_code.specs.Doing.{array_of}
use Rattle.kr_run_state.specs.declared.action.Cell.{Cell}
use Rattle.kr_run_state.specs.declared.action.Cell.TheVariants as cells
use Rattle.kr_run_state.specs.declared.action.Action.{Action}
use Rattle.kr_run_state.specs.declared.action.Action.TheVariants as actions

-- gives a variable a value
abbrev pub written : Code → Cell → Value → Run (Unit {0})
written code (cells.Local k) v = assign k v
written code (cells.Field field o) v = store_field code field o v
written code (cells.Item t a i) v = store_item code t a i v

abbrev pub acted : Code → Action → Run Value
acted code (actions.Give v) = give v
acted code actions.This = get_this
acted code (actions.ReadLocal k) = read_local k
acted code actions.Result = get_result
acted code (actions.Old p) = get_old p
acted code (actions.Load name o) = load_named code name o
acted code (actions.Element o i) = element o i
acted code (actions.Unary o v) = say (operated_alone o v)
acted code (actions.Binary o v w) = say (operated o v w)
acted code (actions.Instance t v) = do
  class ← class_or_null v
  give (instance_of code t class)
acted code (actions.Cast t v) = do
  class ← class_or_null v
  cast_to code t v class
acted code (actions.NewArray k default v) = array_of k default v
acted code (actions.NewCollection class) = make class []
acted code (actions.Write cell v g) = written code cell v >> give g
acted code actions.Tick = tick >> give Null
acted code (actions.Declare v) = tick >> (declare v >> give Null)
acted code (actions.End e) = stop e
