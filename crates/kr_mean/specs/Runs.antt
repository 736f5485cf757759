-- To be believed: the predicate run on a vector, the order of the slots that decide it, and the key that they give.
use Rattle.std.specs.Prelude.{◌≡◌, ℕ, ◌+◌, ◌==◌, Bool, true, false, ◌&&◌, ◌||◌, List, [], ◌∷◌, ◌++◌, length, map, flat_map, filter, Option, Some, None, option_to_list, Result, Ok, Err, codes, if◌then◌else◌}
use Rattle.std.proofs.Common.{get_or}
use Rattle.kr_ast.specs.Tree as trees
use Rattle.kr_ast.specs.Tree.{Tree, MethodCall}
use Rattle.kr_value.specs.declared.object.Class.{Class}
use Rattle.kr_value.specs.declared.object.Class.TheVariants.{Object}
use Rattle.kr_value.specs.declared.object.Spot.{Spot}
use Rattle.kr_value.specs.declared.object.Spot.TheVariants.{Field, Length, Element}
use Rattle.kr_value.specs.declared.value.Value.{Value}
use Rattle.kr_value.specs.declared.value.Value.TheVariants.{Bool as Truth}
use Rattle.kr_classes_table.specs.Table.{Method, method_named}
use Rattle.kr_types_meaning.specs.Scopes.{Part, Requiring, Ensuring, in_contract}
use Rattle.kr_mean.specs.declared.kind.Kind.{Kind}
use Rattle.kr_mean.specs.declared.mode.Mode.{Mode}
use Rattle.kr_mean.specs.declared.mode.Mode.TheVariants.{List as Listing, Method as Testing}
use Rattle.kr_mean.specs.declared.kind.Stop.{Stop}
use Rattle.kr_mean.specs.declared.kind.Stop.TheVariants.{Trapped, OutOfFuel, Stuck}
use Rattle.kr_mean.specs.Program.{Program, class_scope, method_scope}
use Rattle.kr_mean.specs.Places.{SlotPlace, This, Parameter, At}
use Rattle.kr_mean.specs.Problem.{Problem, all_objects, slot_at, slots, domain_at, upto}
use Rattle.kr_mean.specs.Heaps.{distinct, heap_of, value_at, walk}
use Rattle.kr_mean.specs.Steps.{Local, State, Outcome, Run, after_reads, give, stop, ◌>>=◌}
use Rattle.kr_mean.specs.Meaning.{value}
use Rattle.kr_mean.specs.Code.{Node}
use Rattle.kr_base.specs.Places.{nowhere}

-- ---- the run

-- how the predicate run ends; one that is stuck doesn't accept
pub data End : Type 0 where
  True : End
  False : End
  Trap : Kind → End
  Spent : End

-- the class of the root's objects
abbrev pub class_number : Class → ℕ
class_number (Object c) = c
class_number class = 0

abbrev pub root_class : Problem → ℕ
root_class problem = class_number (domain_at problem problem.root).class

-- the method under test, where one is tested
abbrev pub tested_method : Problem → Mode → Option Method
tested_method problem Listing = None
tested_method problem (Testing n) = method_named problem.program.table (root_class problem) n

abbrev pub required_in : Tree → List Tree
required_in (trees.Requires p e) = e ∷ []
required_in t = []

abbrev pub ensured_in : Tree → List Tree
ensured_in (trees.Ensures p e) = e ∷ []
ensured_in t = []

abbrev pub contract_nodes : Program → Part → (Tree → List Tree) → Method → List Node
contract_nodes program part chosen m = map (λ e. record { scope = in_contract part (method_scope program m); tree = e }) (flat_map chosen m.contracts)

-- the conditions of a method's contract, in its scope
abbrev pub requires_of : Program → Method → List Node
requires_of program m = contract_nodes program Requiring required_in m

abbrev pub ensures_of : Program → Method → List Node
ensures_of program m = contract_nodes program Ensuring ensured_in m

-- `this.repOk()`, in the code of the root's class
abbrev pub rep_ok : Tree
rep_ok = MethodCall nowhere (trees.This nowhere) (codes "repOk") trees.Nil

abbrev pub rep_ok_node : Problem → Node
rep_ok_node problem = record { scope = class_scope problem.program (root_class problem); tree = rep_ok }

-- the conditions: `this.repOk()`, and then each precondition in order
abbrev pub conditions : Problem → List Node
conditions problem = rep_ok_node problem ∷ flat_map (requires_of problem.program) (option_to_list (tested_method problem problem.mode))

-- goes on where a condition holds
abbrev pub where_true : Value → Run Bool → Run Bool
where_true (Truth true) m = m
where_true (Truth false) m = give false
where_true v m = stop Stuck

-- whether all hold, each looked at only where those before it do
abbrev pub hold_all : Program → List Node → Run Bool
hold_all program [] = give true
hold_all program (e ∷ es) = value program e.scope e.tree >>= (λ v. where_true v (hold_all program es))

-- the values of the parameters of the method under test
abbrev pub parameter_values : Problem → List ℕ → List Value
parameter_values problem vector = map (λ i. value_at problem vector (i + 1)) (upto (length problem.parameters))

-- they are read where they are named
abbrev pub parameters_from : ℕ → List Value → List Local
parameters_from i [] = []
parameters_from i (v ∷ vs) = record { value = v; place = Some (Parameter i) } ∷ parameters_from (i + 1) vs

abbrev pub start : Problem → List ℕ → State
start problem vector = record {
  this_value = value_at problem vector 0;
  locals = parameters_from 0 (parameter_values problem vector);
  result = None;
  olds = [];
  thrown = None;
  heap = heap_of problem vector;
  candidates = length (all_objects problem);
  fuel = problem.fuel;
}

abbrev pub end_of : Result Bool Stop → End
end_of (Ok true) = True
end_of (Ok false) = False
end_of (Err (Trapped kind)) = Trap kind
end_of (Err OutOfFuel) = Spent
end_of (Err Stuck) = False

-- the run reads `this` before all else
abbrev pub outcome_of : Problem → List ℕ → Outcome Bool
outcome_of problem vector = after_reads (This ∷ []) (hold_all problem.program (conditions problem) (start problem vector))

-- the run ends at a node without a meaning
abbrev pub IsStuck : Problem → List ℕ → Type 0
IsStuck problem vector = (outcome_of problem vector).said ≡ Err Stuck

unfoldable pub end_on : Problem → List ℕ → End
end_on problem vector = end_of (outcome_of problem vector).said

-- ---- the order

abbrev pub is_same_spot : Spot → Spot → Bool
is_same_spot (Field f) (Field g) = f == g
is_same_spot Length Length = true
is_same_spot (Element i) (Element j) = i == j
is_same_spot _ _ = false

abbrev pub is_same_place : SlotPlace → SlotPlace → Bool
is_same_place This This = true
is_same_place (Parameter i) (Parameter j) = i == j
is_same_place (At o s) (At p t) = (o == p) && is_same_spot s t
is_same_place _ _ = false

-- the slot of a place
abbrev pub slots_for : Problem → SlotPlace → List ℕ
slots_for problem place = filter (λ s. is_same_place (slot_at problem s).place place) (upto (length (slots problem)))

abbrev pub is_same_number : ℕ → ℕ → Bool
is_same_number m n = m == n

-- the slots that the run reads
unfoldable pub read_slots : Problem → List ℕ → List ℕ
read_slots problem vector = flat_map (slots_for problem) (outcome_of problem vector).reads

abbrev pub is_accepted : End → Bool
is_accepted True = true
is_accepted False = false
is_accepted (Trap kind) = false
is_accepted Spent = false

abbrev pub contains_number : List ℕ → ℕ → Bool
contains_number [] x = false
contains_number (y ∷ ys) x = (y == x) || contains_number ys x

-- the reachable slots of what a run accepts
abbrev pub accepted_walk : Problem → List ℕ → List ℕ
accepted_walk problem vector = if is_accepted (end_on problem vector) then walk problem vector else []

-- The order of a vector's slots: those that the run reads and, where it accepts, the reachable ones, each where it comes
-- first.
unfoldable pub order_of : Problem → List ℕ → List ℕ
order_of problem vector = distinct is_same_number (read_slots problem vector ++ accepted_walk problem vector)

-- the indices of a vector along an order
abbrev pub key_along : List ℕ → List ℕ → List ℕ
key_along vector order = map (λ s. get_or vector s 0) order

-- a vector's key
abbrev pub key_of : Problem → List ℕ → List ℕ
key_of problem vector = key_along vector (order_of problem vector)
