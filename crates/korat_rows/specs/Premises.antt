-- Between crates: problems that meet the premises of the laws on listings, and problems that don't, worked by hand.
use Rattle.std.specs.Prelude.{ℕ, pos, true, List, [], ◌∷◌, ◌++◌}
use Rattle.kr_ast.specs.declared.node.BinaryOperator.TheVariants.{Add}
use Rattle.kr_ast.specs.Tree.{Tree}
use Rattle.kr_value.specs.declared.value.Value.TheVariants.{Int, Bool as Truth, Null}
use Rattle.kr_value.specs.declared.object.Spot.TheVariants.{Length, Element}
use Rattle.kr_mean.specs.Problem.{Problem, Plain, Objects}
use Rattle.kr_mean.specs.WellFormed.{IsWellFormed}
use Rattle.kr_mean.specs.Purity.{IsPure}
use Rattle.korat_rows.specs.Words.{int, long, boolean, named, number, yes, this, name, ◌dot◌, ◌at◌, new, new_array, compound, ◌becomes◌, local, evaluate, assign, increment, return, throw, catch, try, signals, void, contracted, field, rep_ok, class, ints, objects, arrays_named, listed, testing}
use Rattle.kr_space_meaning.specs.Examples.{array_of, at as at_field}
use Rattle.korat_rows.specs.Listings.{sorted_array, plus, tree}
use Rattle.korat_rows.specs.Examples.{nodes_with, two_nodes, two_subclasses}
use Rattle.kr_laws_safety.specs.Domains.{HaveDomainsTypes}

-- the premises of the laws on listings
pub record Meets (problem : Problem) : Type 0 where
  pub well_formed : IsWellFormed problem
  pub pure : IsPure problem
  pub types : HaveDomainsTypes problem

-- class R { TYPE v; boolean repOk() { return true; } }, an object whose `v` is this number
abbrev pub numbers_of : Tree → ℕ → Problem
numbers_of type n =
    listed (class "R" (field type "v" ∷ rep_ok (return yes ∷ []) ∷ []) ∷ []) (objects "R" 0 1 (at_field 0 (ints (n ∷ [])) ∷ []) ∷ []) 100

-- ---- code that touches

-- class R { int v; int[] a; boolean repOk() { STATEMENTS return true; } } class Box { int w; boolean[] b; }
abbrev pub running : List Tree → Problem
running statements =
    let root : Tree = class "R" (field int "v" ∷ field (array_of int) "a" ∷ rep_ok (statements ++ return yes ∷ []) ∷ []) in
    listed (root ∷ class "Box" (field int "w" ∷ field (array_of boolean) "b" ∷ []) ∷ [])
    (objects "R" 0 1 (at_field 0 (ints (0 ∷ [])) ∷ at_field 1 (Objects 1 ∷ []) ∷ [])
    ∷ arrays_named "int[]" 1 (record { spot = Length; domain = ints (0 ∷ 1 ∷ []) } ∷ record { spot = Element 0; domain = ints (0 ∷ []) } ∷ []) ∷ []) 100

-- class R { int v; boolean repOk() { return true; } CONTRACT void m() { } }, and its method `m` under test
abbrev pub contracted_by : List Tree → Problem
contracted_by contract =
    testing "m" [] (listed (class "R" (field int "v" ∷ rep_ok (return yes ∷ []) ∷ contracted void "m" [] contract [] ∷ []) ∷ class "E" [] ∷ [])
    (objects "R" 0 1 (at_field 0 (ints (0 ∷ [])) ∷ []) ∷ []) 100)

abbrev pub v : Tree
v = name "v"

abbrev pub x : Tree
x = name "x"

-- `e += 1;`
abbrev pub add_one : Tree → Tree
add_one e = evaluate (compound Add e (number 1))

-- a[0]
abbrev pub element : Tree
element = name "a" at number 0

-- Box x = new Box();
abbrev pub box : Tree
box = local (named "Box") "x" (new (named "Box") [])

pub record Premises : Type 0 where
  pub two_nodes_meets : Meets two_nodes
  pub two_subclasses_meets : Meets two_subclasses
  pub sorted_array_meets : Meets sorted_array
  pub plus_meets : Meets plus
  -- two collections, which the predicate makes and changes
  pub tree_meets : Meets tree
  -- neither a number nor a boolean is a node, and null is one
  pub number_for_node : HaveDomainsTypes (nodes_with (Plain (Int (pos 0)) ∷ [])) → ⊥
  pub boolean_for_node : HaveDomainsTypes (nodes_with (Plain Null ∷ Plain (Truth true) ∷ [])) → ⊥
  pub null_for_node : HaveDomainsTypes (nodes_with (Plain Null ∷ []))
  -- the numbers of int and long
  pub long_in_long : HaveDomainsTypes (numbers_of long 2147483648)
  pub long_in_int : HaveDomainsTypes (numbers_of int 2147483648) → ⊥
  pub beyond_long : HaveDomainsTypes (numbers_of long 9223372036854775808) → ⊥
  -- writes of a candidate's field
  pub own_field_assigned : IsPure (running (assign v (number 1) ∷ [])) → ⊥
  pub field_assigned : IsPure (running (assign (this dot "v") (number 1) ∷ [])) → ⊥
  pub field_added_to : IsPure (running (add_one v ∷ [])) → ⊥
  pub field_stepped : IsPure (running (increment v ∷ [])) → ⊥
  -- of an element
  pub element_assigned : IsPure (running (assign element (number 1) ∷ [])) → ⊥
  pub element_added_to : IsPure (running (add_one element ∷ [])) → ⊥
  pub element_stepped : IsPure (running (increment element ∷ [])) → ⊥
  -- creations of what the finitization has
  pub candidate_made : IsPure (running (evaluate (new (named "R") []) ∷ [])) → ⊥
  pub array_made : IsPure (running (evaluate (new_array int (number 1)) ∷ [])) → ⊥
  -- in what is tried, thrown and caught, and in the condition of a `signals`
  pub tried_assigned : IsPure (running (try (assign v (number 1) ∷ []) (catch (named "Box") "x" [] ∷ []) ∷ [])) → ⊥
  pub caught_assigned : IsPure (running (try [] (catch (named "Box") "x" (assign v (number 1) ∷ []) ∷ []) ∷ [])) → ⊥
  pub thrown_made : IsPure (running (throw (new (named "R") []) ∷ [])) → ⊥
  pub signals_assigned : IsPure (contracted_by (signals (named "E") (v becomes number 1) ∷ [])) → ⊥
  -- locals, and what the finitization doesn't have
  pub local_written : IsPure (running (local int "x" (number 0) ∷ assign x (number 1) ∷ add_one x ∷ increment x ∷ []))
  pub box_written : IsPure (running (box ∷ assign (x dot "w") (number 1) ∷ add_one (x dot "w") ∷ increment (x dot "w") ∷ []))
  pub other_array_written : IsPure (running (box ∷ assign (x dot "b") (new_array boolean (number 1)) ∷ assign (x dot "b" at number 0) yes ∷ []))
