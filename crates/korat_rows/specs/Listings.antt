-- Between crates: small problems as a user writes them, and the entries that the definitions give them, worked by hand.
use Prim.Native.String.{String as Text}
use Rattle.std.specs.Prelude.{◌≡◌, List, [], ◌∷◌}
use Rattle.kr_ast.specs.declared.node.UnaryOperator.TheVariants.{Not}
use Rattle.kr_ast.specs.declared.node.StepOperator.TheVariants.{IncrementBehind}
use Rattle.kr_ast.specs.Tree.{Tree}
use Rattle.kr_value.specs.declared.value.Value.TheVariants.{Null}
use Rattle.kr_value.specs.declared.object.Spot.TheVariants.{Length, Element}
use Rattle.kr_mean.specs.Problem.{Problem, Plain, Objects}
use Rattle.korat_rows.specs.Words.{int, void, named, hash_set, linked_list, number, yes, no, null, name, ◌dot◌, ◌at◌, call_on, new, unary, step, ◌+'◌, ◌-'◌, ◌<'◌, ◌>'◌, ◌=='◌, ◌!='◌, ◌&&'◌, result, block, local, evaluate, return, if_then, while, for, catch, try, field, parameter, requires, ensures, contracted, rep_ok, class, class_below, ints, objects, arrays_named, listed, testing, listing, valid, invalid, spent}
use Rattle.kr_space_meaning.specs.Examples.{array_of, at as at_field}

-- class N { N next; boolean repOk() { return next.next == null; } }
abbrev pub next_of_next : Problem
next_of_next =
    listed (class "N" (field (named "N") "next" ∷ rep_ok (return (name "next" dot "next" ==' null) ∷ []) ∷ []) ∷ [])
    (objects "N" 0 2 (at_field 0 (Plain Null ∷ Objects 0 ∷ []) ∷ []) ∷ []) 1000

-- class N { N next; boolean repOk() { try { return next.next == null; } catch (NullPointerException e) { return true; } } }
abbrev pub next_or_caught : Problem
next_or_caught =
    let clause : Tree = catch (named "NullPointerException") "e" (return yes ∷ []) in
    listed (class "N" (field (named "N") "next" ∷ rep_ok (try (return (name "next" dot "next" ==' null) ∷ []) (clause ∷ []) ∷ []) ∷ [])
    ∷ class "Throwable" [] ∷ class_below "NullPointerException" "Throwable" [] ∷ [])
    (objects "N" 0 2 (at_field 0 (Plain Null ∷ Objects 0 ∷ []) ∷ []) ∷ []) 1000

-- class P { int a; int b; boolean repOk() { return b == 7 && a == 1; } }
abbrev pub short_circuit : Problem
short_circuit =
    listed (class "P" (field int "a" ∷ field int "b"
    ∷ rep_ok (return (name "b" ==' number 7 &&' name "a" ==' number 1) ∷ []) ∷ []) ∷ [])
    (objects "P" 0 1 (at_field 0 (ints (0 ∷ 1 ∷ [])) ∷ at_field 1 (ints (7 ∷ 9 ∷ [])) ∷ []) ∷ []) 1000

-- class S { int[] a; boolean repOk() {
-- for (int i = 1; i < a.length; i++) if (a[i - 1] > a[i]) return false; return true; } }
abbrev pub sorted_array : Problem
sorted_array =
    let i : Tree = name "i" in
    let before : Tree = name "a" at (i -' number 1) in
    let loop : Tree = for (local int "i" (number 1) ∷ []) (i <' name "a" dot "length") (step IncrementBehind i ∷ [])
    (if_then (before >' name "a" at i) (return no)) in
    listed (class "S" (field (array_of int) "a" ∷ rep_ok (loop ∷ return yes ∷ []) ∷ []) ∷ [])
    (objects "S" 0 1 (at_field 0 (Objects 1 ∷ []) ∷ [])
    ∷ arrays_named "int[]" 1 (record { spot = Length; domain = ints (0 ∷ 1 ∷ 2 ∷ []) }
    ∷ record { spot = Element 0; domain = ints (0 ∷ 1 ∷ []) }
    ∷ record { spot = Element 1; domain = ints (0 ∷ 1 ∷ []) } ∷ []) ∷ []) 1000

-- class Cell { int v; boolean repOk() { while (v == 1) { } return true; } }
abbrev pub loops : Problem
loops =
    listed (class "Cell" (field int "v"
    ∷ rep_ok (while (name "v" ==' number 1) (block []) ∷ return yes ∷ []) ∷ []) ∷ [])
    (objects "Cell" 0 1 (at_field 0 (ints (0 ∷ 1 ∷ 2 ∷ [])) ∷ []) ∷ []) 100

-- class Cell { int v; boolean repOk() { return true; }
-- //@ requires x > 0;
-- //@ ensures \result == v + x;
-- int plus(int x) { return v + x; } }
abbrev pub plus : Problem
plus =
    let contract : List Tree = requires (name "x" >' number 0) ∷ ensures (result ==' name "v" +' name "x") ∷ [] in
    let tested : Tree = contracted int "plus" (parameter int "x" ∷ []) contract (return (name "v" +' name "x") ∷ []) in
    testing "plus" (ints (0 ∷ 1 ∷ []) ∷ [])
    (listed (class "Cell" (field int "v" ∷ rep_ok (return yes ∷ []) ∷ tested ∷ []) ∷ [])
    (objects "Cell" 0 1 (at_field 0 (ints (0 ∷ [])) ∷ []) ∷ []) 1000)

-- class B extends A { }
-- class A { int v; boolean repOk() { return true; }
-- //@ requires v == x;
-- void m(int x) { } }
abbrev pub inherited_condition : Problem
inherited_condition =
    let tested : Tree = contracted void "m" (parameter int "x" ∷ []) (requires (name "v" ==' name "x") ∷ []) [] in
    testing "m" (ints (0 ∷ 1 ∷ []) ∷ [])
    (listed (class_below "B" "A" [] ∷ class "A" (field int "v" ∷ rep_ok (return yes ∷ []) ∷ tested ∷ []) ∷ [])
    (objects "B" 0 1 (at_field 0 (ints (0 ∷ 1 ∷ [])) ∷ []) ∷ []) 1000)

-- class B extends A { //@ requires v == x;
-- void m(int x) { } }
-- class A { int v; boolean repOk() { return true; }
-- //@ requires v == 7;
-- void m(int x) { } }
-- The contract of an overridden method isn't evaluated: with it no entry would be valid, and v would be looked at first.
abbrev pub overridden_condition : Problem
overridden_condition =
    let own : Tree = contracted void "m" (parameter int "x" ∷ []) (requires (name "x" ==' name "v") ∷ []) [] in
    let overridden : Tree = contracted void "m" (parameter int "x" ∷ []) (requires (name "v" ==' number 7) ∷ []) [] in
    testing "m" (ints (0 ∷ 1 ∷ []) ∷ [])
    (listed (class_below "B" "A" (own ∷ [])
    ∷ class "A" (field int "v" ∷ rep_ok (return yes ∷ []) ∷ overridden ∷ []) ∷ [])
    (objects "B" 0 1 (at_field 0 (ints (0 ∷ 1 ∷ [])) ∷ []) ∷ []) 1000)

-- if (n.SIDE != null) { if (!seen.add(n.SIDE)) return false; work.add(n.SIDE); }
abbrev pub visit : Text → Tree
visit side =
    let child : Tree = name "n" dot side in
    if_then (child !=' null) (block (if_then (unary Not (call_on (name "seen") "add" (child ∷ []))) (return no)
    ∷ evaluate (call_on (name "work") "add" (child ∷ [])) ∷ []))

-- boolean repOk() { if (root == null) return false;
-- HashSet<Node> seen = new HashSet<Node>(); LinkedList<Node> work = new LinkedList<Node>(); seen.add(root); work.add(root);
-- while (!work.isEmpty()) { Node n = work.removeFirst(); VISIT LEFT, VISIT RIGHT } return seen.size() == 2; }
abbrev pub is_tree : Tree
is_tree = rep_ok (if_then (name "root" ==' null) (return no)
    ∷ local (hash_set (named "Node")) "seen" (new (hash_set (named "Node")) [])
    ∷ local (linked_list (named "Node")) "work" (new (linked_list (named "Node")) [])
    ∷ evaluate (call_on (name "seen") "add" (name "root" ∷ []))
    ∷ evaluate (call_on (name "work") "add" (name "root" ∷ []))
    ∷ while (unary Not (call_on (name "work") "isEmpty" []))
    (block (local (named "Node") "n" (call_on (name "work") "removeFirst" []) ∷ visit "left" ∷ visit "right" ∷ []))
    ∷ return (call_on (name "seen") "size" [] ==' number 2) ∷ [])

-- class Tree { Node root; .. } class Node { Node left; Node right; }
abbrev pub tree : Problem
tree =
    listed (class "Tree" (field (named "Node") "root" ∷ is_tree ∷ [])
    ∷ class "Node" (field (named "Node") "left" ∷ field (named "Node") "right" ∷ []) ∷ [])
    (objects "Tree" 0 1 (at_field 0 (Plain Null ∷ Objects 1 ∷ []) ∷ [])
    ∷ objects "Node" 1 2 (at_field 0 (Plain Null ∷ Objects 1 ∷ [])
    ∷ at_field 1 (Plain Null ∷ Objects 1 ∷ []) ∷ []) ∷ []) 2000

pub record Listings : Type 0 where
  pub next_of_next_listed :
      listing next_of_next ≡ invalid (0 ∷ 0 ∷ []) ∷ invalid (0 ∷ 1 ∷ []) ∷ valid (0 ∷ 2 ∷ 0 ∷ [])
      ∷ invalid (0 ∷ 2 ∷ 1 ∷ []) ∷ invalid (0 ∷ 2 ∷ 2 ∷ []) ∷ []
  pub next_or_caught_listed :
      listing next_or_caught ≡ valid (0 ∷ 0 ∷ []) ∷ invalid (0 ∷ 1 ∷ []) ∷ valid (0 ∷ 2 ∷ 0 ∷ [])
      ∷ invalid (0 ∷ 2 ∷ 1 ∷ []) ∷ invalid (0 ∷ 2 ∷ 2 ∷ []) ∷ []
  pub short_circuit_listed :
      listing short_circuit ≡ invalid (0 ∷ 0 ∷ 0 ∷ []) ∷ valid (0 ∷ 0 ∷ 1 ∷ []) ∷ invalid (0 ∷ 1 ∷ []) ∷ []
  pub sorted_array_listed :
      listing sorted_array ≡ valid (0 ∷ 0 ∷ 0 ∷ []) ∷ valid (0 ∷ 0 ∷ 1 ∷ 0 ∷ []) ∷ valid (0 ∷ 0 ∷ 1 ∷ 1 ∷ [])
      ∷ valid (0 ∷ 0 ∷ 2 ∷ 0 ∷ 0 ∷ []) ∷ valid (0 ∷ 0 ∷ 2 ∷ 0 ∷ 1 ∷ []) ∷ invalid (0 ∷ 0 ∷ 2 ∷ 1 ∷ 0 ∷ [])
      ∷ valid (0 ∷ 0 ∷ 2 ∷ 1 ∷ 1 ∷ []) ∷ []
  pub loops_listed : listing loops ≡ valid (0 ∷ 0 ∷ []) ∷ spent (0 ∷ 1 ∷ []) ∷ valid (0 ∷ 2 ∷ []) ∷ []
  pub plus_listed : listing plus ≡ invalid (0 ∷ 0 ∷ []) ∷ valid (0 ∷ 1 ∷ 0 ∷ []) ∷ []
  pub inherited_condition_listed :
      listing inherited_condition
      ≡ valid (0 ∷ 0 ∷ 0 ∷ []) ∷ invalid (0 ∷ 0 ∷ 1 ∷ []) ∷ invalid (0 ∷ 1 ∷ 0 ∷ []) ∷ valid (0 ∷ 1 ∷ 1 ∷ []) ∷ []
  -- this, x, and then v
  pub overridden_condition_listed :
      listing overridden_condition
      ≡ valid (0 ∷ 0 ∷ 0 ∷ []) ∷ invalid (0 ∷ 0 ∷ 1 ∷ []) ∷ invalid (0 ∷ 1 ∷ 0 ∷ []) ∷ valid (0 ∷ 1 ∷ 1 ∷ []) ∷ []
  pub tree_listed :
      listing tree ≡ invalid (0 ∷ 0 ∷ []) ∷ invalid (0 ∷ 1 ∷ 0 ∷ 0 ∷ []) ∷ invalid (0 ∷ 1 ∷ 0 ∷ 1 ∷ [])
      ∷ valid (0 ∷ 1 ∷ 0 ∷ 2 ∷ 0 ∷ 0 ∷ []) ∷ invalid (0 ∷ 1 ∷ 0 ∷ 2 ∷ 0 ∷ 1 ∷ [])
      ∷ invalid (0 ∷ 1 ∷ 0 ∷ 2 ∷ 0 ∷ 2 ∷ []) ∷ invalid (0 ∷ 1 ∷ 0 ∷ 2 ∷ 1 ∷ []) ∷ invalid (0 ∷ 1 ∷ 0 ∷ 2 ∷ 2 ∷ [])
      ∷ invalid (0 ∷ 1 ∷ 1 ∷ []) ∷ valid (0 ∷ 1 ∷ 2 ∷ 0 ∷ 0 ∷ 0 ∷ []) ∷ invalid (0 ∷ 1 ∷ 2 ∷ 0 ∷ 0 ∷ 1 ∷ [])
      ∷ invalid (0 ∷ 1 ∷ 2 ∷ 0 ∷ 0 ∷ 2 ∷ []) ∷ invalid (0 ∷ 1 ∷ 2 ∷ 0 ∷ 1 ∷ []) ∷ invalid (0 ∷ 1 ∷ 2 ∷ 0 ∷ 2 ∷ [])
      ∷ invalid (0 ∷ 1 ∷ 2 ∷ 1 ∷ []) ∷ invalid (0 ∷ 1 ∷ 2 ∷ 2 ∷ []) ∷ []
