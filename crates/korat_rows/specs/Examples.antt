-- Between crates: small problems, and the entries that the definitions give them, worked by hand.
use Prim.Native.String.{String as Text}
use Rattle.std.specs.Prelude.{◌≡◌, ℕ, List, [], ◌∷◌, ◌++◌, map}
use Rattle.kr_base.specs.declared.span.Bound.TheVariants.{At, End}
use Rattle.kr_base.specs.Entries.{entries_in}
use Rattle.kr_ast.specs.Tree.{Tree}
use Rattle.kr_value.specs.declared.value.Value.TheVariants.{Null}
use Rattle.kr_value.specs.declared.object.Spot.TheVariants.{Length, Element}
use Rattle.kr_mean.specs.Problem.{Problem, ClassDomain, Domain, Plain, Objects}
use Rattle.kr_mean.specs.Entries.{all_entries}
use Rattle.korat_rows.specs.Words.{int, boolean, void, named, number, null, yes, no, this, name, ◌dot◌, ◌at◌, call_on, new, ◌+'◌, ◌-'◌, ◌<'◌, ◌>'◌, ◌=='◌, ◌!='◌, block, local, assign, return, if_then, while, field, parameter, requires, contracted, method, rep_ok, class, class_below, ints, objects, arrays_named, listed, testing, listing, shown, valid, invalid, spent}
use Rattle.kr_space_meaning.specs.Examples.{array_of, at as at_field}

-- ---- predicates that look at nothing

-- `0 == 0`
abbrev pub always : Tree
always = number 0 ==' number 0

-- `class R { FIELDS boolean repOk() { return E; } }`
abbrev pub root : List Tree → Tree → Tree
root fields e = class "R" (fields ++ rep_ok (return e ∷ []) ∷ [])

-- class R { R next; .. }, two objects whose `next` has these values
abbrev pub nodes_with : Domain → Problem
nodes_with domain =
    listed (root (field (named "R") "next" ∷ []) always ∷ []) (objects "R" 0 2 (at_field 0 domain ∷ []) ∷ []) 1000

abbrev pub two_nodes : Problem
two_nodes = nodes_with (Plain Null ∷ Objects 0 ∷ [])

-- the objects before null
abbrev pub nodes_before_null : Problem
nodes_before_null = nodes_with (Objects 0 ∷ Plain Null ∷ [])

-- class R { Base x; Base y; .. } class P extends Base { } class Q extends Base { } class Base { }
-- two objects of P and of Q
abbrev pub two_subclasses : Problem
two_subclasses =
    listed (root (field (named "Base") "x" ∷ field (named "Base") "y" ∷ []) always ∷ class_below "P" "Base" []
    ∷ class_below "Q" "Base" [] ∷ class "Base" [] ∷ [])
    (objects "R" 0 1 (at_field 0 (Objects 1 ∷ Objects 2 ∷ []) ∷ at_field 1 (Objects 1 ∷ Objects 2 ∷ []) ∷ [])
    ∷ objects "P" 1 2 [] ∷ objects "Q" 2 2 [] ∷ []) 1000

-- one object with a field a, an array of at most two numbers
abbrev pub with_array : List ClassDomain
with_array = objects "R" 0 1 (at_field 0 (Objects 1 ∷ []) ∷ [])
    ∷ arrays_named "int[]" 1 (record { spot = Length; domain = ints (0 ∷ 1 ∷ 2 ∷ []) }
    ∷ record { spot = Element 0; domain = ints (0 ∷ 1 ∷ []) }
    ∷ record { spot = Element 1; domain = ints (0 ∷ 1 ∷ []) } ∷ []) ∷ []

-- class R { int[] a; .. }
abbrev pub arrays : Problem
arrays = listed (root (field (array_of int) "a" ∷ []) always ∷ []) with_array 1000

-- class R { N l; N r; .. } class N { M c; } class M { int v; }
-- both N may have the one M
abbrev pub breadth : Problem
breadth =
    listed (root (field (named "N") "l" ∷ field (named "N") "r" ∷ []) always ∷ class "N" (field (named "M") "c" ∷ [])
    ∷ class "M" (field int "v" ∷ []) ∷ [])
    (objects "R" 0 1 (at_field 0 (Objects 1 ∷ []) ∷ at_field 1 (Objects 1 ∷ []) ∷ [])
    ∷ objects "N" 1 2 (at_field 0 (Plain Null ∷ Objects 2 ∷ []) ∷ [])
    ∷ objects "M" 2 1 (at_field 0 (ints (0 ∷ 1 ∷ 2 ∷ [])) ∷ []) ∷ []) 1000

-- ---- predicates that look at fields

-- class Cell { int v; boolean repOk() { return v > N; } }
abbrev pub cell : ℕ → ℕ → Problem
cell n fuel =
    listed (class "Cell" (field int "v" ∷ rep_ok (return (name "v" >' number n) ∷ []) ∷ []) ∷ [])
    (objects "Cell" 0 1 (at_field 0 (ints (0 ∷ 1 ∷ 2 ∷ [])) ∷ []) ∷ []) fuel

-- class R { int a; int b; boolean repOk() { return a == 1; } }
abbrev pub two_ints : Problem
two_ints =
    listed (root (field int "a" ∷ field int "b" ∷ []) (name "a" ==' number 1) ∷ [])
    (objects "R" 0 1 (at_field 0 (ints (0 ∷ 1 ∷ [])) ∷ at_field 1 (ints (7 ∷ 9 ∷ [])) ∷ []) ∷ []) 1000

-- class R { int a; int b; boolean repOk() { return E; } }
abbrev pub two_fields : Tree → Problem
two_fields e =
    listed (root (field int "a" ∷ field int "b" ∷ []) e ∷ [])
    (objects "R" 0 1 (at_field 0 (ints (7 ∷ 9 ∷ [])) ∷ at_field 1 (ints (0 ∷ 1 ∷ [])) ∷ []) ∷ []) 1000

-- the later field is looked at first
abbrev pub later_first : Problem
later_first = two_fields (name "b" ==' number 1)

-- a field is looked at twice
abbrev pub read_twice : Problem
read_twice = two_fields (name "b" ==' name "b")

-- class R { int a; boolean repOk() { return b == 0; } }, a name that nothing has
abbrev pub unknown_name : Problem
unknown_name =
    listed (root (field int "a" ∷ []) (name "b" ==' number 0) ∷ [])
    (objects "R" 0 1 (at_field 0 (ints (0 ∷ 1 ∷ [])) ∷ []) ∷ []) 1000

-- ---- predicates with loops, locals, calls and objects of their own

-- class R { R next; boolean repOk() { Box c = new Box(); R n = this;
-- while (n != null) { if (c.v == 2) return false; c.v = c.v + 1; n = n.next; } return true; } } class Box { int v; }
-- Two nodes whose chain ends, counted in an object that the predicate makes.
abbrev pub chains : Problem
chains =
    let n : Tree = name "n" in
    let count : Tree = name "c" dot "v" in
    let round : Tree = block (if_then (count ==' number 2) (return no) ∷ assign count (count +' number 1)
    ∷ assign n (n dot "next") ∷ []) in
    let ends_soon : Tree = rep_ok (local (named "Box") "c" (new (named "Box") []) ∷ local (named "R") "n" this
    ∷ while (n !=' null) round ∷ return yes ∷ []) in
    listed (class "R" (field (named "R") "next" ∷ ends_soon ∷ []) ∷ class "Box" (field int "v" ∷ []) ∷ [])
    (objects "R" 0 2 (at_field 0 (Plain Null ∷ Objects 0 ∷ []) ∷ []) ∷ []) 1000

-- class R { int[] a; boolean repOk() { int i = 1;
-- while (i < a.length) { if (a[i] < a[i - 1]) return false; i = i + 1; } return true; } }
abbrev pub sorted_arrays : Problem
sorted_arrays =
    let i : Tree = name "i" in
    let a : Tree = name "a" in
    let round : Tree = block (if_then (a at i <' a at (i -' number 1)) (return no) ∷ assign i (i +' number 1) ∷ []) in
    listed (class "R" (field (array_of int) "a"
    ∷ rep_ok (local int "i" (number 1) ∷ while (i <' a dot "length") round
    ∷ return yes ∷ []) ∷ []) ∷ []) with_array 1000

-- boolean NAME() { return E; }
abbrev pub giving : Text → Tree → Tree
giving n e = method boolean n [] (return e ∷ [])

-- class R { R next; boolean ok() { return 0 == 0; } boolean repOk() { return next.ok(); } }
-- null traps, and a trap doesn't accept
abbrev pub next_is_ok : Problem
next_is_ok =
    listed (class "R" (field (named "R") "next" ∷ giving "ok" always
    ∷ rep_ok (return (call_on (name "next") "ok" []) ∷ []) ∷ []) ∷ [])
    (objects "R" 0 2 (at_field 0 (Plain Null ∷ Objects 0 ∷ []) ∷ []) ∷ []) 1000

-- class R { P x; int y; boolean repOk() { return x.m(); } } class P { boolean m() { return 0 == 0; } }
-- class Q extends P { boolean m() { return this.k(); } boolean k() { return 0 == 0; } }
-- The code of the object's class is run, which costs more for Q.
abbrev pub dispatched : ℕ → Problem
dispatched fuel =
    let other : Tree = class_below "Q" "P" (giving "m" (call_on this "k" []) ∷ giving "k" always ∷ []) in
    listed (root (field (named "P") "x" ∷ field int "y" ∷ []) (call_on (name "x") "m" [])
    ∷ class "P" (giving "m" always ∷ []) ∷ other ∷ [])
    (objects "R" 0 1 (at_field 0 (Objects 1 ∷ Objects 2 ∷ []) ∷ at_field 1 (ints (0 ∷ 1 ∷ [])) ∷ [])
    ∷ objects "P" 1 1 [] ∷ objects "Q" 2 1 [] ∷ []) fuel

-- ---- methods under test

-- class R { int x; boolean repOk() { return 0 == 0; } //@ requires x > 0; void put(int x) { } }
-- the parameter hides the field
abbrev pub tested_put : Problem
tested_put =
    let put : Tree = contracted void "put" (parameter int "x" ∷ []) (requires (name "x" >' number 0) ∷ []) [] in
    testing "put" (ints (0 ∷ 1 ∷ []) ∷ [])
    (listed (class "R" (field int "x" ∷ rep_ok (return always ∷ []) ∷ put ∷ []) ∷ [])
    (objects "R" 0 1 (at_field 0 (ints (7 ∷ 9 ∷ [])) ∷ []) ∷ []) 1000)

-- class R { int a; boolean repOk() { return a == 1; }
-- //@ requires x == y; //@ requires x == 1; void set(int y, int x) { } }
abbrev pub two_parameters : Problem
two_parameters =
    let contract : List Tree = requires (name "x" ==' name "y") ∷ requires (name "x" ==' number 1) ∷ [] in
    let set : Tree = contracted void "set" (parameter int "y" ∷ parameter int "x" ∷ []) contract [] in
    testing "set" (ints (0 ∷ 1 ∷ []) ∷ ints (0 ∷ 1 ∷ []) ∷ [])
    (listed (class "R" (field int "a" ∷ rep_ok (return (name "a" ==' number 1) ∷ []) ∷ set ∷ []) ∷ [])
    (objects "R" 0 1 (at_field 0 (ints (0 ∷ 1 ∷ [])) ∷ []) ∷ []) 1000)

-- ---- their entries, by the definitions

pub record Worked : Type 0 where
  pub cell_listed : listing (cell 0 1000) ≡ invalid (0 ∷ 0 ∷ []) ∷ valid (0 ∷ 1 ∷ []) ∷ valid (0 ∷ 2 ∷ []) ∷ []
  pub cell_with_none_valid :
      listing (cell 2 1000) ≡ invalid (0 ∷ 0 ∷ []) ∷ invalid (0 ∷ 1 ∷ []) ∷ invalid (0 ∷ 2 ∷ []) ∷ []
  -- six units suffice; with five the number is not entered, and with four the field is not read
  pub fuel_suffices : listing (cell 0 6) ≡ invalid (0 ∷ 0 ∷ []) ∷ valid (0 ∷ 1 ∷ []) ∷ valid (0 ∷ 2 ∷ []) ∷ []
  pub number_not_entered : listing (cell 0 5) ≡ spent (0 ∷ 0 ∷ []) ∷ spent (0 ∷ 1 ∷ []) ∷ spent (0 ∷ 2 ∷ []) ∷ []
  pub field_not_read : listing (cell 0 4) ≡ spent (0 ∷ []) ∷ []
  pub two_ints_listed : listing two_ints ≡ invalid (0 ∷ 0 ∷ []) ∷ valid (0 ∷ 1 ∷ 0 ∷ []) ∷ valid (0 ∷ 1 ∷ 1 ∷ []) ∷ []
  pub two_nodes_listed :
      listing two_nodes ≡ valid (0 ∷ 0 ∷ []) ∷ valid (0 ∷ 1 ∷ []) ∷ valid (0 ∷ 2 ∷ 0 ∷ []) ∷ valid (0 ∷ 2 ∷ 1 ∷ [])
      ∷ valid (0 ∷ 2 ∷ 2 ∷ []) ∷ []
  pub nodes_before_null_listed :
      listing nodes_before_null ≡ valid (0 ∷ 0 ∷ []) ∷ valid (0 ∷ 1 ∷ 0 ∷ []) ∷ valid (0 ∷ 1 ∷ 1 ∷ [])
      ∷ valid (0 ∷ 1 ∷ 2 ∷ []) ∷ valid (0 ∷ 2 ∷ []) ∷ []
  pub two_subclasses_listed :
      listing two_subclasses ≡ valid (0 ∷ 0 ∷ 0 ∷ []) ∷ valid (0 ∷ 0 ∷ 1 ∷ []) ∷ valid (0 ∷ 0 ∷ 2 ∷ [])
      ∷ valid (0 ∷ 2 ∷ 0 ∷ []) ∷ valid (0 ∷ 2 ∷ 2 ∷ []) ∷ valid (0 ∷ 2 ∷ 3 ∷ []) ∷ []
  pub arrays_listed :
      listing arrays ≡ valid (0 ∷ 0 ∷ 0 ∷ []) ∷ valid (0 ∷ 0 ∷ 1 ∷ 0 ∷ []) ∷ valid (0 ∷ 0 ∷ 1 ∷ 1 ∷ [])
      ∷ valid (0 ∷ 0 ∷ 2 ∷ 0 ∷ 0 ∷ []) ∷ valid (0 ∷ 0 ∷ 2 ∷ 0 ∷ 1 ∷ []) ∷ valid (0 ∷ 0 ∷ 2 ∷ 1 ∷ 0 ∷ [])
      ∷ valid (0 ∷ 0 ∷ 2 ∷ 1 ∷ 1 ∷ []) ∷ []
  pub chains_listed :
      listing chains ≡ valid (0 ∷ 0 ∷ []) ∷ invalid (0 ∷ 1 ∷ []) ∷ valid (0 ∷ 2 ∷ 0 ∷ []) ∷ invalid (0 ∷ 2 ∷ 1 ∷ [])
      ∷ invalid (0 ∷ 2 ∷ 2 ∷ []) ∷ []
  -- the length is read, then the second element, then the first
  pub sorted_listed :
      listing sorted_arrays ≡ valid (0 ∷ 0 ∷ 0 ∷ []) ∷ valid (0 ∷ 0 ∷ 1 ∷ 0 ∷ []) ∷ valid (0 ∷ 0 ∷ 1 ∷ 1 ∷ [])
      ∷ valid (0 ∷ 0 ∷ 2 ∷ 0 ∷ 0 ∷ []) ∷ invalid (0 ∷ 0 ∷ 2 ∷ 0 ∷ 1 ∷ []) ∷ valid (0 ∷ 0 ∷ 2 ∷ 1 ∷ 0 ∷ [])
      ∷ valid (0 ∷ 0 ∷ 2 ∷ 1 ∷ 1 ∷ []) ∷ []
  -- the condition reads the parameter, and the field is reached after it
  pub tested_put_listed :
      listing tested_put ≡ invalid (0 ∷ 0 ∷ []) ∷ valid (0 ∷ 1 ∷ 0 ∷ []) ∷ valid (0 ∷ 1 ∷ 1 ∷ []) ∷ []
  pub breadth_listed :
      listing breadth ≡ valid (0 ∷ 0 ∷ 0 ∷ 0 ∷ []) ∷ valid (0 ∷ 0 ∷ 0 ∷ 1 ∷ 0 ∷ []) ∷ valid (0 ∷ 0 ∷ 0 ∷ 1 ∷ 1 ∷ [])
      ∷ valid (0 ∷ 0 ∷ 0 ∷ 1 ∷ 2 ∷ []) ∷ valid (0 ∷ 0 ∷ 1 ∷ 0 ∷ 0 ∷ []) ∷ valid (0 ∷ 0 ∷ 1 ∷ 0 ∷ 1 ∷ 0 ∷ [])
      ∷ valid (0 ∷ 0 ∷ 1 ∷ 0 ∷ 1 ∷ 1 ∷ []) ∷ valid (0 ∷ 0 ∷ 1 ∷ 0 ∷ 1 ∷ 2 ∷ []) ∷ valid (0 ∷ 0 ∷ 1 ∷ 1 ∷ 0 ∷ 0 ∷ [])
      ∷ valid (0 ∷ 0 ∷ 1 ∷ 1 ∷ 0 ∷ 1 ∷ []) ∷ valid (0 ∷ 0 ∷ 1 ∷ 1 ∷ 0 ∷ 2 ∷ []) ∷ valid (0 ∷ 0 ∷ 1 ∷ 1 ∷ 1 ∷ 0 ∷ [])
      ∷ valid (0 ∷ 0 ∷ 1 ∷ 1 ∷ 1 ∷ 1 ∷ []) ∷ valid (0 ∷ 0 ∷ 1 ∷ 1 ∷ 1 ∷ 2 ∷ []) ∷ []
  pub later_first_listed :
      listing later_first ≡ invalid (0 ∷ 0 ∷ []) ∷ valid (0 ∷ 1 ∷ 0 ∷ []) ∷ valid (0 ∷ 1 ∷ 1 ∷ []) ∷ []
  pub read_twice_listed :
      listing read_twice ≡ valid (0 ∷ 0 ∷ 0 ∷ []) ∷ valid (0 ∷ 0 ∷ 1 ∷ []) ∷ valid (0 ∷ 1 ∷ 0 ∷ [])
      ∷ valid (0 ∷ 1 ∷ 1 ∷ []) ∷ []
  pub next_is_ok_listed :
      listing next_is_ok ≡ invalid (0 ∷ 0 ∷ []) ∷ valid (0 ∷ 1 ∷ []) ∷ valid (0 ∷ 2 ∷ 0 ∷ []) ∷ valid (0 ∷ 2 ∷ 1 ∷ [])
      ∷ valid (0 ∷ 2 ∷ 2 ∷ []) ∷ []
  pub dispatched_listed :
      listing (dispatched 12) ≡ valid (0 ∷ 0 ∷ 0 ∷ []) ∷ valid (0 ∷ 0 ∷ 1 ∷ []) ∷ valid (0 ∷ 1 ∷ 0 ∷ [])
      ∷ valid (0 ∷ 1 ∷ 1 ∷ []) ∷ []
  pub dispatched_spent :
      listing (dispatched 9) ≡ valid (0 ∷ 0 ∷ 0 ∷ []) ∷ valid (0 ∷ 0 ∷ 1 ∷ []) ∷ spent (0 ∷ 1 ∷ []) ∷ []
  pub two_parameters_listed :
      listing two_parameters ≡ invalid (0 ∷ 0 ∷ []) ∷ invalid (0 ∷ 1 ∷ 0 ∷ 0 ∷ []) ∷ invalid (0 ∷ 1 ∷ 0 ∷ 1 ∷ [])
      ∷ invalid (0 ∷ 1 ∷ 1 ∷ 0 ∷ []) ∷ valid (0 ∷ 1 ∷ 1 ∷ 1 ∷ []) ∷ []
  -- a run that is stuck doesn't accept
  pub unknown_name_listed : listing unknown_name ≡ invalid (0 ∷ []) ∷ []
  -- a spent entry ends a span, and the entries after it are those of a span that begins there
  pub spent_ends_span : map shown (entries_in (At []) End (all_entries (cell 0 5))) ≡ spent (0 ∷ 0 ∷ []) ∷ []
  pub behind_spent : map shown (entries_in (At (0 ∷ 0 ∷ [])) End (all_entries (cell 0 5))) ≡ spent (0 ∷ 1 ∷ []) ∷ []
  pub above_and_not_above :
      map shown (entries_in (At (0 ∷ 0 ∷ [])) (At (0 ∷ 1 ∷ [])) (all_entries (cell 0 1000))) ≡ valid (0 ∷ 1 ∷ []) ∷ []
