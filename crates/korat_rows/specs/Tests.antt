-- Between crates: verdicts on a small method, by its contract and its body, and how objects are made; worked by hand.
use Rattle.std.specs.Prelude.{◌≡◌, ℕ, pos, List, [], ◌∷◌, map, flat_map, Option, Some, Ok}
use Rattle.kr_base.specs.declared.entry.Entry.{Entry}
use Rattle.kr_base.specs.declared.entry.Mark.{Mark}
use Rattle.kr_base.specs.declared.entry.Mark.TheVariants.{Valid, Invalid, Spent as SpentMark}
use Rattle.kr_ast.specs.declared.node.BinaryOperator.TheVariants.{Add}
use Rattle.kr_ast.specs.declared.node.StepOperator.TheVariants.{DecrementBehind}
use Rattle.kr_ast.specs.Tree.{Tree}
use Rattle.kr_value.specs.declared.value.Value.TheVariants.{Int, Null}
use Rattle.kr_mean.specs.declared.kind.Kind.TheVariants.{NullPointerException, ArithmeticException, NoReturn}
use Rattle.kr_mean.specs.declared.kind.Verdict.{Verdict}
use Rattle.kr_mean.specs.declared.kind.Verdict.TheVariants.{Pass, Ensures, RepOk, Trap, CheckTrap, Spent}
use Rattle.kr_mean.specs.declared.row.Row.{Row}
use Rattle.kr_mean.specs.Program.{Program, program_of}
use Rattle.kr_mean.specs.Problem.{Problem, Plain}
use Rattle.kr_mean.specs.Verdicts.{verdict_of}
use Rattle.kr_mean.specs.Entries.{all_entries}
use Prim.Native.String.{String as Text}
use Rattle.korat_rows.specs.Words.{absent, int, void, named, number, yes, no, name, ◌dot◌, call, new, step, ◌+'◌, ◌/'◌, ◌<'◌, ◌=='◌, ◌&&'◌, ◌||'◌, compound, result, old_at, empty, block, local, assign, return, if_then, while, field, field_with, parameter, requires, ensures, contracted, method, rep_ok, constructor, class, class_below, ints, objects, listed, testing}
use Rattle.kr_space_meaning.specs.Examples.{at as at_field}
use Rattle.kr_types_meaning.specs.Texts.{list_of}
use Rattle.korat_rows.specs.Constructs.{Shown, run_in}

-- ---- a test

abbrev pub v : Tree
v = name "v"

abbrev pub x : Tree
x = name "x"

abbrev pub next_v : Tree
next_v = name "next" dot "v"

-- class R { int v; R next; boolean repOk() { return OK; } //@ ensures E; .. int m(int x) { BODY } }
abbrev pub class_tested : Tree → List Tree → List Tree → Tree
class_tested ok es body =
    class "R" (field int "v" ∷ field (named "R") "next" ∷ rep_ok (return ok ∷ [])
    ∷ contracted int "m" (parameter int "x" ∷ []) (map ensures es) body ∷ [])

-- `v` is 5, `next` is null and `x` is 2
abbrev pub problem : Tree → List Tree → List Tree → ℕ → Problem
problem ok es body fuel =
    testing "m" (ints (2 ∷ []) ∷ [])
    (listed (class_tested ok es body ∷ [])
    (objects "R" 0 1 (at_field 0 (ints (5 ∷ [])) ∷ at_field 1 (Plain Null ∷ []) ∷ []) ∷ []) fuel)

abbrev pub tested : Tree → List Tree → List Tree → ℕ → Option Verdict
tested ok es body fuel = verdict_of (problem ok es body fuel) (0 ∷ 0 ∷ 0 ∷ 0 ∷ [])

-- ---- a test of a method without result and parameters

abbrev pub o : Tree
o = name "o"

-- class R { int v; R o; boolean repOk() { STATEMENTS } int k() { } CONTRACT void m() { BODY } }
abbrev pub void_class : List Tree → List Tree → List Tree → Tree
void_class statements contract body =
    class "R" (field int "v" ∷ field (named "R") "o" ∷ rep_ok statements ∷ method int "k" [] []
    ∷ contracted void "m" [] contract body ∷ [])

-- `v` has these values, and `o` is null
abbrev pub void_problem : List ℕ → List Tree → List Tree → List Tree → ℕ → Problem
void_problem values statements contract body fuel =
    testing "m" [] (listed (void_class statements contract body ∷ [])
    (objects "R" 0 1 (at_field 0 (ints values) ∷ at_field 1 (Plain Null ∷ []) ∷ []) ∷ []) fuel)

-- `v` is 0
abbrev pub void_checked : List Tree → List Tree → List Tree → ℕ → Option Verdict
void_checked statements contract body fuel =
    verdict_of (void_problem (0 ∷ []) statements contract body fuel) (0 ∷ 0 ∷ 0 ∷ [])

-- the predicate is `return true;`, so `this.repOk()` costs 4: the call, `this`, the statement and its value
abbrev pub void_tested : List Tree → List Tree → ℕ → Option Verdict
void_tested contract body fuel = void_checked (return yes ∷ []) contract body fuel

abbrev pub v_is_0 : Tree
v_is_0 = v ==' number 0

-- \old(1 / v)
abbrev pub divided : Tree
divided = old_at 1 (number 1 /' v)

-- class A { int v; boolean repOk() { return true; } //@ ensures false; void m() { } } class B extends A { MEMBERS },
-- of one B whose v is 0
abbrev pub below : List Tree → ℕ → Option Verdict
below members fuel =
    let above : Tree = class "A" (field int "v" ∷ rep_ok (return yes ∷ [])
    ∷ contracted void "m" [] (ensures no ∷ []) [] ∷ []) in
    verdict_of (testing "m" [] (listed (class_below "B" "A" members ∷ above ∷ [])
    (objects "B" 0 1 (at_field 0 (ints (0 ∷ [])) ∷ []) ∷ []) fuel)) (0 ∷ 0 ∷ [])

-- ---- the rows of tests

abbrev pub verdict_in : List ℕ → Mark Row → List (List ℕ × Option Verdict)
verdict_in key (Valid row) = (key, row.verdict) ∷ []
verdict_in key Invalid = []
verdict_in key SpentMark = []

-- the keys of valid entries with their verdicts
abbrev pub verdicts : Problem → List (List ℕ × Option Verdict)
verdicts problem = flat_map (λ (e : Entry Row). verdict_in e.key e.mark) (all_entries problem)

-- ---- creation

-- class R { } class A { int a; A() { a = 5; } } class B extends A { int b = a; int c; B() { c = b; b = 7; } }
abbrev pub heirs : Program
heirs = program_of (list_of (class "R" []
    ∷ class "A" (field int "a" ∷ constructor [] (assign (name "a") (number 5) ∷ []) ∷ [])
    ∷ class_below "B" "A" (field_with int "b" (name "a") ∷ field int "c"
    ∷ constructor [] (assign (name "c") (name "b") ∷ assign (name "b") (number 7) ∷ []) ∷ []) ∷ []) ∷ [])

abbrev pub of_new : Text → Shown
of_new n = run_in heirs [] 0 20 (new (named "B") [] dot n)

-- class R { } class A { int a = 1; A() { a = 5; } } class B extends A { int b = a; } class C extends A { C() { } }
-- class D { int a; D() { a = 5; if (true) return; a = 6; } }
abbrev pub implied : Program
implied = program_of (list_of (class "R" []
    ∷ class "A" (field_with int "a" (number 1) ∷ constructor [] (assign (name "a") (number 5) ∷ []) ∷ [])
    ∷ class_below "B" "A" (field_with int "b" (name "a") ∷ [])
    ∷ class_below "C" "A" (constructor [] [] ∷ [])
    ∷ class "D" (field int "a"
    ∷ constructor [] (assign (name "a") (number 5) ∷ if_then yes (return absent)
    ∷ assign (name "a") (number 6) ∷ []) ∷ []) ∷ []) ∷ [])

abbrev pub of_heir : Text → Text → Shown
of_heir class n = run_in implied [] 0 20 (new (named class) [] dot n)

pub record Tests : Type 0 where
  pub passes : tested yes (result ==' v +' x ∷ []) (return (v +' x) ∷ []) 100 ≡ Some Pass
  pub without_contract : tested yes [] (return (number 0) ∷ []) 100 ≡ Some Pass
  -- the number of the first one that is false, from 1
  pub first_false : tested yes (no ∷ no ∷ []) (return (number 0) ∷ []) 100 ≡ Some (Ensures 1)
  pub second_false : tested yes (yes ∷ result ==' number 1 ∷ no ∷ []) (return (number 0) ∷ []) 100 ≡ Some (Ensures 2)
  -- `repOk` is looked at after the body, and before the postconditions
  pub rep_ok_false : tested (v ==' number 5) (no ∷ []) (assign v (number 6) ∷ return (number 0) ∷ []) 100 ≡ Some RepOk
  pub rep_ok_true_again : tested (v ==' number 6) [] (assign v (number 6) ∷ return (number 0) ∷ []) 100 ≡ Some Pass
  -- a trap of the body, and of what is checked
  pub body_traps : tested no (no ∷ []) (return next_v ∷ []) 100 ≡ Some (Trap NullPointerException)
  pub no_return : tested yes [] [] 100 ≡ Some (Trap NoReturn)
  pub rep_ok_traps :
      tested (next_v ==' number 0) [] (return (number 0) ∷ []) 100 ≡ Some (CheckTrap NullPointerException)
  pub ensures_traps :
      tested yes (number 1 /' number 0 ==' number 0 ∷ []) (return (number 0) ∷ []) 100
      ≡ Some (CheckTrap ArithmeticException)
  pub old_traps :
      tested yes (old_at 1 next_v ==' number 0 ∷ []) (return next_v ∷ []) 100 ≡ Some (CheckTrap NullPointerException)
  -- `\old`s are values from before the body, the rest is from after it; a parameter's assignment isn't seen
  pub old_and_new :
      tested yes (old_at 1 v ==' number 5 ∷ v ==' number 6 ∷ []) (assign v (number 6) ∷ return (number 0) ∷ []) 100
      ≡ Some Pass
  pub two_olds :
      tested yes (old_at 1 v ==' number 5 &&' old_at 2 x ==' number 2 ∷ []) (return (number 0) ∷ []) 100 ≡ Some Pass
  pub parameter_kept :
      tested yes (result ==' number 9 ∷ x ==' number 2 ∷ []) (assign x (number 9) ∷ return x ∷ []) 100 ≡ Some Pass
  -- one fuel for all: 2 for the body, 4 for `this.repOk()`, 1 for the postcondition; 2 for an `\old` of a name, 2 for its
  -- comparison
  pub exact : tested yes (yes ∷ []) (return (number 0) ∷ []) 7 ≡ Some Pass
  pub one_short : tested yes (yes ∷ []) (return (number 0) ∷ []) 6 ≡ Some Spent
  pub old_exact : tested yes (old_at 1 v ==' number 5 ∷ []) (return (number 0) ∷ []) 10 ≡ Some Pass
  pub old_one_short : tested yes (old_at 1 v ==' number 5 ∷ []) (return (number 0) ∷ []) 9 ≡ Some Spent
  pub body_spent : tested yes [] (while yes empty ∷ []) 100 ≡ Some Spent
  -- `x--` gives the value before
  pub decremented_behind : tested yes (result ==' number 2 ∷ []) (return (step DecrementBehind x) ∷ []) 100 ≡ Some Pass
  -- and `x += 3` the one after
  pub compound_gives_new :
      tested yes (result ==' number 5 ∷ []) (return (compound Add x (number 3)) ∷ []) 100 ≡ Some Pass
  -- a block's locals end with it, so the next one begins at its default
  pub block_ends :
      tested yes (result ==' number 0 ∷ [])
      (block (local int "a" (number 7) ∷ []) ∷ local int "b" absent ∷ return (name "b") ∷ []) 100 ≡ Some Pass
  -- A method without result: 4 for `this.repOk()`, 3 for `v == 0`.
  -- `0.0.0 pass R#0{v=0,o=null}`, and one short `0.0.0 spent R#0{v=0,o=null}`.
  pub void_passes : void_tested (ensures v_is_0 ∷ []) [] 7 ≡ Some Pass
  pub void_one_short : void_tested (ensures v_is_0 ∷ []) [] 6 ≡ Some Spent
  -- The second postcondition has the fuel that the first one left: 4, 3 and 3; with the body `;` 1 more.
  -- `0.0.0 pass R#0{v=0,o=null}`, and one short `0.0.0 spent R#0{v=0,o=null}`.
  pub two_exact : void_tested (ensures v_is_0 ∷ ensures v_is_0 ∷ []) [] 10 ≡ Some Pass
  pub two_one_short : void_tested (ensures v_is_0 ∷ ensures v_is_0 ∷ []) [] 9 ≡ Some Spent
  pub two_exact_after_body : void_tested (ensures v_is_0 ∷ ensures v_is_0 ∷ []) (empty ∷ []) 11 ≡ Some Pass
  pub two_one_short_after_body : void_tested (ensures v_is_0 ∷ ensures v_is_0 ∷ []) (empty ∷ []) 10 ≡ Some Spent
  -- `\old`s in source order, within a postcondition and over all: `\old(1 / v)` traps after its 3 units, before `\old(o.v)`,
  -- which would trap after 2. `0.0.0 check-trap ArithmeticException R#0{v=0,o=null}`, one short `0.0.0 spent ..`; the other
  -- way round `0.0.0 check-trap NullPointerException R#0{v=0,o=null}`.
  pub olds_in_order :
      void_tested (ensures (divided ==' old_at 2 (o dot "v")) ∷ []) [] 3 ≡ Some (CheckTrap ArithmeticException)
  pub olds_in_order_short : void_tested (ensures (divided ==' old_at 2 (o dot "v")) ∷ []) [] 2 ≡ Some Spent
  pub olds_turned :
      void_tested (ensures (old_at 2 (o dot "v") ==' divided) ∷ []) [] 2 ≡ Some (CheckTrap NullPointerException)
  pub olds_of_two :
      void_tested (ensures (divided ==' number 0) ∷ ensures (old_at 2 (o dot "v") ==' number 0) ∷ []) [] 3
      ≡ Some (CheckTrap ArithmeticException)
  -- One fuel for both `\old`s: 1 and 1 for their values, 4, and 3 for `==` and its two sides.
  -- `0.0.0 pass R#0{v=0,o=null}`, and one short `0.0.0 spent R#0{v=0,o=null}`.
  pub two_olds_exact : void_tested (ensures (old_at 1 v ==' old_at 2 v) ∷ []) [] 9 ≡ Some Pass
  pub two_olds_one_short : void_tested (ensures (old_at 1 v ==' old_at 2 v) ∷ []) [] 8 ≡ Some Spent
  -- Postconditions are numbered among themselves: 4 and 1, `0.0.0 ensures 1 R#0{v=0,o=null}`; 4, 1 and 1, `0.0.0 ensures 2
  -- R#0{v=0,o=null}`.
  pub number_after_requires : void_tested (requires yes ∷ ensures no ∷ []) [] 5 ≡ Some (Ensures 1)
  pub number_round_requires : void_tested (ensures yes ∷ requires yes ∷ ensures no ∷ []) [] 6 ≡ Some (Ensures 2)
  -- A precondition is neither evaluated again nor paid for: 3 for `v = 1;`, and 4.
  -- `0.0.0 pass R#0{v=0,o=null}`, with the structure before the method; one short `0.0.0 spent R#0{v=0,o=null}`.
  pub requires_once : void_tested (requires v_is_0 ∷ []) (assign v (number 1) ∷ []) 7 ≡ Some Pass
  pub requires_once_short : void_tested (requires v_is_0 ∷ []) (assign v (number 1) ∷ []) 6 ≡ Some Spent
  -- An `\old` is evaluated though its postcondition never reaches it, `true || \old(1 / v) == 0`, or an earlier one is false:
  -- after 3 units `0.0.0 check-trap ArithmeticException R#0{v=0,o=null}`.
  pub old_after_or :
      void_tested (ensures (yes ||' divided ==' number 0) ∷ []) [] 3 ≡ Some (CheckTrap ArithmeticException)
  pub old_after_false :
      void_tested (ensures no ∷ ensures (divided ==' number 0) ∷ []) [] 3 ≡ Some (CheckTrap ArithmeticException)
  -- An overriding method has its own contract alone: 4, `0.0 pass B#0{v=0}`, one short `0.0 spent B#0{v=0}`. An inherited
  -- method has its contract: 4 and 1, `0.0 ensures 1 B#0{v=0}`.
  pub contract_not_inherited : below (method void "m" [] [] ∷ []) 4 ≡ Some Pass
  pub contract_not_inherited_short : below (method void "m" [] [] ∷ []) 3 ≡ Some Spent
  pub inherited_with_contract : below [] 5 ≡ Some (Ensures 1)
  -- Spent in an `\old` of 3 units: `0.0.0 spent R#0{v=0,o=null}`. It passes with 3, 4, and 3 for `==` and its sides.
  pub old_spent : void_tested (ensures (old_at 1 (v +' number 1) ==' number 1) ∷ []) [] 2 ≡ Some Spent
  pub old_spent_enough : void_tested (ensures (old_at 1 (v +' number 1) ==' number 1) ∷ []) [] 10 ≡ Some Pass
  -- Spent in `repOk`, which goes on for ever where v is 1, and of 4 units: `0.0.0 spent R#0{v=0,o=null}`.
  pub rep_ok_spent :
      void_checked (while (v ==' number 1) empty ∷ return yes ∷ []) [] (assign v (number 1) ∷ []) 100 ≡ Some Spent
  pub rep_ok_one_short : void_tested [] [] 3 ≡ Some Spent
  -- No `return` in a method that a postcondition calls: 4, `==` and the call, `0.0.0 check-trap NoReturn R#0{v=0,o=null}`,
  -- one short `0.0.0 spent ..`. In one that the body calls: the local and the call, `0.0.0 trap NoReturn R#0{v=0,o=null}`.
  pub no_return_in_ensures : void_tested (ensures (call "k" [] ==' number 0) ∷ []) [] 6 ≡ Some (CheckTrap NoReturn)
  pub no_return_in_ensures_short : void_tested (ensures (call "k" [] ==' number 0) ∷ []) [] 5 ≡ Some Spent
  pub no_return_in_body : void_tested [] (local int "a" (call "k" []) ∷ []) 2 ≡ Some (Trap NoReturn)
  -- `//@ ensures v == \old(v) + 1; void m() { if (v < 2) v = v + 1; }` for v from 0 to 3: `0.0.0 pass R#0{v=0,o=null}`,
  -- `0.1.0 pass R#0{v=1,o=null}`, `0.2.0 ensures 1 R#0{v=2,o=null}`, `0.3.0 ensures 1 R#0{v=3,o=null}`
  pub counted_up :
      verdicts (void_problem (0 ∷ 1 ∷ 2 ∷ 3 ∷ []) (return yes ∷ []) (ensures (v ==' old_at 1 v +' number 1) ∷ [])
      (if_then (v <' number 2) (assign v (v +' number 1)) ∷ []) 1000)
      ≡ (0 ∷ 0 ∷ 0 ∷ [], Some Pass) ∷ (0 ∷ 1 ∷ 0 ∷ [], Some Pass) ∷ (0 ∷ 2 ∷ 0 ∷ [], Some (Ensures 1))
      ∷ (0 ∷ 3 ∷ 0 ∷ [], Some (Ensures 1)) ∷ []
  -- `//@ requires v == 1; void m() { o.v = v; }` for 0 and 1: `0.1.0 trap NullPointerException R#0{v=1,o=null}` alone
  pub required :
      verdicts (void_problem (0 ∷ 1 ∷ []) (return yes ∷ []) (requires (v ==' number 1) ∷ [])
      (assign (o dot "v") v ∷ []) 1000) ≡ (0 ∷ 1 ∷ 0 ∷ [], Some (Trap NullPointerException)) ∷ []
  -- the superclass's constructor is done before the initial values, and those before the constructor's own statements
  pub initial_value_after_super : of_new "c" ≡ (Ok (Int (pos 5)), 8, [])
  pub statements_last : of_new "b" ≡ (Ok (Int (pos 7)), 8, [])
  -- so it is with an implied constructor; and each field's initial value is its own class's to write
  pub initial_value_after_implied_super : of_heir "B" "b" ≡ (Ok (Int (pos 5)), 13, [])
  pub initial_values_of_own_class : of_heir "C" "a" ≡ (Ok (Int (pos 5)), 14, [])
  -- after a `return` nothing is done
  pub return_leaves : of_heir "D" "a" ≡ (Ok (Int (pos 5)), 12, [])
