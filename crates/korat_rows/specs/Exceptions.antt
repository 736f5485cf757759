-- Between crates: calls of methods that throw and catch, with what they give, the fuel that is left (of 100), and the places
-- that they read. A class `E` below `Throwable`, and the exceptions of traps, are classes of the file.
use Rattle.std.specs.Prelude.{◌≡◌, ℕ, pos, true, List, [], ◌∷◌, Option, Some, None, Ok, Err, codes}
use Rattle.kr_base.specs.Places.{nowhere}
use Rattle.kr_ast.specs.declared.node.StepOperator.TheVariants.{IncrementBehind}
use Rattle.kr_ast.specs.Tree as trees
use Rattle.kr_ast.specs.Tree.{Tree, Nil}
use Rattle.kr_types_meaning.specs.Texts.{at, list_of, type_rule_at}
use Rattle.kr_types_meaning.specs.Typing.{refusal}
use Rattle.kr_types_meaning.specs.Exceptions as typing
use Rattle.kr_value.specs.declared.value.Value.TheVariants.{Int}
use Rattle.kr_value.specs.declared.object.Spot.TheVariants.{Field}
use Rattle.kr_mean.specs.declared.kind.Kind.TheVariants.{NullPointerException, ArithmeticException, Thrown, NoReturn, ArrayTooLong}
use Rattle.kr_mean.specs.declared.kind.Stop.TheVariants.{Trapped, OutOfFuel}
use Rattle.kr_mean.specs.declared.kind.Verdict.{Verdict}
use Rattle.kr_mean.specs.declared.kind.Verdict.TheVariants.{Pass, Ensures, Signals, RepOk, Trap, CheckTrap, Spent}
use Rattle.kr_mean.specs.Program.{Program}
use Rattle.kr_mean.specs.Places.{At}
use Rattle.kr_mean.specs.Verdicts.{verdict_of}
use Rattle.korat_rows.specs.Words.{absent, int, void, no, ◌-'◌, ◌+'◌, ◌=='◌, ◌&&'◌, old_at, signals, named_signals, requires, ensures, contracted, rep_ok, ints, objects, listed, testing, named, number, yes, null, name, ◌dot◌, call, call_on, new, new_array, ◌/'◌, ◌instance_of◌, block, local, assign, evaluate, return, break, if_then, while, throw, catch, try, field, field_with, parameter, method, constructor, class, class_below}
use Rattle.kr_space_meaning.specs.Examples.{array_of, at as at_field}
use Rattle.korat_rows.specs.Constructs.{Shown, program_with, run_in, heap}

abbrev pub thrower : Tree
thrower = named "E"

-- classes 1 to 6; class 0 is R, whose p is 5 and q null
abbrev pub classes : List Tree
classes =
    class "Throwable" []
    ∷ class_below "NullPointerException" "Throwable" []
    ∷ class_below "ArithmeticException" "Throwable" []
    ∷ class_below "E" "Throwable" (field_with int "n" (number 7) ∷ [])
    ∷ class_below "F" "E" []
    ∷ class "G" (constructor [] (throw (new thrower []) ∷ []) ∷ []) ∷ []

-- `int m() { STATEMENTS } int low(int x) { int y = x; p = 9; throw new E(); } int none() { }`
abbrev pub program : List Tree → Program
program ts =
    program_with (method int "m" [] ts
    ∷ method int "low" (parameter int "x" ∷ []) (local int "y" (name "x") ∷ assign (name "p") (number 9) ∷ throw (new thrower []) ∷ [])
    ∷ method int "none" [] [] ∷ []) classes

-- `m()` with this body
abbrev pub run : List Tree → Shown
run ts = run_in (program ts) heap 2 100 (call "m" [])

-- ---- contracts

abbrev pub v : Tree
v = name "v"

abbrev pub illegal : Tree
illegal = named "IllegalStateException"

-- class Cell { int v; boolean repOk() { return OK; } CONTRACT void take() { if (v == 0) throw THROWN; v = v - 1; } }; class 2 is
-- IllegalStateException
abbrev pub cell : Tree → List Tree → Tree → List Tree
cell ok contract thrown =
    class "Cell" (field_with int "v" absent ∷ rep_ok (return ok ∷ [])
    ∷ contracted void "take" [] contract (if_then (v ==' number 0) (throw thrown) ∷ assign v (v -' number 1) ∷ []) ∷ [])
    ∷ class "Throwable" []
    ∷ class_below "IllegalStateException" "Throwable" []
    ∷ class_below "NullPointerException" "Throwable" []
    ∷ class_below "ArithmeticException" "Throwable" [] ∷ []

abbrev pub taken_with : Tree → List Tree → Tree → ℕ → ℕ → Option Verdict
taken_with ok contract thrown n fuel =
    verdict_of (testing "take" [] (listed (cell ok contract thrown) (objects "Cell" 0 1 (at_field 0 (ints (n ∷ [])) ∷ []) ∷ []) fuel)) (0 ∷ 0 ∷ [])

-- where `v` is n
abbrev pub taken : List Tree → ℕ → Option Verdict
taken contract n = taken_with yes contract (new illegal []) n 100

abbrev pub is_0 : Tree → Tree
is_0 e = e ==' number 0

-- class Cell { int v; boolean repOk() { return true; } int k() { throw new IllegalStateException(); } int none() { }
-- CONTRACT void put(int x) { STATEMENTS } } and class 3, Full, below class 2, IllegalStateException; `v` is 0 and `x` is 4
abbrev pub put_in : List Tree → List Tree → List Tree
put_in contract statements =
    class "Cell" (field_with int "v" absent ∷ rep_ok (return yes ∷ [])
    ∷ method int "k" [] (throw (new illegal []) ∷ []) ∷ method int "none" [] []
    ∷ contracted void "put" (parameter int "x" ∷ []) contract statements ∷ [])
    ∷ class "Throwable" []
    ∷ class_below "IllegalStateException" "Throwable" []
    ∷ class_below "Full" "IllegalStateException" (field int "at" ∷ []) ∷ []

abbrev pub put_with : List Tree → List Tree → Option Verdict
put_with contract statements =
    verdict_of (testing "put" (ints (4 ∷ []) ∷ []) (listed (put_in contract statements) (objects "Cell" 0 1 (at_field 0 (ints (0 ∷ [])) ∷ []) ∷ []) 100)) (0 ∷ 0 ∷ 0 ∷ [])

abbrev pub full : Tree
full = named "Full"

-- Full f = new Full(); f.at = 3; v = 9; x = 5; throw f;
abbrev pub changed : List Tree
changed =
    local full "f" (new full []) ∷ assign (name "f" dot "at") (number 3)
    ∷ assign v (number 9) ∷ assign (name "x") (number 5) ∷ throw (name "f") ∷ []

-- ---- typing

-- `signals (E e) CONDITION`
abbrev pub signalling : Tree → Tree
signalling e = typing.signals (typing.caught typing.e_type (codes "e")) e

-- `while (true) { try { break; } catch (E e) { continue; } }`, and without the loop
abbrev pub jumping : Tree
jumping = typing.try (trees.Break (at 0 9 1) ∷ []) (typing.catch (typing.caught typing.e_type (codes "e")) (trees.Continue (at 0 9 2) ∷ []) ∷ [])

-- class Throwable { } class E extends Throwable { } class A { //@ signals (E) true; static int m() { } }
abbrev pub static_signals : List Tree
static_signals =
    list_of (typing.throwable ∷ trees.Class nowhere (codes "E") (trees.NamedType nowhere (codes "Throwable")) Nil
    ∷ trees.Class nowhere (codes "A") Nil (list_of (trees.Method nowhere true (codes "m")
    (trees.Signature nowhere int Nil (list_of (typing.signals typing.e_type typing.yes ∷ []))) Nil ∷ [])) ∷ []) ∷ []

pub record Worked : Type 0 where
  pub thrown :
      run (throw (new thrower []) ∷ [])
      ≡ (Err (Trapped (Thrown 4)), 96, [])
  pub thrown_null :
      run (throw null ∷ [])
      ≡ (Err (Trapped NullPointerException), 97, [])
  pub caught :
      run (try (throw (new thrower []) ∷ []) (catch thrower "e" (return (name "e" dot "n") ∷ []) ∷ []) ∷ [])
      ≡ (Ok (Int (pos 7)), 89, [])
  pub caught_above :
      run (try (throw (new (named "F") []) ∷ []) (catch thrower "e" (return (number 1) ∷ []) ∷ []) ∷ [])
      ≡ (Ok (Int (pos 1)), 90, [])
  pub first_that_fits :
      run (try (throw (new thrower []) ∷ []) (catch (named "F") "f" (return (number 1) ∷ []) ∷ catch thrower "e" (return (number 2) ∷ []) ∷ catch (named "Throwable") "t" (return (number 3) ∷ []) ∷ []) ∷ [])
      ≡ (Ok (Int (pos 2)), 90, [])
  pub trap_caught :
      run (try (return (number 1 /' number 0) ∷ []) (catch (named "ArithmeticException") "e" (return (number 3) ∷ []) ∷ []) ∷ [])
      ≡ (Ok (Int (pos 3)), 89, [])
  pub trap_passes :
      run (try (return (number 1 /' number 0) ∷ []) (catch thrower "e" (return (number 3) ∷ []) ∷ []) ∷ [])
      ≡ (Err (Trapped ArithmeticException), 93, [])
  pub reads_of_both :
      run (try (return (name "q" dot "p") ∷ []) (catch (named "NullPointerException") "e" (return (name "p") ∷ []) ∷ []) ∷ [])
      ≡ (Ok (Int (pos 5)), 90, At 0 (Field 1) ∷ At 0 (Field 0) ∷ [])
  pub too_long_passes :
      run (try (local (array_of int) "a" (new_array int (number 65)) ∷ []) (catch (named "Throwable") "e" (return (number 1) ∷ []) ∷ []) ∷ [])
      ≡ (Err (Trapped ArrayTooLong), 94, [])
  pub spent_passes :
      run (try (while yes (block []) ∷ []) (catch (named "Throwable") "e" (return (number 1) ∷ []) ∷ []) ∷ [])
      ≡ (Err OutOfFuel, 0, [])
  pub heap_stays :
      run (try (assign (name "p") (number 9) ∷ throw (new thrower []) ∷ []) (catch thrower "e" (return (name "p") ∷ []) ∷ []) ∷ [])
      ≡ (Ok (Int (pos 9)), 87, At 0 (Field 0) ∷ [])
  pub locals_end :
      run (local int "x" (number 1) ∷ try (local int "y" (number 2) ∷ assign (name "x") (name "y") ∷ throw (new thrower []) ∷ []) (catch thrower "e" (return (name "x") ∷ []) ∷ []) ∷ [])
      ≡ (Ok (Int (pos 2)), 83, [])
  pub thrown_again :
      run (try (try (throw (new thrower []) ∷ []) (catch thrower "e" (throw (name "e") ∷ []) ∷ []) ∷ []) (catch thrower "e" (return (name "e" dot "n") ∷ []) ∷ []) ∷ [])
      ≡ (Ok (Int (pos 7)), 83, [])
  pub break_leaves :
      run (while yes (block (try (break ∷ []) (catch thrower "e" [] ∷ []) ∷ [])) ∷ return (number 4) ∷ [])
      ≡ (Ok (Int (pos 4)), 90, [])
  pub object_of_trap :
      run (try (return (number 1 /' number 0) ∷ []) (catch (named "Throwable") "e" (if_then (name "e" instance_of named "ArithmeticException") (return (number 1)) ∷ return (number 2) ∷ []) ∷ []) ∷ [])
      ≡ (Ok (Int (pos 1)), 86, [])
  -- the object that was thrown, by the local after those from before the block
  pub same_object :
      run (local thrower "a" (new thrower []) ∷ try (throw (name "a") ∷ []) (catch thrower "e" (if_then (name "e" ==' name "a") (return (number 1)) ∷ return (number 2) ∷ []) ∷ []) ∷ [])
      ≡ (Ok (Int (pos 1)), 84, [])
  pub after_the_blocks_locals :
      run (try (local int "y" (number 2) ∷ throw (new thrower []) ∷ []) (catch thrower "e" (return (name "e" dot "n") ∷ []) ∷ []) ∷ [])
      ≡ (Ok (Int (pos 7)), 87, [])
  -- it ends with its clause, so the next local begins at its default
  pub caught_ends :
      run (try (throw (new thrower []) ∷ []) (catch thrower "e" [] ∷ []) ∷ local int "z" absent ∷ return (name "z") ∷ [])
      ≡ (Ok (Int (pos 0)), 89, [])
  -- a body that throws leaves its locals and its `this`
  pub call_leaves :
      run (local (named "R") "o" (new (named "R") []) ∷ local int "w" (number 1)
      ∷ try (evaluate (call_on (name "o") "low" (number 4 ∷ [])) ∷ []) (catch thrower "e" (return (name "p" +' name "w") ∷ []) ∷ []) ∷ [])
      ≡ (Ok (Int (pos 6)), 75, At 0 (Field 0) ∷ [])
  pub constructor_leaves :
      run (try (evaluate (new (named "G") []) ∷ []) (catch thrower "e" (return (name "p" +' name "e" dot "n") ∷ []) ∷ []) ∷ [])
      ≡ (Ok (Int (pos 12)), 85, At 0 (Field 0) ∷ [])
  -- what was caught isn't thrown by a later trap
  pub caught_once :
      run (try (throw (new thrower []) ∷ []) (catch thrower "e" [] ∷ [])
      ∷ try (return (number 1 /' number 0) ∷ []) (catch (named "Throwable") "t" (if_then (name "t" instance_of named "ArithmeticException") (return (number 1)) ∷ return (number 2) ∷ []) ∷ []) ∷ [])
      ≡ (Ok (Int (pos 1)), 79, [])
  -- what a clause throws no clause of its `try` takes
  pub thrown_by_a_clause :
      run (try (throw (new thrower []) ∷ []) (catch thrower "e" (throw (name "e") ∷ []) ∷ catch (named "Throwable") "t" (return (number 1) ∷ []) ∷ []) ∷ [])
      ≡ (Err (Trapped (Thrown 4)), 90, [])
  -- an object of a trap's class is of its kind
  pub thrown_as_a_trap :
      run (throw (new (named "NullPointerException") []) ∷ [])
      ≡ (Err (Trapped NullPointerException), 97, [])
  pub no_return_passes :
      run (try (return (call "none" []) ∷ []) (catch (named "Throwable") "t" (return (number 1) ∷ []) ∷ []) ∷ [])
      ≡ (Err (Trapped NoReturn), 95, [])
  pub signals_true :
      taken (named_signals illegal "e" (is_0 v) ∷ []) 0
      ≡ Some Pass
  pub not_thrown :
      taken (named_signals illegal "e" (is_0 v) ∷ []) 1
      ≡ Some Pass
  pub signals_false :
      taken (named_signals illegal "e" (v ==' number 1) ∷ []) 0
      ≡ Some (Signals 1)
  pub null_thrown :
      taken_with yes (named_signals illegal "e" (v ==' number 1) ∷ []) null 0 100
      ≡ Some (Trap NullPointerException)
  pub trap_signalled :
      taken_with yes (signals (named "NullPointerException") (is_0 v) ∷ []) null 0 100
      ≡ Some Pass
  pub nothing_fits :
      taken (signals (named "NullPointerException") yes ∷ []) 0
      ≡ Some (Trap (Thrown 2))
  pub each_that_fits :
      taken (signals illegal yes ∷ signals (named "Throwable") no ∷ []) 0
      ≡ Some (Signals 2)
  pub all_are_counted :
      taken (signals (named "NullPointerException") no ∷ signals illegal no ∷ []) 0
      ≡ Some (Signals 2)
  pub signals_traps :
      taken (signals illegal (is_0 (number 1 /' v)) ∷ []) 0
      ≡ Some (CheckTrap ArithmeticException)
  pub no_ensures :
      taken (ensures no ∷ signals illegal yes ∷ []) 0
      ≡ Some Pass
  pub old_signals :
      taken (signals illegal (is_0 (old_at 1 v)) ∷ []) 0
      ≡ Some Pass
  pub named_object :
      taken (named_signals illegal "e" (name "e" instance_of illegal) ∷ []) 0
      ≡ Some Pass
  pub named_trap :
      taken_with yes (named_signals (named "Throwable") "e" (name "e" instance_of named "NullPointerException") ∷ []) null 0 100
      ≡ Some Pass
  pub name_before :
      taken (named_signals illegal "e" (old_at 1 (name "e") ==' null) ∷ []) 0
      ≡ Some Pass
  pub rep_ok_first :
      taken_with (v ==' number 1) (signals illegal no ∷ []) (new illegal []) 0 100
      ≡ Some RepOk
  pub exact :
      taken_with yes (signals illegal (is_0 v) ∷ []) (new illegal []) 0 13
      ≡ Some Pass
  pub one_short :
      taken_with yes (signals illegal (is_0 v) ∷ []) (new illegal []) 0 12
      ≡ Some Spent
  -- a clause is for what is thrown alone, and has its number among the clauses alone
  pub nothing_thrown :
      taken (signals illegal no ∷ []) 1
      ≡ Some Pass
  pub ensures_alone :
      taken (signals illegal yes ∷ ensures no ∷ []) 1
      ≡ Some (Ensures 1)
  pub signals_alone :
      taken (requires yes ∷ ensures yes ∷ signals illegal no ∷ []) 0
      ≡ Some (Signals 1)
  -- the object that was thrown, after the arguments; what `\old` has is from before the body
  pub its_fields :
      put_with (named_signals illegal "e" (name "e" instance_of full) ∷ named_signals full "e" (name "e" dot "at" ==' number 3) ∷ []) changed
      ≡ Some Pass
  pub arguments_kept :
      put_with (named_signals full "e" (name "x" ==' number 4 &&' name "e" dot "at" ==' number 3) ∷ []) changed
      ≡ Some Pass
  pub old_and_new :
      put_with (named_signals full "e" (is_0 (old_at 1 v) &&' v ==' number 9) ∷ []) changed
      ≡ Some Pass
  -- what nobody catches, no clause names
  pub no_return :
      put_with (signals (named "Throwable") yes ∷ []) (evaluate (call "none" []) ∷ [])
      ≡ Some (Trap NoReturn)
  pub too_long :
      put_with (signals (named "Throwable") yes ∷ []) (evaluate (new_array int (number 65)) ∷ [])
      ≡ Some (Trap ArrayTooLong)
  pub spent :
      put_with (signals (named "Throwable") yes ∷ []) (while yes (block []) ∷ [])
      ≡ Some Spent
  -- nor does a clause name what is thrown by a part that isn't the body
  pub thrown_before :
      put_with (ensures (is_0 (old_at 1 (call "k" []))) ∷ signals illegal yes ∷ []) []
      ≡ Some (CheckTrap (Thrown 2))
  pub thrown_after :
      put_with (signals illegal yes ∷ signals illegal (is_0 (call "k" [])) ∷ []) changed
      ≡ Some (CheckTrap (Thrown 2))
  -- a clause names a known class, writes nothing, and is before an instance method; a `try` is in the loop around it
  pub unknown_class : refusal (typing.with_contract (typing.signals (typing.caught (trees.NamedType (at 0 1 10) (codes "B")) (codes "e")) typing.yes ∷ []) []) ≡ Some (type_rule_at 1 0 1 10)
  pub signals_writes : refusal (typing.with_contract (signalling (typing.is_0 (trees.Step (at 0 9 3) IncrementBehind typing.x)) ∷ []) []) ≡ Some (type_rule_at 39 0 9 3)
  pub signals_of_static : refusal static_signals ≡ Some (type_rule_at 40 0 5 1)
  pub jumps_in_loop : refusal (typing.with_body (trees.While nowhere typing.yes jumping ∷ [])) ≡ None
  pub jumps_alone : refusal (typing.with_body (jumping ∷ [])) ≡ Some (type_rule_at 31 0 9 1)
