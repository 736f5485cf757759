-- Between crates: expressions in the code of a class, with what they give, the fuel that is left (of 100), and the places
-- that they read.
use Rattle.std.specs.Prelude.{◌≡◌, ℕ, pos, negsuc, List, [], ◌∷◌, true, false, None, Result, Ok, Err}
use Rattle.kr_base.specs.Places.{nowhere}
use Rattle.kr_ast.specs.declared.node.BinaryOperator.TheVariants.{Add, Subtract, Remainder, ShiftLeft, ShiftRight, ShiftRightUnsigned, BitAnd, BitOr, BitXor, LessOrEqual, GreaterOrEqual}
use Rattle.kr_ast.specs.declared.node.UnaryOperator.TheVariants.{Minus, Plus, Not, Complement}
use Rattle.kr_ast.specs.declared.node.StepOperator.TheVariants.{IncrementBehind, DecrementBefore}
use Rattle.kr_ast.specs.Tree as trees
use Rattle.kr_ast.specs.Tree.{Tree}
use Rattle.kr_value.specs.declared.value.Value.{Value}
use Rattle.kr_value.specs.declared.value.Value.TheVariants.{Int, Bool as Truth, Null, Ref as Reference}
use Rattle.kr_value.specs.declared.object.Class.TheVariants.{Object, Array}
use Rattle.kr_value.specs.declared.object.Spot.TheVariants.{Field, Length, Element}
use Rattle.kr_value.specs.Heaps.{HeapObject}
use Rattle.kr_mean.specs.declared.kind.Kind.TheVariants.{NullPointerException, ArithmeticException, ArrayIndexOutOfBoundsException, NegativeArraySizeException, ClassCastException, NoSuchElementException, NoReturn, ArrayTooLong}
use Rattle.kr_mean.specs.declared.kind.Stop.{Stop}
use Rattle.kr_mean.specs.declared.kind.Stop.TheVariants.{Trapped, OutOfFuel, Stuck}
use Rattle.kr_mean.specs.Program.{Program, program_of, class_scope}
use Rattle.kr_mean.specs.Places.{SlotPlace, At}
use Rattle.kr_mean.specs.Steps.{State, Outcome}
use Rattle.kr_mean.specs.Meaning.{value}
use Rattle.korat_rows.specs.Words.{absent, int, long, boolean, void, named, hash_set, linked_list, number, long_number, yes, no, null, this, name, ◌dot◌, ◌at◌, call, call_on, super_call, new, new_array, unary, step, binary, ◌*'◌, ◌/'◌, ◌+'◌, ◌-'◌, ◌<'◌, ◌>'◌, ◌instance_of◌, ◌=='◌, ◌!='◌, ◌&&'◌, ◌||'◌, ◌becomes◌, compound, conditional, cast, empty, block, declared, local, locals, evaluate, assign, increment, return, break, continue, if_then, if_else, while, do_while, for, field_with, field, constant, parameter, method, static_method, constructor, constructor_after, class, class_below}
use Rattle.kr_space_meaning.specs.Examples.{array_of}
use Rattle.kr_types_meaning.specs.Texts.{list_of}

abbrev pub Shown : Type 0
Shown = Result Value Stop × ℕ × List SlotPlace

abbrev pub shown : Outcome Value → Shown
shown o = (o.said, o.after.fuel, o.reads)

abbrev pub state_of : List HeapObject → ℕ → ℕ → State
state_of heap candidates fuel =
    record { this_value = Reference 0; locals = []; result = None; olds = []; thrown = None; heap = heap; candidates = candidates; fuel = fuel }

-- an expression in the code of a file's first class, on the first object of a heap
abbrev pub run_in : Program → List HeapObject → ℕ → ℕ → Tree → Shown
run_in program heap candidates fuel e = shown (value program (class_scope program 0) e (state_of heap candidates fuel))

-- `class R { int p; R q; boolean b; int[] a; MEMBERS }`, and other classes
abbrev pub program_with : List Tree → List Tree → Program
program_with members classes =
    program_of (list_of (class "R" (field int "p" ∷ field (named "R") "q" ∷ field boolean "b"
    ∷ field (array_of int) "a" ∷ members) ∷ classes) ∷ [])

-- p is 5, q null, b true, and a has 7, 8 and 9
abbrev pub heap : List HeapObject
heap =
    record { class = Object 0; values = Int (pos 5) ∷ Null ∷ Truth true ∷ Reference 1 ∷ [] }
    ∷ record { class = Array 0; values = Int (pos 7) ∷ Int (pos 8) ∷ Int (pos 9) ∷ [] } ∷ []

-- both are candidates
abbrev pub run_of : Tree → Shown
run_of e = run_in (program_with [] []) heap 2 100 e

abbrev pub run_with : List Tree → Tree → Shown
run_with members e = run_in (program_with members []) heap 2 100 e

abbrev pub run_beside : List Tree → Tree → Shown
run_beside classes e = run_in (program_with [] classes) heap 2 100 e

-- `m()` with `int m() { STATEMENTS }`
abbrev pub run_body : List Tree → Shown
run_body statements = run_with (method int "m" [] statements ∷ []) (call "m" [])

-- so many of the heap's objects are candidates
abbrev pub run_among : ℕ → Tree → Shown
run_among candidates e = run_in (program_with [] []) heap candidates 100 e

abbrev pub run_for : ℕ → Tree → Shown
run_for fuel e = run_in (program_with [] []) heap 2 fuel e

-- with a field `HashSet<R> s` that is null
abbrev pub run_null_s : Tree → Shown
run_null_s e =
    let object : HeapObject = record {
      class = Object 0;
      values = Int (pos 5) ∷ Null ∷ Truth true ∷ Null
          ∷ Null ∷ [];
    } in
    run_in (program_with (field (hash_set (named "R")) "s" ∷ []) []) (object ∷ []) 1 100 e

-- ---- names of fields, locals and parameters

abbrev pub p : Tree
p = name "p"

abbrev pub q : Tree
q = name "q"

abbrev pub b : Tree
b = name "b"

abbrev pub a : Tree
a = name "a"

abbrev pub s : Tree
s = name "s"

abbrev pub n : Tree
n = name "n"

abbrev pub i : Tree
i = name "i"

abbrev pub x : Tree
x = name "x"

abbrev pub y : Tree
y = name "y"

abbrev pub z : Tree
z = name "z"

abbrev pub c : Tree
c = name "c"

abbrev pub t : Tree
t = name "t"

-- `HashSet<R> s = new HashSet<R>();` and `LinkedList<R> s = new LinkedList<R>();`
abbrev pub set_s : Tree
set_s = local (hash_set (named "R")) "s" (new (hash_set (named "R")) [])

abbrev pub list_s : Tree
list_s = local (linked_list (named "R")) "s" (new (linked_list (named "R")) [])

abbrev pub add_to_s : Tree → Tree
add_to_s e = call_on s "add" (e ∷ [])

abbrev pub first_of_s : Tree
first_of_s = call_on s "removeFirst" []

-- `int[] c = new int[2];`
abbrev pub two_c : Tree
two_c = local (array_of int) "c" (new_array int (number 2))

-- `int first(int x, R y) { return x; return 0; }`
abbrev pub first : List Tree
first = method int "first" (parameter int "x" ∷ parameter (named "R") "y" ∷ []) (return x ∷ return (number 0) ∷ []) ∷ []

-- constants are known by their places, and evaluated in order of these
abbrev pub on_line : ℕ → Tree → Tree
on_line n (trees.Declarator place k e) = trees.Declarator (record { file = 0; line = n; col = 0 }) k e
on_line n e = e

-- `static final long FIRST, SECOND;`
abbrev pub long_constants : Tree → Tree → Tree
long_constants e f = trees.Field nowhere true true long (list_of (on_line 1 e ∷ on_line 2 f ∷ []))

pub record Constructs : Type 0 where
  pub add_shown : run_of (number 2147483647 +' number 1) ≡ (Ok (Int (negsuc 2147483647)), 97, [])
  pub subtract_shown : run_of (number 0 -' number 7 -' number 3) ≡ (Ok (Int (negsuc 9)), 95, [])
  pub multiply_shown : run_of (number 65536 *' number 65537) ≡ (Ok (Int (pos 65536)), 97, [])
  pub divide_shown : run_of (unary Minus (number 7) /' number 2) ≡ (Ok (Int (negsuc 2)), 96, [])
  pub remainder_shown : run_of (binary Remainder (unary Minus (number 7)) (number 2)) ≡ (Ok (Int (negsuc 0)), 96, [])
  pub least_divided_shown :
      run_of (unary Minus (number 2147483648) /' unary Minus (number 1)) ≡ (Ok (Int (negsuc 2147483647)), 95, [])
  pub least_remainder_shown :
      run_of (binary Remainder (unary Minus (number 2147483648)) (unary Minus (number 1)))
      ≡ (Ok (Int (pos 0)), 95, [])
  pub shift_shown : run_of (binary ShiftLeft (number 1) (number 33)) ≡ (Ok (Int (pos 2)), 97, [])
  pub shift_right_shown : run_of (binary ShiftRight (unary Minus (number 8)) (number 1)) ≡ (Ok (Int (negsuc 3)), 96, [])
  pub shift_zeros_shown :
      run_of (binary ShiftRightUnsigned (unary Minus (number 1)) (number 28)) ≡ (Ok (Int (pos 15)), 96, [])
  pub long_add_shown : run_of (long_number 9223372036854775807 +' number 1) ≡ (Ok (Int (negsuc 9223372036854775807)), 97, [])
  pub long_multiply_shown : run_of (long_number 65536 *' number 65537) ≡ (Ok (Int (pos 4295032832)), 97, [])
  pub long_shift_shown : run_of (binary ShiftLeft (long_number 1) (number 33)) ≡ (Ok (Int (pos 8589934592)), 97, [])
  pub shift_by_long_shown : run_of (binary ShiftLeft (number 1) (long_number 33)) ≡ (Ok (Int (pos 2)), 97, [])
  pub least_long_shown : run_of (unary Minus (long_number 9223372036854775808)) ≡ (Ok (Int (negsuc 9223372036854775807)), 98, [])
  pub cast_to_int_shown : run_of (cast int (long_number 4294967297)) ≡ (Ok (Int (pos 1)), 98, [])
  pub cast_to_long_shown : run_of (cast long (number 2147483647) +' number 1) ≡ (Ok (Int (pos 2147483648)), 96, [])
  -- an int and a long together are a long; an int that is shifted by a long is an int
  pub long_of_both_shown : run_of (number 2147483647 +' long_number 0 +' number 1) ≡ (Ok (Int (pos 2147483648)), 95, [])
  pub int_shifted_shown :
      run_of (binary ShiftLeft (number 1) (long_number 30) +' binary ShiftLeft (number 1) (long_number 30))
      ≡ (Ok (Int (negsuc 2147483647)), 93, [])
  pub long_of_arms_shown :
      run_of (conditional yes (number 2147483647) (long_number 0) +' number 1) ≡ (Ok (Int (pos 2147483648)), 95, [])
  -- { int x = 1; x += 4294967297L; return x; }
  pub long_added_to_int_shown :
      run_body (local int "x" (number 1) ∷ evaluate (compound Add x (long_number 4294967297)) ∷ return x ∷ [])
      ≡ (Ok (Int (pos 2)), 92, [])
  -- m() with long m() { long x = 2147483647; x += 1; x++; return x; }
  pub long_local_shown :
      run_with (method long "m" [] (local long "x" (number 2147483647) ∷ evaluate (compound Add x (number 1))
      ∷ increment x ∷ return x ∷ []) ∷ []) (call "m" []) ≡ (Ok (Int (pos 2147483649)), 90, [])
  -- J with static final int J = (int) 4294967297L;
  pub narrowed_constant_shown :
      run_with (constant int "J" (cast int (long_number 4294967297)) ∷ []) (name "J") ≡ (Ok (Int (pos 1)), 99, [])
  -- L with static final long K = (long) 2147483647 + 1, L = K + 1;
  pub long_constants_shown :
      run_with (long_constants (declared "K" (cast long (number 2147483647) +' number 1)) (declared "L" (name "K" +' number 1)) ∷ [])
      (name "L") ≡ (Ok (Int (pos 2147483649)), 99, [])
  pub bits_shown :
      run_of (binary BitAnd (number 12) (number 10) +' binary BitOr (number 12) (number 10)
      +' binary BitXor (number 12) (number 10)) ≡ (Ok (Int (pos 28)), 89, [])
  pub complement_shown : run_of (unary Complement (number 5)) ≡ (Ok (Int (negsuc 5)), 98, [])
  pub plus_shown : run_of (unary Plus (number 5)) ≡ (Ok (Int (pos 5)), 98, [])
  pub least_shown : run_of (unary Minus (number 2147483648)) ≡ (Ok (Int (negsuc 2147483647)), 98, [])
  pub conditional_shown : run_of (conditional (number 1 <' number 2) (number 3) (number 4)) ≡ (Ok (Int (pos 3)), 95, [])
  pub other_arm_shown : run_of (conditional (number 2 <' number 1) (number 3) (number 4)) ≡ (Ok (Int (pos 4)), 95, [])
  pub int_cast_shown : run_of (cast int (number 5)) ≡ (Ok (Int (pos 5)), 98, [])
  pub less_shown : run_of (number 1 <' number 1) ≡ (Ok (Truth false), 97, [])
  pub at_most_shown : run_of (binary LessOrEqual (number 1) (number 1)) ≡ (Ok (Truth true), 97, [])
  pub above_shown : run_of (number 2 >' number 1) ≡ (Ok (Truth true), 97, [])
  pub at_least_shown : run_of (binary GreaterOrEqual (number 0) (number 1)) ≡ (Ok (Truth false), 97, [])
  pub equal_numbers_shown : run_of (number 1 ==' number 1) ≡ (Ok (Truth true), 97, [])
  pub unequal_numbers_shown : run_of (number 1 !=' number 1) ≡ (Ok (Truth false), 97, [])
  pub not_shown : run_of (unary Not yes) ≡ (Ok (Truth false), 98, [])
  pub and_stops_shown : run_of (no &&' number 1 /' number 0 ==' number 0) ≡ (Ok (Truth false), 98, [])
  pub and_goes_on_shown : run_of (yes &&' no) ≡ (Ok (Truth false), 97, [])
  pub or_stops_shown : run_of (yes ||' number 1 /' number 0 ==' number 0) ≡ (Ok (Truth true), 98, [])
  pub or_goes_on_shown : run_of (no ||' yes) ≡ (Ok (Truth true), 97, [])
  pub strict_shown : run_of (binary BitAnd no yes) ≡ (Ok (Truth false), 97, [])
  pub either_shown : run_of (binary BitOr no yes) ≡ (Ok (Truth true), 97, [])
  pub differ_shown : run_of (binary BitXor yes yes) ≡ (Ok (Truth false), 97, [])
  pub equal_booleans_shown : run_of (no ==' no) ≡ (Ok (Truth true), 97, [])
  pub unequal_booleans_shown : run_of (yes !=' no) ≡ (Ok (Truth true), 97, [])
  pub null_is_null_shown : run_of (null ==' null) ≡ (Ok (Truth true), 97, [])
  pub by_zero_shown : run_of (number 1 /' number 0) ≡ (Err (Trapped ArithmeticException), 97, [])
  pub remainder_by_zero_shown :
      run_of (binary Remainder (number 1) (number 0)) ≡ (Err (Trapped ArithmeticException), 97, [])
  pub strict_traps_shown :
      run_of (binary BitAnd no (number 1 /' number 0 ==' number 0)) ≡ (Err (Trapped ArithmeticException), 94, [])
  pub own_field_shown : run_of p ≡ (Ok (Int (pos 5)), 99, At 0 (Field 0) ∷ [])
  pub field_of_this_shown : run_of (this dot "p") ≡ (Ok (Int (pos 5)), 98, At 0 (Field 0) ∷ [])
  pub null_field_shown : run_of (q dot "p") ≡ (Err (Trapped NullPointerException), 98, At 0 (Field 1) ∷ [])
  pub same_shown : run_of (this ==' this) ≡ (Ok (Truth true), 97, [])
  pub unequal_references_shown : run_of (q !=' this) ≡ (Ok (Truth true), 97, At 0 (Field 1) ∷ [])
  pub reference_and_null_shown : run_of (this ==' q) ≡ (Ok (Truth false), 97, At 0 (Field 1) ∷ [])
  pub null_loads_shown : run_of (q ==' q) ≡ (Ok (Truth true), 97, At 0 (Field 1) ∷ At 0 (Field 1) ∷ [])
  -- an int and an object
  pub ill_typed_shown : run_of (p ==' q) ≡ (Err Stuck, 97, At 0 (Field 0) ∷ At 0 (Field 1) ∷ [])
  pub length_shown : run_of (a dot "length") ≡ (Ok (Int (pos 3)), 98, At 0 (Field 3) ∷ At 1 Length ∷ [])
  pub element_shown :
      run_of (a at number 1) ≡ (Ok (Int (pos 8)), 97, At 0 (Field 3) ∷ At 1 Length ∷ At 1 (Element 1) ∷ [])
  pub no_element_shown :
      run_of (a at number 3) ≡ (Err (Trapped ArrayIndexOutOfBoundsException), 97, At 0 (Field 3) ∷ At 1 Length ∷ [])
  pub below_elements_shown :
      run_of (a at unary Minus (number 1))
      ≡ (Err (Trapped ArrayIndexOutOfBoundsException), 96, At 0 (Field 3) ∷ At 1 Length ∷ [])
  -- reads of objects that the run itself has made aren't noted
  pub made_not_noted_shown : run_among 0 p ≡ (Ok (Int (pos 5)), 99, [])
  pub made_array_not_noted_shown : run_among 1 (a at number 1) ≡ (Ok (Int (pos 8)), 97, At 0 (Field 3) ∷ [])
  -- m(7, 5) with int m(int x, int y) { return x - y; }
  pub call_shown :
      run_with (method int "m" (parameter int "x" ∷ parameter int "y" ∷ []) (return (x -' y) ∷ []) ∷ [])
      (call "m" (number 7 ∷ number 5 ∷ [])) ≡ (Ok (Int (pos 2)), 93, [])
  -- this.m(7) with int m(int x) { return x; }
  pub call_on_shown :
      run_with (method int "m" (parameter int "x" ∷ []) (return x ∷ []) ∷ []) (call_on this "m" (number 7 ∷ []))
      ≡ (Ok (Int (pos 7)), 95, [])
  -- q.m(p) with int m(int x) { return x; }
  pub null_after_arguments_shown :
      run_with (method int "m" (parameter int "x" ∷ []) (return x ∷ []) ∷ []) (call_on q "m" (p ∷ []))
      ≡ (Err (Trapped NullPointerException), 97, At 0 (Field 1) ∷ At 0 (Field 0) ∷ [])
  -- q.m(1 / 0) with int m(int x) { return x; }
  pub receiver_first_shown :
      run_with (method int "m" (parameter int "x" ∷ []) (return x ∷ []) ∷ [])
      (call_on q "m" (number 1 /' number 0 ∷ [])) ≡ (Err (Trapped ArithmeticException), 95, At 0 (Field 1) ∷ [])
  pub null_after_all_shown :
      run_with first (call_on q "first" (p ∷ q ∷ []))
      ≡ (Err (Trapped NullPointerException), 96, At 0 (Field 1) ∷ At 0 (Field 0) ∷ At 0 (Field 1) ∷ [])
  pub bound_in_order_shown :
      run_with first (call_on this "first" (p ∷ q ∷ []))
      ≡ (Ok (Int (pos 5)), 94, At 0 (Field 0) ∷ At 0 (Field 1) ∷ [])
  pub too_few_arguments_shown : run_with first (call_on this "first" (p ∷ [])) ≡ (Err Stuck, 97, At 0 (Field 0) ∷ [])
  -- R.m(7) with static int m(int x) { return x; }
  pub static_call_shown :
      run_with (static_method int "m" (parameter int "x" ∷ []) (return x ∷ []) ∷ [])
      (call_on (name "R") "m" (number 7 ∷ [])) ≡ (Ok (Int (pos 7)), 96, [])
  -- q.m() with static int m() { return 1; }
  pub static_through_null_shown :
      run_with (static_method int "m" [] (return (number 1) ∷ []) ∷ []) (call_on q "m" [])
      ≡ (Err (Trapped NullPointerException), 98, At 0 (Field 1) ∷ [])
  -- ((A) new B()).m() beside class A { static int m() { return 1; } } class B extends A { static int m() { return 2; } }
  pub static_by_type_shown :
      run_beside (class "A" (static_method int "m" [] (return (number 1) ∷ []) ∷ [])
      ∷ class_below "B" "A" (static_method int "m" [] (return (number 2) ∷ []) ∷ []) ∷ [])
      (call_on (cast (named "A") (new (named "B") [])) "m" []) ≡ (Ok (Int (pos 1)), 95, [])
  -- ((A) new B()).m() beside class A { int m() { return 1; } } class B extends A { int m() { return 2; } }
  pub by_class_shown :
      run_beside (class "A" (method int "m" [] (return (number 1) ∷ []) ∷ [])
      ∷ class_below "B" "A" (method int "m" [] (return (number 2) ∷ []) ∷ []) ∷ [])
      (call_on (cast (named "A") (new (named "B") [])) "m" []) ≡ (Ok (Int (pos 2)), 95, [])
  -- new B().m() beside class A { int m() { return 1; } } class B extends A { }
  pub inherited_shown :
      run_beside (class "A" (method int "m" [] (return (number 1) ∷ []) ∷ []) ∷ class_below "B" "A" [] ∷ [])
      (call_on (new (named "B") []) "m" []) ≡ (Ok (Int (pos 1)), 96, [])
  -- new B().m() beside class A { int m() { return 1; } } class B extends A { int m() { return super.m() + 2; } }
  pub super_call_shown :
      run_beside (class "A" (method int "m" [] (return (number 1) ∷ []) ∷ [])
      ∷ class_below "B" "A" (method int "m" [] (return (super_call "m" [] +' number 2) ∷ []) ∷ []) ∷ [])
      (call_on (new (named "B") []) "m" []) ≡ (Ok (Int (pos 3)), 92, [])
  -- { }
  pub no_return_shown : run_body [] ≡ (Err (Trapped NoReturn), 99, [])
  -- n() with void m() { } int n() { m(); return 3; }
  pub void_end_shown :
      run_with (method void "m" [] [] ∷ method int "n" [] (evaluate (call "m" []) ∷ return (number 3) ∷ []) ∷ [])
      (call "n" []) ≡ (Ok (Int (pos 3)), 95, [])
  -- n() with void m() { return; } int n() { m(); return 3; }
  pub void_return_shown :
      run_with (method void "m" [] (return absent ∷ [])
      ∷ method int "n" [] (evaluate (call "m" []) ∷ return (number 3) ∷ []) ∷ []) (call "n" [])
      ≡ (Ok (Int (pos 3)), 94, [])
  -- m(2) with int m(int n) { return n == 0 ? 0 : n + m(n - 1); }
  pub recursion_shown :
      run_with (method int "m" (parameter int "n" ∷ [])
      (return (conditional (n ==' number 0) (number 0) (n +' call "m" (n -' number 1 ∷ []))) ∷ []) ∷ [])
      (call "m" (number 2 ∷ [])) ≡ (Ok (Int (pos 3)), 70, [])
  -- R.K + K with static final int K = 6;
  pub constant_shown :
      run_with (constant int "K" (number 6) ∷ []) (name "R" dot "K" +' name "K") ≡ (Ok (Int (pos 12)), 97, [])
  -- new N().m() with static final int K = 6; static class N { int m() { return K; } }
  pub outer_constant_shown :
      run_with (constant int "K" (number 6) ∷ class "N" (method int "m" [] (return (name "K") ∷ []) ∷ []) ∷ [])
      (call_on (new (named "N") []) "m" []) ≡ (Ok (Int (pos 6)), 96, [])
  -- new A().x beside class A { int x; }
  pub defaults_shown :
      run_beside (class "A" (field int "x" ∷ []) ∷ []) (new (named "A") [] dot "x") ≡ (Ok (Int (pos 0)), 98, [])
  -- new A().x beside class A { int x = 3 + 4; }
  pub initialised_shown :
      run_beside (class "A" (field_with int "x" (number 3 +' number 4) ∷ []) ∷ []) (new (named "A") [] dot "x")
      ≡ (Ok (Int (pos 7)), 95, [])
  -- new A(5).x beside class A { int x; A(int y) { this.x = y; } }
  pub constructor_shown :
      run_beside (class "A" (field int "x"
      ∷ constructor (parameter int "y" ∷ []) (assign (this dot "x") y ∷ []) ∷ []) ∷ [])
      (new (named "A") (number 5 ∷ []) dot "x") ≡ (Ok (Int (pos 5)), 93, [])
  -- new A().x beside class A { int x = 3; A() { x = x + 1; } }
  pub initialised_before_shown :
      run_beside (class "A" (field_with int "x" (number 3)
      ∷ constructor [] (assign x (x +' number 1) ∷ []) ∷ []) ∷ []) (new (named "A") [] dot "x")
      ≡ (Ok (Int (pos 4)), 92, [])
  -- new B().x beside class A { int x = 3; } class B extends A { B() { } }
  pub implied_super_shown :
      run_beside (class "A" (field_with int "x" (number 3) ∷ []) ∷ class_below "B" "A" (constructor [] [] ∷ []) ∷ [])
      (new (named "B") [] dot "x") ≡ (Ok (Int (pos 3)), 97, [])
  -- new B().x beside class A { int x; A(int y) { x = y; } } class B extends A { B() { super(9); } }
  pub super_arguments_shown :
      run_beside (class "A" (field int "x" ∷ constructor (parameter int "y" ∷ []) (assign x y ∷ []) ∷ [])
      ∷ class_below "B" "A" (constructor_after (number 9 ∷ []) [] [] ∷ []) ∷ []) (new (named "B") [] dot "x")
      ≡ (Ok (Int (pos 9)), 93, [])
  pub new_array_shown : run_of (new_array int (number 3) dot "length") ≡ (Ok (Int (pos 3)), 97, [])
  pub negative_shown :
      run_of (new_array int (unary Minus (number 1))) ≡ (Err (Trapped NegativeArraySizeException), 97, [])
  pub too_long_shown : run_of (new_array int (number 65)) ≡ (Err (Trapped ArrayTooLong), 98, [])
  pub longest_shown : run_of (new_array int (number 64) dot "length") ≡ (Ok (Int (pos 64)), 97, [])
  -- { boolean[] c = new boolean[2]; return c[1] ? 1 : 0; }
  pub new_element_shown :
      run_body (local (array_of boolean) "c" (new_array boolean (number 2))
      ∷ return (conditional (c at number 1) (number 1) (number 0)) ∷ []) ≡ (Ok (Int (pos 0)), 90, [])
  -- { int x = 3; int y; return x + y; }
  pub local_shown :
      run_body (local int "x" (number 3) ∷ local int "y" absent ∷ return (x +' y) ∷ []) ≡ (Ok (Int (pos 3)), 92, [])
  -- { int x = 3, y = 4; return x + y; }
  pub two_locals_shown :
      run_body (locals int (declared "x" (number 3) ∷ declared "y" (number 4) ∷ []) ∷ return (x +' y) ∷ [])
      ≡ (Ok (Int (pos 7)), 91, [])
  -- { int x = x + 2; return x; }
  pub from_default_shown : run_body (local int "x" (x +' number 2) ∷ return x ∷ []) ≡ (Ok (Int (pos 2)), 93, [])
  -- { int x = 3; return (x = 4) + x; }
  pub assign_local_shown :
      run_body (local int "x" (number 3) ∷ return ((x becomes number 4) +' x) ∷ []) ≡ (Ok (Int (pos 8)), 92, [])
  -- { int x = 1; { int y = 2; x = x + y; } { int z = 5; return x + z; } }
  pub scopes_shown :
      run_body (local int "x" (number 1) ∷ block (local int "y" (number 2) ∷ assign x (x +' y) ∷ [])
      ∷ block (local int "z" (number 5) ∷ return (x +' z) ∷ []) ∷ []) ≡ (Ok (Int (pos 8)), 82, [])
  -- { int x = 7; x -= 2; return x; }
  pub compound_local_shown :
      run_body (local int "x" (number 7) ∷ evaluate (compound Subtract x (number 2)) ∷ return x ∷ [])
      ≡ (Ok (Int (pos 5)), 92, [])
  -- { int x = 7; x += (x = 1); return x; }
  pub saved_shown :
      run_body (local int "x" (number 7) ∷ evaluate (compound Add x (x becomes number 1)) ∷ return x ∷ [])
      ≡ (Ok (Int (pos 8)), 91, [])
  -- { int x = 7; return x++ * 10 + x; }
  pub behind_shown :
      run_body (local int "x" (number 7) ∷ return (step IncrementBehind x *' number 10 +' x) ∷ [])
      ≡ (Ok (Int (pos 78)), 91, [])
  -- { int x = 7; return --x * 10 + x; }
  pub before_shown :
      run_body (local int "x" (number 7) ∷ return (step DecrementBefore x *' number 10 +' x) ∷ [])
      ≡ (Ok (Int (pos 66)), 91, [])
  -- (new A()).set(4) beside class A { int x; int set(int y) { x = y; return x; } }
  pub store_shown :
      run_beside (class "A" (field int "x"
      ∷ method int "set" (parameter int "y" ∷ []) (assign x y ∷ return x ∷ []) ∷ []) ∷ [])
      (call_on (new (named "A") []) "set" (number 4 ∷ [])) ≡ (Ok (Int (pos 4)), 92, [])
  pub store_null_shown :
      run_of (q dot "p" becomes number 1 /' number 0) ≡ (Err (Trapped ArithmeticException), 95, At 0 (Field 1) ∷ [])
  pub store_null_traps_shown :
      run_of (q dot "p" becomes number 1) ≡ (Err (Trapped NullPointerException), 97, At 0 (Field 1) ∷ [])
  pub compound_null_first_shown :
      run_of (compound Add (q dot "p") (number 1 /' number 0))
      ≡ (Err (Trapped NullPointerException), 98, At 0 (Field 1) ∷ [])
  -- { int[] c = new int[2]; c[1] = 4; return c[0] * 10 + c[1]; }
  pub element_store_shown :
      run_body (two_c ∷ assign (c at number 1) (number 4) ∷ return (c at number 0 *' number 10 +' c at number 1) ∷ [])
      ≡ (Ok (Int (pos 4)), 81, [])
  -- { int[] c = new int[2]; c[2] = 1 / 0; return 0; }
  pub element_bounds_shown :
      run_body (two_c ∷ assign (c at number 2) (number 1 /' number 0) ∷ return (number 0) ∷ [])
      ≡ (Err (Trapped ArithmeticException), 89, [])
  -- { int[] c = new int[2]; c[2] = 4; return 0; }
  pub element_bounds_trap_shown :
      run_body (two_c ∷ assign (c at number 2) (number 4) ∷ return (number 0) ∷ [])
      ≡ (Err (Trapped ArrayIndexOutOfBoundsException), 91, [])
  -- { int[] c = new int[2]; c[2] += 1 / 0; return 0; }
  pub element_compound_bounds_shown :
      run_body (two_c ∷ evaluate (compound Add (c at number 2) (number 1 /' number 0)) ∷ return (number 0) ∷ [])
      ≡ (Err (Trapped ArrayIndexOutOfBoundsException), 92, [])
  -- { int[] c = new int[2]; c[1]++; c[1]++; return c[1]; }
  pub element_step_shown :
      run_body (two_c ∷ increment (c at number 1) ∷ increment (c at number 1) ∷ return (c at number 1) ∷ [])
      ≡ (Ok (Int (pos 2)), 84, [])
  -- { int i = 0; while (i < 3) i++; return i; }
  pub while_loop_shown :
      run_body (local int "i" (number 0) ∷ while (i <' number 3) (increment i) ∷ return i ∷ [])
      ≡ (Ok (Int (pos 3)), 72, [])
  -- { int i = 5; do i++; while (i < 3); return i; }
  pub do_loop_shown :
      run_body (local int "i" (number 5) ∷ do_while (increment i) (i <' number 3) ∷ return i ∷ [])
      ≡ (Ok (Int (pos 6)), 88, [])
  -- { int s = 0; for (int i = 0; i < 3; i++) s += i; return s; }
  pub for_loop_shown :
      run_body (local int "s" (number 0)
      ∷ for (local int "i" (number 0) ∷ []) (i <' number 3) (step IncrementBehind i ∷ [])
      (evaluate (compound Add s i)) ∷ return s ∷ []) ≡ (Ok (Int (pos 3)), 64, [])
  -- { for (;;) break; return 1; }
  pub for_ever_shown : run_body (for [] absent [] break ∷ return (number 1) ∷ []) ≡ (Ok (Int (pos 1)), 94, [])
  -- { int i = 0; while (true) { i++; if (i == 2) break; } return i; }
  pub break_inner_shown :
      run_body (local int "i" (number 0) ∷ while yes (block (increment i ∷ if_then (i ==' number 2) break ∷ []))
      ∷ return i ∷ []) ≡ (Ok (Int (pos 2)), 75, [])
  -- { int s = 0; for (int i = 0; i < 4; i++) { if (i == 2) continue; s += i; } return s; }
  pub continue_update_shown :
      run_body (local int "s" (number 0)
      ∷ for (local int "i" (number 0) ∷ []) (i <' number 4) (step IncrementBehind i ∷ [])
      (block (if_then (i ==' number 2) continue ∷ evaluate (compound Add s i) ∷ [])) ∷ return s ∷ [])
      ≡ (Ok (Int (pos 4)), 38, [])
  -- { int i = 0; do { i++; continue; } while (i < 2); return i; }
  pub continue_test_shown :
      run_body (local int "i" (number 0) ∷ do_while (block (increment i ∷ continue ∷ [])) (i <' number 2)
      ∷ return i ∷ []) ≡ (Ok (Int (pos 2)), 78, [])
  -- { while (true) return 4; }
  pub return_in_loop_shown : run_body (while yes (return (number 4)) ∷ []) ≡ (Ok (Int (pos 4)), 94, [])
  -- { if (b) return 1; else return 2; }
  pub if_else_shown :
      run_body (if_else b (return (number 1)) (return (number 2)) ∷ []) ≡ (Ok (Int (pos 1)), 95, At 0 (Field 2) ∷ [])
  -- { if (q == null) ; return 2; }
  pub if_then_shown :
      run_body (if_then (q ==' null) empty ∷ return (number 2) ∷ []) ≡ (Ok (Int (pos 2)), 92, At 0 (Field 1) ∷ [])
  -- new B() instanceof A beside class A { } class B extends A { } class C extends A { }
  pub instance_shown :
      run_beside (class "A" [] ∷ class_below "B" "A" [] ∷ class_below "C" "A" [] ∷ [])
      (new (named "B") [] instance_of named "A") ≡ (Ok (Truth true), 98, [])
  -- (A) new C() instanceof B beside class A { } class B extends A { } class C extends A { }
  pub no_instance_shown :
      run_beside (class "A" [] ∷ class_below "B" "A" [] ∷ class_below "C" "A" [] ∷ [])
      (cast (named "A") (new (named "C") []) instance_of named "B") ≡ (Ok (Truth false), 97, [])
  -- (A) null instanceof A beside class A { } class B extends A { } class C extends A { }
  pub null_instance_shown :
      run_beside (class "A" [] ∷ class_below "B" "A" [] ∷ class_below "C" "A" [] ∷ [])
      (cast (named "A") null instance_of named "A") ≡ (Ok (Truth false), 97, [])
  -- (B) (A) new B() != null beside class A { } class B extends A { } class C extends A { }
  pub cast_shown :
      run_beside (class "A" [] ∷ class_below "B" "A" [] ∷ class_below "C" "A" [] ∷ [])
      (cast (named "B") (cast (named "A") (new (named "B") [])) !=' null) ≡ (Ok (Truth true), 95, [])
  -- (B) (A) new C() beside class A { } class B extends A { } class C extends A { }
  pub bad_cast_shown :
      run_beside (class "A" [] ∷ class_below "B" "A" [] ∷ class_below "C" "A" [] ∷ [])
      (cast (named "B") (cast (named "A") (new (named "C") []))) ≡ (Err (Trapped ClassCastException), 97, [])
  -- (B) null == null beside class A { } class B extends A { } class C extends A { }
  pub null_cast_shown :
      run_beside (class "A" [] ∷ class_below "B" "A" [] ∷ class_below "C" "A" [] ∷ [])
      (cast (named "B") null ==' null) ≡ (Ok (Truth true), 96, [])
  -- { HashSet<R> s = new HashSet<R>(); int n = 0; if (s.add(this)) n++; if (s.add(this)) n++; if (s.add(null)) n++;
  -- if (s.add(null)) n++; return n * 10 + s.size(); }
  pub set_adds_once_shown :
      run_body (set_s ∷ local int "n" (number 0) ∷ if_then (add_to_s this) (increment n)
      ∷ if_then (add_to_s this) (increment n) ∷ if_then (add_to_s null) (increment n)
      ∷ if_then (add_to_s null) (increment n) ∷ return (n *' number 10 +' call_on s "size" []) ∷ [])
      ≡ (Ok (Int (pos 22)), 68, [])
  -- { LinkedList<R> s = new LinkedList<R>(); s.add(this); s.add(null); s.add(this); return s.size(); }
  pub list_appends_shown :
      run_body (list_s ∷ evaluate (add_to_s this) ∷ evaluate (add_to_s null) ∷ evaluate (add_to_s this)
      ∷ return (call_on s "size" []) ∷ []) ≡ (Ok (Int (pos 3)), 82, [])
  -- { HashSet<R> s = new HashSet<R>(); s.add(this); return s.contains(this) && !s.contains(null) ? 1 : 0; }
  pub contains_shown :
      run_body (set_s ∷ evaluate (add_to_s this)
      ∷ return (conditional (call_on s "contains" (this ∷ []) &&' unary Not (call_on s "contains" (null ∷ [])))
      (number 1) (number 0)) ∷ []) ≡ (Ok (Int (pos 1)), 82, [])
  -- { LinkedList<R> s = new LinkedList<R>(); s.add(null); s.add(this);
  -- return s.removeFirst() == null && s.removeFirst() == this && s.isEmpty() ? 1 : 0; }
  pub first_removed_shown :
      run_body (list_s ∷ evaluate (add_to_s null) ∷ evaluate (add_to_s this)
      ∷ return (conditional (first_of_s ==' null &&' first_of_s ==' this &&' call_on s "isEmpty" []) (number 1) (number 0)) ∷ []) ≡ (Ok (Int (pos 1)), 74, [])
  -- { LinkedList<R> s = new LinkedList<R>(); s.removeFirst(); return 1; }
  pub none_left_shown :
      run_body (list_s ∷ evaluate first_of_s ∷ return (number 1) ∷ [])
      ≡ (Err (Trapped NoSuchElementException), 94, [])
  -- { LinkedList<R> s = new LinkedList<R>(); s.add(this); s.add(null); s.add(this); boolean t = s.remove(this);
  -- return t && !s.remove(new R()) && s.removeFirst() == null && s.size() == 1 ? 1 : 0; }
  pub removes_first_equal_shown :
      run_body (list_s ∷ evaluate (add_to_s this) ∷ evaluate (add_to_s null) ∷ evaluate (add_to_s this)
      ∷ local boolean "t" (call_on s "remove" (this ∷ []))
      ∷ return (conditional (t &&' unary Not (call_on s "remove" (new (named "R") [] ∷ [])) &&' first_of_s ==' null
      &&' call_on s "size" [] ==' number 1) (number 1) (number 0)) ∷ []) ≡ (Ok (Int (pos 1)), 62, [])
  -- s.add(this) with HashSet<R> s; which is null
  pub null_collection_shown : run_null_s (add_to_s this) ≡ (Err (Trapped NullPointerException), 97, At 0 (Field 4) ∷ [])
  -- each node takes a unit before all else
  pub short_of_fuel_shown : run_for 2 (p +' p) ≡ (Err OutOfFuel, 0, At 0 (Field 0) ∷ [])
  pub exact_fuel_shown : run_for 3 (p +' p) ≡ (Ok (Int (pos 10)), 0, At 0 (Field 0) ∷ At 0 (Field 0) ∷ [])
