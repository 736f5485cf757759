-- A tree has at most three nodes for each token, and one more.
use Rattle.std.proofs.Common.{◌≡◌, ℕ, ◌+◌, ◌*◌, ◌≤◌, List, length, refl, arith}
use Rattle.kr_lex.specs.Lexemes.{Lexeme}
use Rattle.kr_ast.specs.Tree.{Tree, size}
use Rattle.kr_parse_grammar.specs.declared.value.Modifiers.{Modifiers}
use Rattle.kr_parse_grammar.specs.Grammar.{Class, Declarator, Evaluated, Local, ForInitial, Extended, Members, Classes, Maybe, Many, Several, Modified, nothing, access, static, final, overriding, Der, absent, present, end, next, last, comma, simple_name, qualified_name, class_type, generic_type, array_type, primitive_type, reference_type, number, long_number, truth, falsity, null, this, result_value, old_value, parentheses, variable, call, super_call, creation, generic_creation, diamond_creation, primitive_array, class_array, field_access, method_call, array_access, primary, stepped_behind, postfix, complement, primitive_cast, reference_cast, unsigned, sign, stepped_before, operand, binary, instance_of, operation, choice, assign, compound, conditional, assignment, declarator, initialised, local, final_local, assigns, steps, is_stepped, invokes, evaluated, local_statement, statement, block, empty, evaluate, return, break, continue, if_then, if_else, while, do_while, for, for_local, for_expressions, parameter, final_parameter, void, result, calls_super, nested, field, precondition, postcondition, method, constructor, no_member, skip_member, member, not_extended, extended, class, no_class, skip_class, another, Dotted, no_more, dot, Imports, no_import, import, Heading, unpackaged, packaged, throw, try, caught, final_caught, catch, exception, named_exception}
use Rattle.kr_parse_laws.specs.Laws.{SmallTrees}

-- how many nodes more than three for each token, less two
abbrev extra : Class → ℕ
extra Declarator = 1
extra Evaluated = 1
extra Local = 2
extra ForInitial = 4
extra Extended = 3
extra (Members o n) = 3
extra Classes = 3
extra (Maybe c) = 3 + extra c
extra (Many c) = 3
extra (Several c) = 2 + extra c
extra _ = 0

-- items of lists are small enough
abbrev IsCounted : Class → Type 0
IsCounted (Maybe c) = IsCounted c
IsCounted (Many c) = (extra c ≡ 0) × IsCounted c
IsCounted (Several c) = (extra c ≤ 1) × IsCounted c
IsCounted _ = Unit {0}

modified : {i r : List Lexeme} {f : Modifiers} → Modified i f r → length r ≤ length i
modified nothing = omega arith
modified (access _ m _) = omega (arith, modified m)
modified (static _ m _) = omega (arith, modified m)
modified (final _ m _) = omega (arith, modified m)
modified (overriding _ _ m _ _ _) = omega (arith, modified m)

few : (0 ≤ 1) × Unit {0}
few = (omega arith, tt)

fewer : (1 ≤ 1) × Unit {0}
fewer = (omega arith, tt)

small : {c : Class} {i r : List Lexeme} {t : Tree} → IsCounted c → Der c i t r → size t + 3 * length r + 2 ≤ 3 * length i + extra c
-- one that may be absent
small _ absent = omega arith
small u (present d) = omega (arith, small u d)
-- any number
small _ end = omega arith
small u (next d e) = omega (arith, u.0, small u.1 d, small u e)
-- one or more, separated by commas
small u (last d) = omega (arith, u.0, small u.1 d)
small u (comma _ d _ e) = omega (arith, u.0, small u.1 d, small u e)
-- types
small _ (simple_name _ _) = omega arith
small _ (qualified_name _ _ _ _ _ _) = omega arith
small _ (class_type d) = omega (arith, small tt d)
small _ (generic_type _ _ d _ e _) = omega (arith, small tt d, small tt e)
small _ (array_type _ _ d _ _) = omega (arith, small tt d)
small _ (primitive_type _ _) = omega arith
small _ (reference_type d) = omega (arith, small tt d)
-- primary expressions
small _ (number _ _) = omega arith
small _ (long_number _ _) = omega arith
small _ (truth _ _) = omega arith
small _ (falsity _ _) = omega arith
small _ (null _ _) = omega arith
small _ (this _ _) = omega arith
small _ (result_value _ _) = omega arith
small _ (old_value _ _ _ _ _ d _) = omega (arith, small tt d)
-- parentheses make no node
small _ (parentheses _ _ _ d _) = omega (arith, small tt d)
small _ (variable _ _) = omega arith
small _ (call _ _ _ _ _ d _) = omega (arith, small few d)
small _ (super_call _ _ _ _ _ _ _ _ _ d _) = omega (arith, small few d)
small _ (creation _ _ _ _ d _ e _) = omega (arith, small tt d, small few e)
small _ (generic_creation _ _ _ _ _ _ d _ e _ _ f _) = omega (arith, small tt d, small tt e, small few f)
small _ (diamond_creation _ _ _ _ _ _ d _ _ _ e _) = omega (arith, small tt d, small few e)
small _ (primitive_array _ _ _ _ _ _ _ d _) = omega (arith, small tt d)
small _ (class_array _ _ _ _ d _ e _) = omega (arith, small tt d, small tt e)
small _ (field_access _ _ d _ _) = omega (arith, small tt d)
small _ (method_call _ _ _ _ d _ _ _ e _) = omega (arith, small tt d, small few e)
-- an array creation isn't followed by an index
small _ (array_access _ _ d _ _ e _) = omega (arith, small tt d, small tt e)
-- expressions with one operand
small _ (primary d) = omega (arith, small tt d)
small _ (stepped_behind _ d _) = omega (arith, small tt d)
small _ (postfix d) = omega (arith, small tt d)
small _ (complement _ _ d) = omega (arith, small tt d)
small _ (primitive_cast _ _ _ _ _ _ d) = omega (arith, small tt d)
small _ (reference_cast _ _ _ d _ e) = omega (arith, small tt d, small tt e)
small _ (unsigned d) = omega (arith, small tt d)
small _ (sign _ _ d) = omega (arith, small tt d)
small _ (stepped_before _ _ d) = omega (arith, small tt d)
-- binary expressions: nothing looser to the left of an operator, only tighter to its right
small _ (operand d) = omega (arith, small tt d)
small _ (binary _ d _ _ _ e _) = omega (arith, small tt d, small tt e)
small _ (instance_of _ d _ _ e) = omega (arith, small tt d, small tt e)
small _ (operation d) = omega (arith, small tt d)
small _ (choice _ _ d _ e _ f) = omega (arith, small tt d, small tt e, small tt f)
small _ (assign _ d _ e) = omega (arith, small tt d, small tt e)
small _ (compound _ d _ e) = omega (arith, small tt d, small tt e)
small _ (conditional d) = omega (arith, small tt d)
small _ (assignment d) = omega (arith, small tt d)
-- locals, and expressions that are statements
small _ (declarator _ _) = omega arith
small _ (initialised _ _ _ _ d) = omega (arith, small tt d)
small _ (local d e) = omega (arith, small tt d, small fewer e)
small _ (final_local _ _ d e) = omega (arith, small tt d, small fewer e)
small _ (assigns d) = omega (arith, small tt d)
small _ (steps _ _ d) = omega (arith, small tt d)
small _ (is_stepped _ d _) = omega (arith, small tt d)
small _ (invokes d) = omega (arith, small tt d)
small _ (evaluated d) = omega (arith, small tt d)
-- statements
small _ (local_statement _ d _) = omega (arith, small tt d)
small _ (statement d) = omega (arith, small tt d)
small _ (block _ _ _ d _) = omega (arith, small (refl, tt) d)
small _ (empty _ _) = omega arith
small _ (evaluate _ d _) = omega (arith, small tt d)
small _ (return _ _ _ d _) = omega (arith, small tt d)
small _ (break _ _ _ _) = omega arith
small _ (continue _ _ _ _) = omega arith
small _ (if_then _ _ _ _ _ d _ e) = omega (arith, small tt d, small tt e)
-- `else` belongs to the nearest `if`: the statement before it doesn't end in an `if` without one
small _ (if_else _ _ _ _ _ _ d _ e _ _ f) = omega (arith, small tt d, small tt e, small tt f)
small _ (while _ _ _ _ _ d _ e) = omega (arith, small tt d, small tt e)
small _ (do_while _ _ _ _ _ _ d _ _ e _ _) = omega (arith, small tt d, small tt e)
small _ (for _ _ _ _ _ _ _ d _ e _ f _ g) = omega (arith, small tt d, small tt e, small few f, small tt g)
small _ (throw _ _ _ d _) = omega (arith, small tt d)
small _ (try _ _ _ _ _ d _ e f) = omega (arith, small (refl, tt) d, small tt e, small (refl, tt) f)
small _ (caught _ d _) = omega (arith, small tt d)
small _ (final_caught _ _ _ d _) = omega (arith, small tt d)
small _ (catch _ _ _ _ _ _ _ d _ _ e _) = omega (arith, small tt d, small (refl, tt) e)
small _ (for_local d) = omega (arith, small tt d)
small _ (for_expressions d) = omega (arith, small fewer d)
-- members
small _ (parameter _ d _) = omega (arith, small tt d)
small _ (final_parameter _ _ _ d _) = omega (arith, small tt d)
small _ (void _ _) = omega arith
small _ (result d) = omega (arith, small tt d)
small _ (calls_super _ _ _ _ _ _ d _ _) = omega (arith, small few d)
small _ (nested m _ _ d) = omega (arith, modified m, small tt d)
small _ (field _ m _ d e _) = omega (arith, modified m, small tt d, small fewer e)
small _ (precondition _ _ _ _ _ d _) = omega (arith, small tt d)
small _ (postcondition _ _ _ _ _ d _) = omega (arith, small tt d)
small _ (exception _ _ _ _ _ _ _ _ d _ e _) = omega (arith, small tt d, small tt e)
small _ (named_exception _ _ _ _ _ _ _ _ _ d _ _ e _) = omega (arith, small tt d, small tt e)
small _ (method _ _ _ _ _ c m d _ _ e _ _ f _) = omega (arith, small (refl, tt) c, modified m, small tt d, small few e, small (refl, tt) f)
-- a constructor has its class's name, and no modifiers but access
small _ (constructor _ _ _ _ _ m _ _ _ d _ _ e f _) = omega (arith, modified m, small few d, small tt e, small (refl, tt) f)
small _ no_member = omega arith
small _ (skip_member _ _ d) = omega (arith, small tt d)
small _ (member d e) = omega (arith, small tt d, small tt e)
-- classes; members of a nested class are no classes
small _ not_extended = omega arith
small _ (extended _ _ d) = omega (arith, small tt d)
small _ (class _ _ _ _ _ _ d _ e _) = omega (arith, small tt d, small tt e)
small _ no_class = omega arith
small _ (skip_class _ _ d) = omega (arith, small tt d)
small _ (another m _ d e) = omega (arith, modified m, small tt d, small tt e)

dotted : {i r : List Lexeme} → Dotted i r → length r ≤ length i
dotted no_more = omega arith
dotted (dot _ _ _ _ d) = omega (arith, dotted d)

imports : {i r : List Lexeme} → Imports i r → length r ≤ length i
imports no_import = omega arith
imports (import _ _ _ _ _ _ _ _ _ _ _ _ _ _ _ _ d) = omega (arith, imports d)

heading : {i r : List Lexeme} → Heading i r → length r ≤ length i
heading (unpackaged d) = imports d
heading (packaged _ _ _ _ _ d _ e) = omega (arith, dotted d, imports e)

pub small_trees : SmallTrees
small_trees i t (j, h, d) = omega (arith, heading h, small tt d)
