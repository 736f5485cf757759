-- The declarators and `\old`s of a tree weigh no more than the tokens that spell it.
use Rattle.std.proofs.Common.{◌≡◌, ℕ, ◌+◌, ◌≤◌, List, [], ◌∷◌, ◌++◌, ap, arith}
use Rattle.kr_base.specs.declared.place.Place.{Place}
use Rattle.kr_lex.specs.Lexemes.{Lexeme}
use Rattle.kr_lex.specs.declared.kind.Kind.{Kind}
use Rattle.kr_lex.specs.declared.kind.Kind.TheVariants as kinds
use Rattle.kr_ast.specs.Tree as trees
use Rattle.kr_ast.specs.Tree.{Tree}
use Rattle.kr_classes_table.specs.Nodes.{nodes}
use Rattle.kr_parse_grammar.specs.declared.value.Modifiers.{Modifiers}
use Rattle.kr_parse_grammar.specs.Grammar.{Class, at, Modified, nothing, access, static, final, overriding, Der, absent, present, end, next, last, comma, simple_name, qualified_name, class_type, generic_type, array_type, primitive_type, reference_type, number, long_number, truth, falsity, null, this, result_value, old_value, parentheses, variable, call, super_call, creation, generic_creation, diamond_creation, primitive_array, class_array, field_access, method_call, array_access, primary, stepped_behind, postfix, complement, primitive_cast, reference_cast, unsigned, sign, stepped_before, operand, binary, instance_of, operation, choice, assign, compound, conditional, assignment, declarator, initialised, local, final_local, assigns, steps, is_stepped, invokes, evaluated, local_statement, statement, block, empty, evaluate, return, break, continue, if_then, if_else, while, do_while, for, throw, try, caught, final_caught, catch, for_local, for_expressions, parameter, final_parameter, void, result, calls_super, nested, field, precondition, postcondition, exception, named_exception, method, constructor, no_member, skip_member, member, not_extended, extended, class, no_class, skip_class, another, Dotted, no_more, dot, Imports, no_import, import, Heading, unpackaged, packaged, Derives}

module _ (declared : Place → List ℕ → ℕ) (held : Place → ℕ) where
  -- ---- nodes

  abbrev pub own : Tree → ℕ
  own (trees.Declarator p n e) = declared p n
  own (trees.Old p e) = held p
  own t = 0

  abbrev pub weight : List Tree → ℕ
  weight [] = 0
  weight (t ∷ ts) = own t + weight ts

  abbrev pub W : Tree → ℕ
  W t = weight (nodes t)

  pub append : (xs ys : List Tree) → weight (xs ++ ys) ≡ weight xs + weight ys
  append [] ys = omega arith
  append (x ∷ xs) ys = omega (arith, append xs ys)

  two : (a b : Tree) → weight (nodes a ++ nodes b) ≡ W a + W b
  two a b = append (nodes a) (nodes b)

  three : (a b c : Tree) → weight (nodes a ++ nodes b ++ nodes c) ≡ W a + W b + W c
  three a b c = omega (arith, append (nodes a ++ nodes b) (nodes c), two a b)

  four : (a b c d : Tree) → weight (nodes a ++ nodes b ++ nodes c ++ nodes d) ≡ W a + W b + W c + W d
  four a b c d = omega (arith, append (nodes a ++ nodes b ++ nodes c) (nodes d), three a b c)

  -- ---- tokens

  abbrev pub of_kind : Kind → Lexeme → ℕ
  of_kind kinds.Identifier a = declared a.place a.text
  of_kind kinds.Old a = held a.place
  of_kind k a = 0

  abbrev pub token : Lexeme → ℕ
  token a = of_kind a.kind a

  abbrev pub T : List Lexeme → ℕ
  T [] = 0
  T (a ∷ i) = token a + T i

  name_weighs : (a : Lexeme) → a.kind ≡ kinds.Identifier → token a ≡ declared a.place a.text
  name_weighs a e = ap (λ (k : Kind). of_kind k a) e

  old_weighs : (a : Lexeme) → a.kind ≡ kinds.Old → token a ≡ held a.place
  old_weighs a e = ap (λ (k : Kind). of_kind k a) e

  -- ---- derived trees

  modified : {i r : List Lexeme} {f : Modifiers} → Modified i f r → T r ≤ T i
  modified nothing = omega arith
  modified (access _ m _) = omega (arith, modified m)
  modified (static _ m _) = omega (arith, modified m)
  modified (final _ m _) = omega (arith, modified m)
  modified (overriding _ _ m _ _ _) = omega (arith, modified m)

  pub less : {c : Class} {i r : List Lexeme} {t : Tree} → Der c i t r → W t + T r ≤ T i
  less absent = omega arith
  less (present d) = less d
  less end = omega arith
  less (next {t = t} {u = u} d e) = omega (arith, less d, less e, two t u)
  less (last {t = t} d) = omega (arith, less d, two t trees.Nil)
  less (comma {t = t} {u = u} _ d _ e) = omega (arith, less d, less e, two t u)
  -- types
  less (simple_name _ _) = omega arith
  less (qualified_name _ _ _ _ _ _) = omega arith
  less (class_type d) = less d
  less (generic_type {t = t} {u = u} _ _ d _ e _) = omega (arith, less d, less e, two t u)
  less (array_type _ _ d _ _) = omega (arith, less d)
  less (primitive_type _ _) = omega arith
  less (reference_type d) = less d
  -- primary expressions
  less (number _ _) = omega arith
  less (long_number _ _) = omega arith
  less (truth _ _) = omega arith
  less (falsity _ _) = omega arith
  less (null _ _) = omega arith
  less (this _ _) = omega arith
  less (result_value _ _) = omega arith
  less (old_value a _ _ k _ d _) = omega (arith, old_weighs a k, less d)
  less (parentheses _ _ _ d _) = omega (arith, less d)
  less (variable _ _) = omega arith
  less (call _ _ _ _ _ d _) = omega (arith, less d)
  less (super_call _ _ _ _ _ _ _ _ _ d _) = omega (arith, less d)
  less (creation {t = t} {u = u} _ _ _ _ d _ e _) = omega (arith, less d, less e, two t u)
  less (generic_creation {i = i} {t = t} {u = u} {v = v} _ _ _ _ _ _ d _ e _ _ f _) = omega (arith, less d, less e, less f, two (trees.GenericType (at i) t u) v, two t u)
  less (diamond_creation {i = i} {t = t} {v = v} _ _ _ _ _ _ d _ _ _ e _) = omega (arith, less d, less e, two (trees.DiamondType (at i) t) v)
  less (primitive_array {k = k} {u = u} _ p _ _ _ _ _ d _) = omega (arith, less d, two (trees.PrimitiveType p.place k) u)
  less (class_array {t = t} {u = u} _ _ _ _ d _ e _) = omega (arith, less d, less e, two t u)
  less (field_access _ _ d _ _) = omega (arith, less d)
  less (method_call {t = t} {u = u} _ _ _ _ d _ _ _ e _) = omega (arith, less d, less e, two t u)
  less (array_access {t = t} {u = u} _ _ d _ _ e _) = omega (arith, less d, less e, two t u)
  -- expressions with one operand
  less (primary d) = less d
  less (stepped_behind _ d _) = omega (arith, less d)
  less (postfix d) = less d
  less (complement _ _ d) = omega (arith, less d)
  less (primitive_cast {k = k} {t = t} _ p _ _ _ _ d) = omega (arith, less d, two (trees.PrimitiveType p.place k) t)
  less (reference_cast {t = t} {u = u} _ _ _ d _ e) = omega (arith, less d, less e, two t u)
  less (unsigned d) = less d
  less (sign _ _ d) = omega (arith, less d)
  less (stepped_before _ _ d) = omega (arith, less d)
  -- expressions with several operands
  less (operand d) = less d
  less (binary {t = t} {u = u} _ d _ _ _ e _) = omega (arith, less d, less e, two t u)
  less (instance_of {t = t} {u = u} _ d _ _ e) = omega (arith, less d, less e, two t u)
  less (operation d) = less d
  less (choice {c = c} {t = t} {u = u} _ _ d _ e _ f) = omega (arith, less d, less e, less f, three c t u)
  less (assign {t = t} {u = u} _ d _ e) = omega (arith, less d, less e, two t u)
  less (compound {t = t} {u = u} _ d _ e) = omega (arith, less d, less e, two t u)
  less (conditional d) = less d
  less (assignment d) = less d
  -- locals, and expressions that are statements
  less (declarator a k) = omega (arith, name_weighs a k)
  less (initialised a _ k _ d) = omega (arith, name_weighs a k, less d)
  less (local {t = t} {u = u} d e) = omega (arith, less d, less e, two t u)
  less (final_local {t = t} {u = u} _ _ d e) = omega (arith, less d, less e, two t u)
  less (assigns d) = less d
  less (steps _ _ d) = omega (arith, less d)
  less (is_stepped _ d _) = omega (arith, less d)
  less (invokes d) = less d
  less (evaluated d) = omega (arith, less d)
  -- statements
  less (local_statement _ d _) = omega (arith, less d)
  less (statement d) = less d
  less (block _ _ _ d _) = omega (arith, less d)
  less (empty _ _) = omega arith
  less (evaluate _ d _) = omega (arith, less d)
  less (return _ _ _ d _) = omega (arith, less d)
  less (break _ _ _ _) = omega arith
  less (continue _ _ _ _) = omega arith
  less (if_then {c = c} {s = s} _ _ _ _ _ d _ e) = omega (arith, less d, less e, two c s)
  less (if_else {c = c} {s = s} {u = u} _ _ _ _ _ _ d _ e _ _ f) = omega (arith, less d, less e, less f, three c s u)
  less (while {c = c} {s = s} _ _ _ _ _ d _ e) = omega (arith, less d, less e, two c s)
  less (do_while {c = c} {s = s} _ _ _ _ _ _ d _ _ e _ _) = omega (arith, less d, less e, two s c)
  less (for {k = k} {c = c} {u = u} {s = s} _ _ _ _ _ _ _ d _ e _ f _ g) = omega (arith, less d, less e, less f, less g, four k c u s)
  less (throw _ _ _ d _) = omega (arith, less d)
  less (try {t = t} {c = c} {u = u} _ b _ _ _ d _ e f) = omega (arith, less d, less e, less f, two (trees.Block b.place t) (trees.Cons c u), two c u)
  less (caught _ d _) = omega (arith, less d)
  less (final_caught _ _ _ d _) = omega (arith, less d)
  less (catch {t = t} {u = u} _ _ _ e _ _ _ d _ _ f _) = omega (arith, less d, less f, two t (trees.Block e.place u))
  less (for_local {t = t} d) = omega (arith, less d, two t trees.Nil)
  less (for_expressions d) = less d
  -- members
  less (parameter _ d _) = omega (arith, less d)
  less (final_parameter _ _ _ d _) = omega (arith, less d)
  less (void _ _) = omega arith
  less (result d) = less d
  less (calls_super _ _ _ _ _ _ d _ _) = omega (arith, less d)
  less (nested m _ _ d) = omega (arith, modified m, less d)
  less (field {t = t} {u = u} _ m _ d e _) = omega (arith, modified m, less d, less e, two t u)
  less (precondition _ _ _ _ _ d _) = omega (arith, less d)
  less (postcondition _ _ _ _ _ d _) = omega (arith, less d)
  less (exception {t = t} {u = u} _ _ _ _ _ _ _ _ d _ e _) = omega (arith, less d, less e, two t u)
  less (named_exception {t = t} {u = u} _ _ _ n _ _ _ _ _ d _ _ e _) = omega (arith, less d, less e, two (trees.Parameter n.place t n.text) u)
  less (method {v = v} {t = t} {u = u} {s = s} a _ _ _ _ c m d _ _ e _ _ f _) = omega (arith, less c, modified m, less d, less e, less f, two (trees.Signature a.place t u v) s, three t u v)
  less (constructor {u = u} {s = s} {t = t} _ _ _ _ _ m _ _ _ d _ _ e f _) = omega (arith, modified m, less d, less e, less f, three u s t)
  less no_member = omega arith
  less (skip_member _ _ d) = omega (arith, less d)
  less (member {t = t} {u = u} d e) = omega (arith, less d, less e, two t u)
  -- classes
  less not_extended = omega arith
  less (extended _ _ d) = omega (arith, less d)
  less (class {t = t} {u = u} _ _ _ _ _ _ d _ e _) = omega (arith, less d, less e, two t u)
  less no_class = omega arith
  less (skip_class _ _ d) = omega (arith, less d)
  less (another {t = t} {u = u} m _ d e) = omega (arith, modified m, less d, less e, two t u)

  dotted : {i r : List Lexeme} → Dotted i r → T r ≤ T i
  dotted no_more = omega arith
  dotted (dot _ _ _ _ d) = omega (arith, dotted d)

  imports : {i r : List Lexeme} → Imports i r → T r ≤ T i
  imports no_import = omega arith
  imports (import _ _ _ _ _ _ _ _ _ _ _ _ _ _ _ _ d) = omega (arith, imports d)

  heading : {i r : List Lexeme} → Heading i r → T r ≤ T i
  heading (unpackaged d) = imports d
  heading (packaged _ _ _ _ _ d _ e) = omega (arith, dotted d, imports e)

  -- a whole file
  pub file_less : (i : List Lexeme) (t : Tree) → Derives i t → W t ≤ T i
  file_less i t d = omega (arith, heading d.1, less d.2)
