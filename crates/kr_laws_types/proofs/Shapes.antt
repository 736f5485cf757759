-- Trees that the grammar derives have the shapes of their positions.
use Rattle.std.proofs.Common.{◌≡◌, ◌⊎◌, inl, inr, true, false, List, Option, Some, None, refl, sym, subst}
use Rattle.kr_lex.specs.Lexemes.{Lexeme}
use Rattle.kr_lex.specs.declared.kind.Kind.{Kind}
use Rattle.kr_lex.specs.declared.kind.Kind.TheVariants as kinds
use Rattle.kr_ast.specs.declared.node.Primitive.{Primitive}
use Rattle.kr_ast.specs.declared.node.Primitive.TheVariants as primitives
use Rattle.kr_ast.specs.declared.node.BinaryOperator.{BinaryOperator}
use Rattle.kr_ast.specs.Tree as trees
use Rattle.kr_ast.specs.Tree.{Tree}
use Rattle.kr_parse_grammar.specs.TokenMeanings.{primitive_of, compound_of}
use Rattle.kr_parse_grammar.specs.Grammar as grammar
use Rattle.kr_parse_grammar.specs.Grammar.{Der, Derives}
use Rattle.kr_types_meaning.specs.Laws.{IsClassName}
use Rattle.kr_laws_types.specs.DerivedExpressions.{IsValueKind, IsCreated, is_compound}
use Rattle.kr_laws_types.specs.Derivation.{IsExpression, AreExpressions, IsVariableType, IsResultType, IsDeclarator, AreDeclarators, IsCaught, IsSignalled, One, Catch, Catches, IsCode, IsStatement, AreStatements, AreParameters, IsContractLine, AreContractLines, MayCallSuper, MayExtend, IsMember, IsClass, AreClasses}

-- each item of a list
abbrev AllItems : (Tree → Type 0) → Tree → Type 0
AllItems P trees.Nil = Unit {0}
AllItems P (trees.Cons a b) = P a × AllItems P b
AllItems P t = ⊥

abbrev IsParameter : Tree → Type 0
IsParameter (trees.Parameter p t n) = IsVariableType t
IsParameter t = ⊥

abbrev IsSuperCall : Tree → Type 0
IsSuperCall (trees.ConstructorCall p es) = AreExpressions es
IsSuperCall t = ⊥

-- the shape of what a class of the grammar derives
abbrev Has : grammar.Class → Tree → Type 0
Has grammar.ClassName t = IsClassName t
Has grammar.ReferenceType t = IsVariableType t
Has grammar.AnyType t = IsVariableType t
Has (grammar.Primary f) t = IsExpression t
Has grammar.Postfix t = IsExpression t
Has grammar.Unsigned t = IsExpression t
Has grammar.Unary t = IsExpression t
Has (grammar.Operation n) t = IsExpression t
Has grammar.Conditional t = IsExpression t
Has grammar.Assignment t = IsExpression t
Has grammar.Expression t = IsExpression t
Has grammar.Declarator t = IsDeclarator t
Has grammar.Local t = IsCode (One true) t
Has grammar.StatementExpression t = IsExpression t
Has grammar.Evaluated t = IsStatement t
Has grammar.BlockStatement t = IsCode (One true) t
Has grammar.Statement t = IsStatement t
Has grammar.ForInitial t = AreStatements t
Has grammar.Caught t = IsCaught t
Has grammar.Catch t = IsCode Catch t
Has grammar.Parameter t = IsParameter t
Has grammar.ResultType t = IsResultType t
Has grammar.ConstructorCall t = IsSuperCall t
Has grammar.Contract t = IsContractLine t
Has grammar.Extended t = MayExtend t
Has (grammar.ClassDeclaration n) t = IsClass t
Has (grammar.Member o n) t = IsMember false t
Has (grammar.Members o n) t = IsMember true t
Has grammar.Classes t = AreClasses t
Has (grammar.Maybe c) t = (t ≡ trees.Nil) ⊎ Has c t
Has (grammar.Many c) t = AllItems (Has c) t
Has (grammar.Several c) t = AllItems (Has c) t

-- ---- from one shape to another

declares_more : (t : Tree) → IsStatement t → IsCode (One true) t
declares_more (trees.Empty p) h = h
declares_more (trees.Block p ts) h = h
declares_more (trees.Local p t ds) h = absurd (cc (h.0))
declares_more (trees.ExpressionStatement p e) h = h
declares_more (trees.Return p e) h = h
declares_more (trees.Break p) h = h
declares_more (trees.Continue p) h = h
declares_more (trees.IfThen p c a) h = h
declares_more (trees.IfElse p c a b) h = h
declares_more (trees.While p c a) h = h
declares_more (trees.Do p a c) h = h
declares_more (trees.For p i c u a) h = h
declares_more (trees.Throw p e) h = h
declares_more (trees.Try p b cs) h = h
declares_more t h = absurd h

expressions : (t : Tree) → AllItems IsExpression t → AreExpressions t
expressions trees.Nil h = tt
expressions (trees.Cons a b) h = (h.0, expressions b h.1)
expressions t h = absurd h

arguments : (t : Tree) → (t ≡ trees.Nil) ⊎ AllItems IsExpression t → AreExpressions t
arguments t (inl e) = subst AreExpressions (sym e) tt
arguments t (inr h) = expressions t h

statements : (t : Tree) → AllItems (IsCode (One true)) t → AreStatements t
statements trees.Nil h = tt
statements (trees.Cons a b) h = (h.0, statements b h.1)
statements t h = absurd h

catches : (t : Tree) → AllItems (IsCode Catch) t → IsCode Catches t
catches trees.Nil h = tt
catches (trees.Cons a b) h = (h.0, catches b h.1)
catches t h = absurd h

-- a class's name without one of the object
signalled : (t : Tree) → IsClassName t → IsSignalled t
signalled (trees.NamedType p n) h = tt
signalled (trees.QualifiedType p o n) h = tt
signalled t h = absurd h

evaluations : (t : Tree) → AllItems IsStatement t → AreStatements t
evaluations trees.Nil h = tt
evaluations (trees.Cons a b) h = (declares_more a h.0, evaluations b h.1)
evaluations t h = absurd h

initial : (t : Tree) → (t ≡ trees.Nil) ⊎ AreStatements t → AreStatements t
initial t (inl e) = subst AreStatements (sym e) tt
initial t (inr h) = h

declarators : (t : Tree) → AllItems IsDeclarator t → AreDeclarators t
declarators trees.Nil h = tt
declarators (trees.Cons a b) h = (h.0, declarators b h.1)
declarators t h = absurd h

parameters : (t : Tree) → AllItems IsParameter t → AreParameters t
parameters trees.Nil h = tt
parameters (trees.Cons (trees.Parameter p t n) b) h = (h.0, parameters b h.1)
parameters (trees.Cons t b) h = absurd h.0
parameters t h = absurd h

maybe_parameters : (t : Tree) → (t ≡ trees.Nil) ⊎ AllItems IsParameter t → AreParameters t
maybe_parameters t (inl e) = subst AreParameters (sym e) tt
maybe_parameters t (inr h) = parameters t h

contract_lines : (t : Tree) → AllItems IsContractLine t → AreContractLines t
contract_lines trees.Nil h = tt
contract_lines (trees.Cons a b) h = (h.0, contract_lines b h.1)
contract_lines t h = absurd h

super_call : (t : Tree) → (t ≡ trees.Nil) ⊎ IsSuperCall t → MayCallSuper t
super_call trees.Nil h = tt
super_call (trees.ConstructorCall p es) (inl e) = absurd (cc (e))
super_call (trees.ConstructorCall p es) (inr h) = h
super_call t (inl e) = subst MayCallSuper (sym e) tt
super_call t (inr h) = absurd h

extends_name : (t : Tree) → IsClassName t → MayExtend t
extends_name (trees.NamedType p n) h = tt
extends_name (trees.QualifiedType p o n) h = tt
extends_name t h = absurd h

name_is_type : (t : Tree) → IsClassName t → IsVariableType t
name_is_type (trees.NamedType p n) h = tt
name_is_type (trees.QualifiedType p o n) h = tt
name_is_type t h = absurd h

-- `void` is no type of a variable
value_kind : (k : Kind) (p : Primitive) → primitive_of k ≡ Some p → IsValueKind p
value_kind k primitives.Int e = tt
value_kind k primitives.Long e = tt
value_kind k primitives.Boolean e = tt
value_kind k primitives.Void e = absurd (none k e)
  where
    none : (k : Kind) → primitive_of k ≡ Some primitives.Void → ⊥
    none kinds.Int e = cc (e)
    none kinds.Long e = cc (e)
    none kinds.Boolean e = cc (e)
    none k e = cc (e)

-- nor is a comparison part of an assignment
abbrev IsCompound : Option BinaryOperator → Type 0
IsCompound None = Unit {0}
IsCompound (Some o) = is_compound o ≡ true

all_compound : (k : Kind) → IsCompound (compound_of k)
all_compound kinds.PlusEqual = refl
all_compound kinds.MinusEqual = refl
all_compound kinds.StarEqual = refl
all_compound kinds.SlashEqual = refl
all_compound kinds.PercentEqual = refl
all_compound kinds.AmpersandEqual = refl
all_compound kinds.BarEqual = refl
all_compound kinds.CaretEqual = refl
all_compound kinds.LessLessEqual = refl
all_compound kinds.GreaterGreaterEqual = refl
all_compound kinds.GreaterGreaterGreaterEqual = refl
all_compound k = tt

compound_kind : (k : Kind) (o : BinaryOperator) → compound_of k ≡ Some o → is_compound o ≡ true
compound_kind k o e = subst IsCompound e (all_compound k)

type_is_created : (t : Tree) → IsVariableType t → IsCreated t
type_is_created (trees.DiamondType p h) x = absurd x
type_is_created (trees.PrimitiveType p k) x = x
type_is_created (trees.NamedType p n) x = x
type_is_created (trees.QualifiedType p o n) x = x
type_is_created (trees.GenericType p a b) x = x
type_is_created (trees.ArrayType p e) x = x
type_is_created t x = absurd x

name_is_created : (t : Tree) → IsClassName t → IsCreated t
name_is_created t h = type_is_created t (name_is_type t h)

result_type : (t : Tree) → IsVariableType t → IsResultType t
result_type (trees.PrimitiveType p k) h = tt
result_type (trees.NamedType p n) h = h
result_type (trees.QualifiedType p o n) h = h
result_type (trees.GenericType p a b) h = h
result_type (trees.ArrayType p e) h = h
result_type t h = absurd h

class_is_member : (t : Tree) → IsClass t → IsMember false t
class_is_member (trees.Class p n e ms) h = h
class_is_member t h = absurd h

-- ---- the derivations

has : {c : grammar.Class} {i r : List Lexeme} {t : Tree} → Der c i t r → Has c t
has grammar.absent = inl refl
has (grammar.present d) = inr (has d)
has grammar.end = tt
has (grammar.next d e) = (has d, has e)
has (grammar.last d) = (has d, tt)
has (grammar.comma a d k e) = (has d, has e)
has (grammar.simple_name a k) = tt
has (grammar.qualified_name a b c k l m) = tt
has (grammar.class_type {t = t} d) = name_is_type t (has d)
has (grammar.generic_type a b d k e l) = (has d, has e)
has (grammar.array_type a b d k l) = has d
has (grammar.primitive_type {k = k} a e) = value_kind a.kind k e
has (grammar.reference_type d) = has d
has (grammar.number a k) = tt
has (grammar.long_number a k) = tt
has (grammar.truth a k) = tt
has (grammar.falsity a k) = tt
has (grammar.null a k) = tt
has (grammar.this a k) = tt
has (grammar.result_value a k) = tt
has (grammar.old_value a b c k l d m) = has d
has (grammar.parentheses a b k d l) = has d
has (grammar.variable a k) = tt
has (grammar.call {t = t} a b c k l d m) = arguments t (has d)
has (grammar.super_call {t = t} s x a b c k l m n d o) = arguments t (has d)
has (grammar.creation {t = t} {u = u} a b c k d l e m) = (name_is_created t (has d), arguments u (has e))
has (grammar.generic_creation {t = t} {u = u} {v = v} a b c d e k x l y m n z o) = ((has x, has y), arguments v (has z))
has (grammar.diamond_creation {v = v} a b c d e k x l m n z o) = (has x, arguments v (has z))
has (grammar.primitive_array {k = j} a p b c k l m d n) = (value_kind p.kind j l, has d)
has (grammar.class_array {t = t} a b c k d l e m) = (name_is_type t (has d), has e)
has (grammar.field_access a b d k l) = has d
has (grammar.method_call {u = u} a b c d x k l m y n) = (has x, arguments u (has y))
has (grammar.array_access a b x f k y l) = (has x, has y)
has (grammar.primary d) = has d
has (grammar.stepped_behind a d k) = has d
has (grammar.postfix d) = has d
has (grammar.complement a k d) = has d
has (grammar.primitive_cast {k = j} a p b k l m d) = (value_kind p.kind j l, has d)
has (grammar.reference_cast {t = t} a b k d l e) = (has d, has e)
has (grammar.unsigned d) = has d
has (grammar.sign a k d) = has d
has (grammar.stepped_before a k d) = has d
has (grammar.operand d) = has d
has (grammar.binary a x k l m y n) = (has x, has y)
has (grammar.instance_of {u = u} a x k l y) = (has x, has y)
has (grammar.operation d) = has d
has (grammar.choice a b x k y l z) = (has x, has y, has z)
has (grammar.assign a x k y) = (has x, has y)
has (grammar.compound {o = o} a x k y) = (compound_kind a.kind o k, has x, has y)
has (grammar.conditional d) = has d
has (grammar.assignment d) = has d
has (grammar.declarator a k) = inl refl
has (grammar.initialised a b k l d) = inr (has d)
has (grammar.local {u = u} d e) = (refl, has d, declarators u (has e))
has (grammar.final_local {u = u} a k d e) = (refl, has d, declarators u (has e))
has (grammar.assigns d) = has d
has (grammar.steps a k d) = has d
has (grammar.is_stepped a d k) = has d
has (grammar.invokes d) = has d
has (grammar.evaluated d) = has d
has (grammar.local_statement a d k) = has d
has (grammar.statement {t = t} d) = declares_more t (has d)
has (grammar.block {t = t} a b k d l) = statements t (has d)
has (grammar.empty a k) = tt
has (grammar.evaluate a d k) = has d
has (grammar.return a b k d l) = has d
has (grammar.break a b k l) = tt
has (grammar.continue a b k l) = tt
has (grammar.if_then a b d k l x m y) = (has x, has y)
has (grammar.if_else a b d e k l x m y n o z) = (has x, has y, has z)
has (grammar.while a b d k l x m y) = (has x, has y)
has (grammar.do_while a b d e g k x l m y n o) = (has x, has y)
has (grammar.for {k = k} {u = u} a b d e g p q w l x m y n z) = (initial k (has w), has x, arguments u (has y), has z)
has (grammar.throw a b k d l) = has d
has (grammar.try {t = t} {u = u} a b d k l x m y z) = (tt, statements t (has x), (has y, catches u (has z)))
has (grammar.caught n d k) = has d
has (grammar.final_caught a n k d l) = has d
has (grammar.catch {u = u} a b d e g k l x m n y o) = (has x, statements u (has y))
has (grammar.for_local d) = (has d, tt)
has (grammar.for_expressions {t = t} d) = evaluations t (has d)
has (grammar.parameter n d k) = has d
has (grammar.final_parameter a n k d l) = has d
has (grammar.void a k) = tt
has (grammar.result {t = t} d) = result_type t (has d)
has (grammar.calls_super {t = t} a b c d k l x m n) = arguments t (has x)
has (grammar.nested {t = t} f k l d) = class_is_member t (has d)
has (grammar.field {u = u} a f k d e l) = (has d, declarators u (has e))
has (grammar.precondition a b c k l d m) = has d
has (grammar.postcondition a b c k l d m) = has d
has (grammar.exception {t = t} a b c d e k l m x n y o) = (signalled t (has x), has y)
has (grammar.named_exception a b c n d e k l m x o q y w) = (has x, has y)
has (grammar.method {v = v} {u = u} {s = s} a b c d e x f y k l z m n w o) = ((has y, maybe_parameters u (has z), contract_lines v (has x)), statements s (has w))
has (grammar.constructor {u = u} {s = s} {t = t} a b c d e f k n l x m o y z p) = (maybe_parameters u (has x), super_call s (has y), statements t (has z))
has grammar.no_member = tt
has (grammar.skip_member a k d) = has d
has (grammar.member d e) = (has d, has e)
has grammar.not_extended = tt
has (grammar.extended {t = t} a k d) = extends_name t (has d)
has (grammar.class a b c d k l x m y n) = (has x, has y)
has grammar.no_class = tt
has (grammar.skip_class a k d) = has d
has (grammar.another f k d e) = (has d, has e)

pub file_shape : (i : List Lexeme) (t : Tree) → Derives i t → AreClasses t
file_shape i t d = has d.2
