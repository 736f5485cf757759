-- Between crates: when code is that of a program: each node is the resolved form of a tree in its scope, and the tables say what
-- the program does.
use Rattle.std.specs.Prelude.{◌≡◌, ℕ, Bool, true, false, List, [], ◌∷◌, length, map, codes, bytes_eq, nat_eq, Option, Some, None, option_and_then, pos, All, IsSome, flat_map}
use Rattle.kr_base.specs.declared.place.Place.{Place}
use Rattle.kr_ast.specs.declared.node.UnaryOperator.{UnaryOperator}
use Rattle.kr_ast.specs.declared.node.UnaryOperator.TheVariants.{Plus}
use Rattle.kr_ast.specs.declared.node.StepOperator.{StepOperator}
use Rattle.kr_ast.specs.declared.node.BinaryOperator.{BinaryOperator}
use Rattle.kr_ast.specs.declared.node.BinaryOperator.TheVariants as operators
use Rattle.kr_ast.specs.Tree as trees
use Rattle.kr_ast.specs.Tree.{Tree}
use Rattle.kr_value.specs.declared.value.Value.{Value}
use Rattle.kr_value.specs.declared.value.Value.TheVariants.{Int, Bool as Truth, Null}
use Rattle.kr_value.specs.declared.object.Class.{Class}
use Rattle.kr_classes_table.specs.Types.{JavaType, NumberType, ClassType, ArrayType, SetType, ListType, is_void}
use Rattle.kr_classes_table.specs.Table as tables
use Rattle.kr_classes_table.specs.Table.{Field, Method, items, fields_of, line_of, method_named}
use Rattle.kr_classes_table.specs.Arrays.{array_number}
use Rattle.kr_classes_table.specs.Constants.{constant_of, known_value as constant_value}
use Rattle.kr_classes_table.specs.Numbers.{Width, Bits32, Bits64, wrap}
use Rattle.kr_types_meaning.specs.Scopes.{Scope, LocalName, FieldName, NoName, written, caught_type, bind_local, after, meant, class_before, static_only, method_meant}
use Rattle.kr_types_meaning.specs.Promotion.{is_number}
use Rattle.kr_mean.specs.Program.{Program, default_of, is_of_type, overriding, class_scope, method_scope, constructor_scope, constructor_of, declared_fields, field_position, spot_of_field}
use Rattle.kr_mean.specs.Meaning.{Target, LocalTarget, OwnField, FieldOf, ElementOf, NoTarget, target_of, typed_method, super_method, is_primitive, declaring_locals, width_at, width_of, operand_width}
use Rattle.kr_mean.specs.Operators.{binary_operation, compound_operation, unary_operation, step_operation}
use Rattle.kr_mean.specs.Code as meaning
use Rattle.kr_code.specs.declared.code.Code.{Code}
use Rattle.kr_code.specs.declared.code.MethodCode.{MethodCode}
use Rattle.kr_code.specs.declared.code.ClassCode.{ClassCode}
use Rattle.kr_code.specs.declared.code.Constructor.{Constructor}
use Rattle.kr_code.specs.declared.code.Initialiser.{Initialiser}
use Rattle.kr_code.specs.declared.expression.Nodes.{Nodes}
use Rattle.kr_code.specs.declared.expression.Callee.TheVariants as callees
use Rattle.kr_code.specs.declared.expression.Variable.{Variable}
use Rattle.kr_code.specs.declared.expression.Variable.TheVariants as variables
use Rattle.kr_code.specs.declared.expression.Expression.{Expression}
use Rattle.kr_code.specs.declared.expression.Expression.TheVariants as expressions
use Rattle.kr_code.specs.declared.statement.Statement.{Statement}
use Rattle.kr_code.specs.declared.statement.Statement.TheVariants as statements
use Rattle.kr_code.specs.declared.statement.Declarator.{Declarator}
use Rattle.kr_code.specs.declared.statement.Catch.{Catch}
use Rattle.kr_mean.specs.declared.kind.Kind.{Kind}
use Rattle.kr_mean.specs.Thrown.{class_of_kind}
use Rattle.kr_code.specs.Collections.{call_named}
use Rattle.kr_code.specs.Tables.{node_at, expression_of, statement_of, declarator_of, catch_of, initialiser_of, class_in_kind, defaults_in, listed, values_in, method_at, class_at, position_in, spot_in, method_in, is_instance}

-- The meaning of numbers: names, fields that are stored, methods, types; and of each node the tree with its scope.
pub record Numbering : Type 0 where
  pub name : ℕ → List ℕ
  pub field : ℕ → Field
  pub method : ℕ → Method
  pub type : ℕ → JavaType
  pub origin : ℕ → meaning.Node

-- the node is that of the tree
abbrev pub IsPart : Numbering → Scope → Tree → ℕ → Type 0
IsPart n s t i = n.origin i ≡ record { scope = s; tree = t }

-- nodes for trees in order, each in the scope that those before it leave
abbrev pub AreParts : Numbering → Scope → List Tree → List ℕ → Type 0
AreParts n s [] [] = Unit {0}
AreParts n s (t ∷ ts) (i ∷ is) = IsPart n s t i × AreParts n (after s t) ts is
AreParts n s ts is = ⊥

-- a part that may be absent
abbrev pub IsPartial : Numbering → Scope → Tree → Option ℕ → Type 0
IsPartial n s trees.Nil None = Unit {0}
IsPartial n s trees.Nil (Some i) = ⊥
IsPartial n s t None = ⊥
IsPartial n s t (Some i) = IsPart n s t i

-- ---- variables

pub data IsVariable (n : Numbering) (s : Scope) : Target → Variable → Type 0 where
  unknown : IsVariable n s NoTarget variables.Unknown
  local : (k : ℕ) → IsVariable n s (LocalTarget k) (variables.Local k)
  own : (f : Field) (name field : ℕ) → n.name name ≡ f.name → n.field field ≡ f → IsVariable n s (OwnField f) (variables.Own name field)
  of : (e : Tree) (f : Field) (i name field : ℕ) → IsPart n s e i → n.name name ≡ f.name → n.field field ≡ f → IsVariable n s (FieldOf e f) (variables.Of i name field)
  element : (a b : Tree) (t : JavaType) (i j k : ℕ) → IsPart n s a i → IsPart n s b j → n.type k ≡ ArrayType t → IsVariable n s (ElementOf a b t) (variables.Element i j k)

-- ---- expressions

abbrev pub is_junction : BinaryOperator → Bool
is_junction operators.And = true
is_junction operators.Or = true
is_junction o = false

-- no type whose objects can be made
abbrev pub is_uncreatable : JavaType → Bool
is_uncreatable (ClassType c) = false
is_uncreatable (SetType t) = false
is_uncreatable (ListType t) = false
is_uncreatable t = true

-- nodes that are no expressions
abbrev pub is_no_expression : Tree → Bool
is_no_expression (trees.Number p k) = false
is_no_expression (trees.LongNumber p k) = false
is_no_expression (trees.Truth p b) = false
is_no_expression (trees.Null p) = false
is_no_expression (trees.This p) = false
is_no_expression (trees.Variable p x) = false
is_no_expression (trees.FieldAccess p e x) = false
is_no_expression (trees.ArrayAccess p a i) = false
is_no_expression (trees.Call p x es) = false
is_no_expression (trees.MethodCall p e x es) = false
is_no_expression (trees.SuperCall p x es) = false
is_no_expression (trees.ObjectCreation p t es) = false
is_no_expression (trees.ArrayCreation p t e) = false
is_no_expression (trees.Unary p o e) = false
is_no_expression (trees.Step p o e) = false
is_no_expression (trees.Binary p o a b) = false
is_no_expression (trees.InstanceOf p e t) = false
is_no_expression (trees.Conditional p c a b) = false
is_no_expression (trees.Cast p t e) = false
is_no_expression (trees.Assignment p a e) = false
is_no_expression (trees.CompoundAssignment p o a e) = false
is_no_expression (trees.Result p) = false
is_no_expression (trees.Old p e) = false
is_no_expression t = true

-- the constant that a name means, where it has a value
abbrev pub constant_meant : Scope → Option Field → Option Value
constant_meant s f = constant_value s.values f

pub record IsMethod (code : Code) (n : Numbering) (m : Method) (k : ℕ) : Type 0 where
  pub is : n.method k ≡ m
  pub body : MethodCode
  pub there : method_at code k ≡ Some body

-- the resolved form of an expression
pub data IsExpression (program : Program) (code : Code) (n : Numbering) (s : Scope) : Tree → Expression → Type 0 where
  number : (p : Place) (k : ℕ) → IsExpression program code n s (trees.Number p k) (expressions.Literal (Int (wrap Bits32 (pos k))))
  long_number : (p : Place) (k : ℕ) → IsExpression program code n s (trees.LongNumber p k) (expressions.Literal (Int (wrap Bits64 (pos k))))
  truth : (p : Place) (b : Bool) → IsExpression program code n s (trees.Truth p b) (expressions.Literal (Truth b))
  null : (p : Place) → IsExpression program code n s (trees.Null p) (expressions.Literal Null)
  this : (p : Place) → IsExpression program code n s (trees.This p) expressions.This
  -- names
  local : (p : Place) (x : List ℕ) (k : ℕ) (t : JavaType) → meant s x ≡ LocalName k t → IsExpression program code n s (trees.Variable p x) (expressions.Local k)
  constant : (p : Place) (x : List ℕ) (f : Field) (v : Value) → meant s x ≡ FieldName f → f.is_static ≡ true → constant_meant s (Some f) ≡ Some v
      → IsExpression program code n s (trees.Variable p x) (expressions.Literal v)
  no_constant : (p : Place) (x : List ℕ) (f : Field) → meant s x ≡ FieldName f → f.is_static ≡ true → constant_meant s (Some f) ≡ None
      → IsExpression program code n s (trees.Variable p x) expressions.Stuck
  own_field : (p : Place) (x : List ℕ) (f : Field) (name : ℕ) → meant s x ≡ FieldName f → f.is_static ≡ false → n.name name ≡ f.name
      → IsExpression program code n s (trees.Variable p x) (expressions.OwnField name)
  no_name : (p : Place) (x : List ℕ) → meant s x ≡ NoName → IsExpression program code n s (trees.Variable p x) expressions.Stuck
  -- after a dot
  class_constant : (p : Place) (e : Tree) (x : List ℕ) (c : ℕ) (v : Value) → class_before s e ≡ Some c → constant_meant s (constant_of s.table (Some c) x) ≡ Some v
      → IsExpression program code n s (trees.FieldAccess p e x) (expressions.Literal v)
  no_class_constant : (p : Place) (e : Tree) (x : List ℕ) (c : ℕ) → class_before s e ≡ Some c → constant_meant s (constant_of s.table (Some c) x) ≡ None
      → IsExpression program code n s (trees.FieldAccess p e x) expressions.Stuck
  field_of : (p : Place) (e : Tree) (x : List ℕ) (i name : ℕ) → class_before s e ≡ None → IsPart n s e i → n.name name ≡ x
      → IsExpression program code n s (trees.FieldAccess p e x) (expressions.FieldOf i name)
  element : (p : Place) (a b : Tree) (i j : ℕ) → IsPart n s a i → IsPart n s b j → IsExpression program code n s (trees.ArrayAccess p a b) (expressions.Element i j)
  -- calls
  no_call : (p : Place) (x : List ℕ) (es : Tree) (ns : Nodes) → method_meant s x ≡ None → AreParts n s (items es) (listed code ns)
      → IsExpression program code n s (trees.Call p x es) (expressions.Call callees.Unknown ns)
  static_call : (p : Place) (x : List ℕ) (es : Tree) (m : Method) (k : ℕ) (ns : Nodes) → method_meant s x ≡ Some m → m.is_static ≡ true → IsMethod code n m k
      → AreParts n s (items es) (listed code ns) → IsExpression program code n s (trees.Call p x es) (expressions.Call (callees.Static k) ns)
  own_call : (p : Place) (x : List ℕ) (es : Tree) (m : Method) (k : ℕ) (ns : Nodes) → method_meant s x ≡ Some m → m.is_static ≡ false → IsMethod code n m k
      → AreParts n s (items es) (listed code ns) → IsExpression program code n s (trees.Call p x es) (expressions.Call (callees.Own k) ns)
  class_call : (p : Place) (e : Tree) (x : List ℕ) (es : Tree) (c : ℕ) (m : Method) (k : ℕ) (ns : Nodes) → class_before s e ≡ Some c
      → option_and_then static_only (method_named s.table c x) ≡ Some m → IsMethod code n m k → AreParts n s (items es) (listed code ns)
      → IsExpression program code n s (trees.MethodCall p e x es) (expressions.Call (callees.Static k) ns)
  no_class_call : (p : Place) (e : Tree) (x : List ℕ) (es : Tree) (c : ℕ) (ns : Nodes) → class_before s e ≡ Some c
      → option_and_then static_only (method_named s.table c x) ≡ None → AreParts n s (items es) (listed code ns)
      → IsExpression program code n s (trees.MethodCall p e x es) (expressions.Call callees.Unknown ns)
  call_on : (p : Place) (e : Tree) (x : List ℕ) (es : Tree) (i : ℕ) (m : Method) (k : ℕ) (ns : Nodes) → class_before s e ≡ None → typed_method s e x ≡ Some m
      → m.is_static ≡ false → IsMethod code n m k → IsPart n s e i → AreParts n s (items es) (listed code ns)
      → IsExpression program code n s (trees.MethodCall p e x es) (expressions.CallOn i k ns)
  static_call_on : (p : Place) (e : Tree) (x : List ℕ) (es : Tree) (i : ℕ) (m : Method) (k : ℕ) (ns : Nodes) → class_before s e ≡ None → typed_method s e x ≡ Some m
      → m.is_static ≡ true → IsMethod code n m k → IsPart n s e i → AreParts n s (items es) (listed code ns)
      → IsExpression program code n s (trees.MethodCall p e x es) (expressions.StaticCallOn i k ns)
  -- a method that the type of the object doesn't have is a collection's
  collection_call : (p : Place) (e : Tree) (x : List ℕ) (es : Tree) (i : ℕ) (ns : Nodes) → class_before s e ≡ None → typed_method s e x ≡ None → IsPart n s e i
      → AreParts n s (items es) (listed code ns) → IsExpression program code n s (trees.MethodCall p e x es) (expressions.CallCollection i (call_named x) ns)
  super_call : (p : Place) (x : List ℕ) (es : Tree) (m : Method) (k : ℕ) (ns : Nodes) → super_method s x ≡ Some m → IsMethod code n m k
      → AreParts n s (items es) (listed code ns) → IsExpression program code n s (trees.SuperCall p x es) (expressions.Call (callees.Super (Some k)) ns)
  no_super_call : (p : Place) (x : List ℕ) (es : Tree) (ns : Nodes) → super_method s x ≡ None
      → AreParts n s (items es) (listed code ns) → IsExpression program code n s (trees.SuperCall p x es) (expressions.Call (callees.Super None) ns)
  -- creation
  creation : (p : Place) (t es : Tree) (c : ℕ) (k : ClassCode) (ns : Nodes) → written s t ≡ ClassType c → class_at code c ≡ Some k → AreParts n s (items es) (listed code ns)
      → IsExpression program code n s (trees.ObjectCreation p t es) (expressions.Call (callees.New c) ns)
  new_set : (p : Place) (t es : Tree) (u : JavaType) (ns : Nodes) → written s t ≡ SetType u → AreParts n s (items es) (listed code ns)
      → IsExpression program code n s (trees.ObjectCreation p t es) (expressions.Call callees.NewSet ns)
  new_list : (p : Place) (t es : Tree) (u : JavaType) (ns : Nodes) → written s t ≡ ListType u → AreParts n s (items es) (listed code ns)
      → IsExpression program code n s (trees.ObjectCreation p t es) (expressions.Call callees.NewList ns)
  no_creation : (p : Place) (t es : Tree) (ns : Nodes) → is_uncreatable (written s t) ≡ true → AreParts n s (items es) (listed code ns)
      → IsExpression program code n s (trees.ObjectCreation p t es) (expressions.Call callees.Unknown ns)
  array : (p : Place) (t e : Tree) (i : ℕ) → IsPart n s e i
      → IsExpression program code n s (trees.ArrayCreation p t e) (expressions.NewArray (array_number program.arrays (ArrayType (written s t))) (default_of (written s t)) i)
  -- operators
  unary : (p : Place) (o : UnaryOperator) (e : Tree) (i : ℕ) → IsPart n s e i → IsExpression program code n s (trees.Unary p o e) (expressions.Unary (unary_operation (operand_width s o e) o) i)
  conjunction : (p : Place) (a b : Tree) (i j : ℕ) → IsPart n s a i → IsPart n s b j
      → IsExpression program code n s (trees.Binary p operators.And a b) (expressions.And i j)
  disjunction : (p : Place) (a b : Tree) (i j : ℕ) → IsPart n s a i → IsPart n s b j
      → IsExpression program code n s (trees.Binary p operators.Or a b) (expressions.Or i j)
  binary : (p : Place) (o : BinaryOperator) (a b : Tree) (i j : ℕ) → is_junction o ≡ false → IsPart n s a i → IsPart n s b j
      → IsExpression program code n s (trees.Binary p o a b) (expressions.Binary (binary_operation (width_of s o a b) o) i j)
  instance : (p : Place) (e t : Tree) (i k : ℕ) → IsPart n s e i → n.type k ≡ written s t → IsExpression program code n s (trees.InstanceOf p e t) (expressions.InstanceOf i k)
  conditional : (p : Place) (c a b : Tree) (i j k : ℕ) → IsPart n s c i → IsPart n s a j → IsPart n s b k
      → IsExpression program code n s (trees.Conditional p c a b) (expressions.Conditional i j k)
  number_cast : (p : Place) (t e : Tree) (w : Width) (i : ℕ) → is_primitive t ≡ true → written s t ≡ NumberType w → IsPart n s e i
      → IsExpression program code n s (trees.Cast p t e) (expressions.Unary (unary_operation w Plus) i)
  primitive_cast : (p : Place) (t e : Tree) (k i : ℕ) → is_primitive t ≡ true → is_number (written s t) ≡ false → n.type k ≡ written s t → IsPart n s e i
      → IsExpression program code n s (trees.Cast p t e) (expressions.Convert k i)
  cast : (p : Place) (t e : Tree) (k i : ℕ) → is_primitive t ≡ false → n.type k ≡ written s t → IsPart n s e i
      → IsExpression program code n s (trees.Cast p t e) (expressions.Cast k i)
  -- writes
  assignment : (p : Place) (a e : Tree) (x : Variable) (i : ℕ) → IsVariable n s (target_of s a) x → IsPart n s e i
      → IsExpression program code n s (trees.Assignment p a e) (expressions.Assign x i)
  compound : (p : Place) (o : BinaryOperator) (a e : Tree) (x : Variable) (i : ℕ) → IsVariable n s (target_of s a) x → IsPart n s e i
      → IsExpression program code n s (trees.CompoundAssignment p o a e) (expressions.Compound (compound_operation (width_at s a) (width_of s o a e) o) x i)
  step : (p : Place) (o : StepOperator) (a : Tree) (x : Variable) → IsVariable n s (target_of s a) x
      → IsExpression program code n s (trees.Step p o a) (expressions.Step (step_operation (width_at s a) o) x)
  -- contracts
  result : (p : Place) → IsExpression program code n s (trees.Result p) expressions.Result
  old : (p : Place) (e : Tree) → IsExpression program code n s (trees.Old p e) (expressions.Old p)
  other : (t : Tree) → is_no_expression t ≡ true → IsExpression program code n s t expressions.Stuck

-- ---- statements

-- nodes that are no statements
abbrev pub is_no_statement : Tree → Bool
is_no_statement (trees.Empty p) = false
is_no_statement (trees.Block p ts) = false
is_no_statement (trees.Local p t ds) = false
is_no_statement (trees.ExpressionStatement p e) = false
is_no_statement (trees.IfThen p e a) = false
is_no_statement (trees.IfElse p e a b) = false
is_no_statement (trees.While p e a) = false
is_no_statement (trees.Do p a e) = false
is_no_statement (trees.For p i e u a) = false
is_no_statement (trees.Break p) = false
is_no_statement (trees.Continue p) = false
is_no_statement (trees.Return p e) = false
is_no_statement (trees.Throw p e) = false
is_no_statement (trees.Try p b cs) = false
is_no_statement t = true

-- a declarator by its node, which declares the local of the next number
abbrev pub IsDeclarator : Numbering → Scope → Tree → Option Declarator → Type 0
IsDeclarator n s (trees.Declarator p x e) (Some d) =
    (d.local ≡ length s.locals) × (d.default ≡ default_of s.declared) × IsPartial n (bind_local x s.declared s) e d.initial
IsDeclarator n s (trees.Declarator p x e) None = ⊥
IsDeclarator n s t None = Unit {0}
IsDeclarator n s t (Some d) = ⊥

abbrev pub AreDeclarators : Code → Numbering → Scope → List Tree → List ℕ → Type 0
AreDeclarators code n s [] [] = Unit {0}
AreDeclarators code n s (t ∷ ts) (i ∷ is) = IsDeclarator n s t (declarator_of (node_at code i)) × AreDeclarators code n (after s t) ts is
AreDeclarators code n s ts is = ⊥

-- a `catch` by its node
abbrev pub IsCatch : Numbering → Scope → Tree → Option Catch → Type 0
IsCatch n s (trees.Catch p d b) (Some c) = (n.type c.caught ≡ caught_type s d) × IsPart n (after s d) b c.body
IsCatch n s (trees.Catch p d b) None = ⊥
IsCatch n s t None = Unit {0}
IsCatch n s t (Some c) = ⊥

abbrev pub AreCatches : Code → Numbering → Scope → List Tree → List ℕ → Type 0
AreCatches code n s [] [] = Unit {0}
AreCatches code n s (t ∷ ts) (i ∷ is) = IsCatch n s t (catch_of (node_at code i)) × AreCatches code n (after s t) ts is
AreCatches code n s ts is = ⊥

-- the resolved form of a statement
pub data IsStatement (code : Code) (n : Numbering) (s : Scope) : Tree → Statement → Type 0 where
  empty : (p : Place) → IsStatement code n s (trees.Empty p) statements.Empty
  block : (p : Place) (ts : Tree) (ns : Nodes) → AreParts n s (items ts) (listed code ns) → IsStatement code n s (trees.Block p ts) (statements.Block ns)
  evaluated : (p : Place) (e : Tree) (i : ℕ) → IsPart n s e i → IsStatement code n s (trees.ExpressionStatement p e) (statements.Evaluate i)
  if_then : (p : Place) (e a : Tree) (i j : ℕ) → IsPart n s e i → IsPart n s a j → IsStatement code n s (trees.IfThen p e a) (statements.IfThen i j)
  if_else : (p : Place) (e a b : Tree) (i j k : ℕ) → IsPart n s e i → IsPart n s a j → IsPart n s b k → IsStatement code n s (trees.IfElse p e a b) (statements.IfElse i j k)
  while : (p : Place) (e a : Tree) (i j : ℕ) → IsPart n s e i → IsPart n s a j → IsStatement code n s (trees.While p e a) (statements.While i j)
  do_while : (p : Place) (a e : Tree) (i j : ℕ) → IsPart n s a i → IsPart n s e j → IsStatement code n s (trees.Do p a e) (statements.Do i j)
  for : (p : Place) (i e u a : Tree) (ns : Nodes) (j : Option ℕ) (us : Nodes) (k : ℕ) → AreParts n s (items i) (listed code ns) → IsPartial n (after s i) e j
      → AreParts n (after s i) (items u) (listed code us) → IsPart n (after s i) a k → IsStatement code n s (trees.For p i e u a) (statements.For ns j us k)
  break : (p : Place) → IsStatement code n s (trees.Break p) statements.Break
  continue : (p : Place) → IsStatement code n s (trees.Continue p) statements.Continue
  leave : (p : Place) → IsStatement code n s (trees.Return p trees.Nil) statements.Leave
  return : (p : Place) (e : Tree) (i : ℕ) → (e ≡ trees.Nil → ⊥) → IsPart n s e i → IsStatement code n s (trees.Return p e) (statements.Return i)
  declaration : (p : Place) (t ds : Tree) (ns : Nodes) → AreDeclarators code n (declaring_locals s t) (items ds) (listed code ns)
      → IsStatement code n s (trees.Local p t ds) (statements.Declare ns)
  throw : (p : Place) (e : Tree) (i : ℕ) → IsPart n s e i → IsStatement code n s (trees.Throw p e) (statements.Throw i)
  try : (p : Place) (b cs : Tree) (i : ℕ) (ns : Nodes) → IsPart n s b i → AreCatches code n s (items cs) (listed code ns) → IsStatement code n s (trees.Try p b cs) (statements.Try i ns)
  other : (t : Tree) → is_no_statement t ≡ true → IsStatement code n s t statements.Stuck

-- ---- methods and classes

-- the types of parameters by their links
abbrev pub AreTypes : Code → Numbering → List tables.Parameter → Nodes → Type 0
AreTypes code n ps ns = map n.type (listed code ns) ≡ map (λ (p : tables.Parameter). p.type) ps

pub record IsMethodCode (program : Program) (code : Code) (n : Numbering) (m : Method) (k : MethodCode) : Type 0 where
  pub parameters : k.parameters.count ≡ length m.parameters
  pub types : AreTypes code n m.parameters k.parameters
  pub void : k.is_void ≡ is_void m.result
  pub body : AreParts n (method_scope program m) m.body (listed code k.body)

abbrev pub initial_or_none : Field → Tree → List Field
initial_or_none f trees.Nil = []
initial_or_none f t = f ∷ []

abbrev pub has_initial : Field → List Field
has_initial f = initial_or_none f f.initial

-- the fields with an initial value, in order
abbrev pub initialised_fields : List Field → List Field
initialised_fields fs = flat_map has_initial fs

abbrev pub IsInitialiser : Program → Numbering → Field → Option Initialiser → Type 0
IsInitialiser program n f None = ⊥
IsInitialiser program n f (Some x) = IsPart n (class_scope program f.class) f.initial x.value × (n.field x.field ≡ f)

abbrev pub AreInitialisers : Program → Code → Numbering → List Field → List ℕ → Type 0
AreInitialisers program code n [] [] = Unit {0}
AreInitialisers program code n (f ∷ fs) (i ∷ is) = IsInitialiser program n f (initialiser_of (node_at code i)) × AreInitialisers program code n fs is
AreInitialisers program code n fs is = ⊥

abbrev pub AreArguments : Code → Numbering → Scope → Tree → Option Nodes → Type 0
AreArguments code n s (trees.ConstructorCall p es) (Some ns) = AreParts n s (items es) (listed code ns)
AreArguments code n s (trees.ConstructorCall p es) None = ⊥
AreArguments code n s t None = Unit {0}
AreArguments code n s t (Some ns) = ⊥

pub record IsConstructor (program : Program) (code : Code) (n : Numbering) (c : ℕ) (k : tables.Constructor) (made : Constructor) : Type 0 where
  pub parameters : made.parameters.count ≡ length k.parameters
  pub types : AreTypes code n k.parameters made.parameters
  pub call : AreArguments code n (constructor_scope program c k) k.call made.call
  pub body : AreParts n (constructor_scope program c k) k.body (listed code made.body)

abbrev pub IsMaybeConstructor : Program → Code → Numbering → ℕ → Option tables.Constructor → Option Constructor → Type 0
IsMaybeConstructor program code n c None None = Unit {0}
IsMaybeConstructor program code n c (Some k) (Some made) = IsConstructor program code n c k made
IsMaybeConstructor program code n c k made = ⊥

pub record IsClassCode (program : Program) (code : Code) (n : Numbering) (c : ℕ) (made : ClassCode) : Type 0 where
  pub defaults : values_in code made.defaults ≡ map (λ f. default_of f.type) (fields_of program.table c)
  pub line : listed code made.line ≡ line_of program.table c
  pub initialisers : AreInitialisers program code n (initialised_fields (declared_fields program c)) (listed code made.initialisers)
  pub constructor : IsMaybeConstructor program code n c (constructor_of program c) made.constructor

abbrev pub IsMaybeMethod : Code → Numbering → Option Method → Option ℕ → Type 0
IsMaybeMethod code n None None = Unit {0}
IsMaybeMethod code n (Some m) (Some k) = IsMethod code n m k
IsMaybeMethod code n m k = ⊥

-- ---- the whole

-- The tables have the facts of the program: which name is `length`, the positions of fields in objects, which method objects
-- run, of which types they are; past a table's end nothing is.
pub record AreTables (program : Program) (code : Code) (n : Numbering) : Type 0 where
  pub length_name : (k : ℕ) → bytes_eq (n.name k) (codes "length") ≡ nat_eq k 0
  pub positions : (k c : ℕ) → position_in code k c ≡ field_position program c (n.name k)
  pub spots : (k : ℕ) (class : Class) → spot_in code k class ≡ spot_of_field program (n.field k) class
  pub dispatch : (k : ℕ) (class : Class) → IsMaybeMethod code n (overriding program (n.method k) class) (method_in code k class)
  pub defaults : (c : ℕ) → defaults_in code (class_at code c) ≡ map (λ f. default_of f.type) (fields_of program.table c)
  pub traps : (k : Kind) → class_in_kind code k ≡ class_of_kind program k
  pub instances : (k : ℕ) (class : Class) → is_instance code k class ≡ is_of_type program (n.type k) class
  pub methods : (k : ℕ) (m : MethodCode) → method_at code k ≡ Some m → IsMethodCode program code n (n.method k) m
  pub classes : (c : ℕ) (k : ClassCode) → class_at code c ≡ Some k → IsClassCode program code n c k
  -- the classes that a class's line has are there
  pub lines : (c : ℕ) (k : ClassCode) → class_at code c ≡ Some k → All (λ d. IsSome (class_at code d)) (listed code k.line)

-- Code of a program: each node is the resolved form of its tree, as an expression and as a statement.
pub record IsCodeOf (program : Program) (code : Code) (n : Numbering) : Type 0 where
  pub tables : AreTables program code n
  pub expressions : (i : ℕ) → IsExpression program code n (n.origin i).scope (n.origin i).tree (expression_of (node_at code i))
  pub statements : (i : ℕ) → IsStatement code n (n.origin i).scope (n.origin i).tree (statement_of (node_at code i))
