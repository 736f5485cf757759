-- To be believed: syntax trees. Names are bytes. Each tree but those of lists has the place of its first token; a
-- class, a method with its signature, a constructor, a parameter and a declarator have that of their name. Modifiers
-- are no part of a tree: the place of a local or a field is the first token of its type, after `final`, `static` and
-- other modifiers.
use Rattle.std.specs.Prelude.{ℕ, ◌+◌, Bool, List, [], ◌∷◌, sum}
use Rattle.kr_base.specs.declared.place.Place.{Place}
use Rattle.kr_ast.specs.declared.node.Primitive.{Primitive}
use Rattle.kr_ast.specs.declared.node.UnaryOperator.{UnaryOperator}
use Rattle.kr_ast.specs.declared.node.StepOperator.{StepOperator}
use Rattle.kr_ast.specs.declared.node.BinaryOperator.{BinaryOperator}

pub data Tree : Type 0 where
  -- the end of a list, and an absent part
  Nil : Tree
  Cons : Tree → Tree → Tree
  -- types (Java Language Specification 4)
  PrimitiveType : Place → Primitive → Tree
  NamedType : Place → List ℕ → Tree
  -- outer class, name
  QualifiedType : Place → List ℕ → List ℕ → Tree
  -- head, argument
  GenericType : Place → Tree → Tree → Tree
  DiamondType : Place → Tree → Tree
  ArrayType : Place → Tree → Tree
  -- expressions (15)
  Number : Place → ℕ → Tree
  -- one of a `long`
  LongNumber : Place → ℕ → Tree
  Truth : Place → Bool → Tree
  Null : Place → Tree
  This : Place → Tree
  Variable : Place → List ℕ → Tree
  FieldAccess : Place → Tree → List ℕ → Tree
  -- array, index
  ArrayAccess : Place → Tree → Tree → Tree
  Call : Place → List ℕ → Tree → Tree
  -- object, name, arguments
  MethodCall : Place → Tree → List ℕ → Tree → Tree
  SuperCall : Place → List ℕ → Tree → Tree
  -- class, arguments
  ObjectCreation : Place → Tree → Tree → Tree
  -- type of the elements, length
  ArrayCreation : Place → Tree → Tree → Tree
  Unary : Place → UnaryOperator → Tree → Tree
  Step : Place → StepOperator → Tree → Tree
  Binary : Place → BinaryOperator → Tree → Tree → Tree
  -- expression, type
  InstanceOf : Place → Tree → Tree → Tree
  Conditional : Place → Tree → Tree → Tree → Tree
  -- type, expression
  Cast : Place → Tree → Tree → Tree
  -- target, value
  Assignment : Place → Tree → Tree → Tree
  CompoundAssignment : Place → BinaryOperator → Tree → Tree → Tree
  -- `\result` and `\old(..)` of contracts
  Result : Place → Tree
  Old : Place → Tree → Tree
  -- statements (14)
  Empty : Place → Tree
  Block : Place → Tree → Tree
  -- type, declarators
  Local : Place → Tree → Tree → Tree
  -- name, initial value
  Declarator : Place → List ℕ → Tree → Tree
  ExpressionStatement : Place → Tree → Tree
  Return : Place → Tree → Tree
  Break : Place → Tree
  Continue : Place → Tree
  IfThen : Place → Tree → Tree → Tree
  IfElse : Place → Tree → Tree → Tree → Tree
  -- condition, body
  While : Place → Tree → Tree → Tree
  -- body, condition
  Do : Place → Tree → Tree → Tree
  -- initial statements, condition, updates, body
  For : Place → Tree → Tree → Tree → Tree → Tree
  Throw : Place → Tree → Tree
  -- block, catches
  Try : Place → Tree → Tree → Tree
  -- parameter, block
  Catch : Place → Tree → Tree → Tree
  -- `super(..);` at the head of a constructor
  ConstructorCall : Place → Tree → Tree
  -- declarations (8)
  -- name, extended class, members
  Class : Place → List ℕ → Tree → Tree → Tree
  -- static, final, type, declarators
  Field : Place → Bool → Bool → Tree → Tree → Tree
  -- static, name, signature, body
  Method : Place → Bool → List ℕ → Tree → Tree → Tree
  -- result, parameters, contracts
  Signature : Place → Tree → Tree → Tree → Tree
  -- type, name
  Parameter : Place → Tree → List ℕ → Tree
  -- parameters, call of the superclass's constructor, body
  Constructor : Place → Tree → Tree → Tree → Tree
  Requires : Place → Tree → Tree
  Ensures : Place → Tree → Tree
  -- parameter, or a type alone where it has no name; condition
  Signals : Place → Tree → Tree → Tree

-- The fold of a rule over a tree: the rule is given a tree and the results for its parts in order. This is the only
-- list of the parts of each kind.
abbrev pub fold_tree : {A : Type 0} → (Tree → List A → A) → Tree → A
fold_tree rule Nil = rule Nil []
fold_tree rule (Cons a b) = rule (Cons a b) (fold_tree rule a ∷ fold_tree rule b ∷ [])
fold_tree rule (PrimitiveType p k) = rule (PrimitiveType p k) []
fold_tree rule (NamedType p n) = rule (NamedType p n) []
fold_tree rule (QualifiedType p o n) = rule (QualifiedType p o n) []
fold_tree rule (GenericType p a b) = rule (GenericType p a b) (fold_tree rule a ∷ fold_tree rule b ∷ [])
fold_tree rule (DiamondType p a) = rule (DiamondType p a) (fold_tree rule a ∷ [])
fold_tree rule (ArrayType p a) = rule (ArrayType p a) (fold_tree rule a ∷ [])
fold_tree rule (Number p v) = rule (Number p v) []
fold_tree rule (LongNumber p v) = rule (LongNumber p v) []
fold_tree rule (Truth p v) = rule (Truth p v) []
fold_tree rule (Null p) = rule (Null p) []
fold_tree rule (This p) = rule (This p) []
fold_tree rule (Variable p n) = rule (Variable p n) []
fold_tree rule (FieldAccess p a n) = rule (FieldAccess p a n) (fold_tree rule a ∷ [])
fold_tree rule (ArrayAccess p a b) = rule (ArrayAccess p a b) (fold_tree rule a ∷ fold_tree rule b ∷ [])
fold_tree rule (Call p n a) = rule (Call p n a) (fold_tree rule a ∷ [])
fold_tree rule (MethodCall p a n b) = rule (MethodCall p a n b) (fold_tree rule a ∷ fold_tree rule b ∷ [])
fold_tree rule (SuperCall p n a) = rule (SuperCall p n a) (fold_tree rule a ∷ [])
fold_tree rule (ObjectCreation p a b) = rule (ObjectCreation p a b) (fold_tree rule a ∷ fold_tree rule b ∷ [])
fold_tree rule (ArrayCreation p a b) = rule (ArrayCreation p a b) (fold_tree rule a ∷ fold_tree rule b ∷ [])
fold_tree rule (Unary p o a) = rule (Unary p o a) (fold_tree rule a ∷ [])
fold_tree rule (Step p o a) = rule (Step p o a) (fold_tree rule a ∷ [])
fold_tree rule (Binary p o a b) = rule (Binary p o a b) (fold_tree rule a ∷ fold_tree rule b ∷ [])
fold_tree rule (InstanceOf p a b) = rule (InstanceOf p a b) (fold_tree rule a ∷ fold_tree rule b ∷ [])
fold_tree rule (Conditional p a b c) = rule (Conditional p a b c) (fold_tree rule a ∷ fold_tree rule b ∷ fold_tree rule c ∷ [])
fold_tree rule (Cast p a b) = rule (Cast p a b) (fold_tree rule a ∷ fold_tree rule b ∷ [])
fold_tree rule (Assignment p a b) = rule (Assignment p a b) (fold_tree rule a ∷ fold_tree rule b ∷ [])
fold_tree rule (CompoundAssignment p o a b) = rule (CompoundAssignment p o a b) (fold_tree rule a ∷ fold_tree rule b ∷ [])
fold_tree rule (Result p) = rule (Result p) []
fold_tree rule (Old p a) = rule (Old p a) (fold_tree rule a ∷ [])
fold_tree rule (Empty p) = rule (Empty p) []
fold_tree rule (Block p a) = rule (Block p a) (fold_tree rule a ∷ [])
fold_tree rule (Local p a b) = rule (Local p a b) (fold_tree rule a ∷ fold_tree rule b ∷ [])
fold_tree rule (Declarator p n a) = rule (Declarator p n a) (fold_tree rule a ∷ [])
fold_tree rule (ExpressionStatement p a) = rule (ExpressionStatement p a) (fold_tree rule a ∷ [])
fold_tree rule (Return p a) = rule (Return p a) (fold_tree rule a ∷ [])
fold_tree rule (Break p) = rule (Break p) []
fold_tree rule (Continue p) = rule (Continue p) []
fold_tree rule (IfThen p a b) = rule (IfThen p a b) (fold_tree rule a ∷ fold_tree rule b ∷ [])
fold_tree rule (IfElse p a b c) = rule (IfElse p a b c) (fold_tree rule a ∷ fold_tree rule b ∷ fold_tree rule c ∷ [])
fold_tree rule (While p a b) = rule (While p a b) (fold_tree rule a ∷ fold_tree rule b ∷ [])
fold_tree rule (Do p a b) = rule (Do p a b) (fold_tree rule a ∷ fold_tree rule b ∷ [])
fold_tree rule (For p a b c d) = rule (For p a b c d) (fold_tree rule a ∷ fold_tree rule b ∷ fold_tree rule c ∷ fold_tree rule d ∷ [])
fold_tree rule (Throw p a) = rule (Throw p a) (fold_tree rule a ∷ [])
fold_tree rule (Try p a b) = rule (Try p a b) (fold_tree rule a ∷ fold_tree rule b ∷ [])
fold_tree rule (Catch p a b) = rule (Catch p a b) (fold_tree rule a ∷ fold_tree rule b ∷ [])
fold_tree rule (ConstructorCall p a) = rule (ConstructorCall p a) (fold_tree rule a ∷ [])
fold_tree rule (Class p n a b) = rule (Class p n a b) (fold_tree rule a ∷ fold_tree rule b ∷ [])
fold_tree rule (Field p s f a b) = rule (Field p s f a b) (fold_tree rule a ∷ fold_tree rule b ∷ [])
fold_tree rule (Method p s n a b) = rule (Method p s n a b) (fold_tree rule a ∷ fold_tree rule b ∷ [])
fold_tree rule (Signature p a b c) = rule (Signature p a b c) (fold_tree rule a ∷ fold_tree rule b ∷ fold_tree rule c ∷ [])
fold_tree rule (Parameter p a n) = rule (Parameter p a n) (fold_tree rule a ∷ [])
fold_tree rule (Constructor p a b c) = rule (Constructor p a b c) (fold_tree rule a ∷ fold_tree rule b ∷ fold_tree rule c ∷ [])
fold_tree rule (Requires p a) = rule (Requires p a) (fold_tree rule a ∷ [])
fold_tree rule (Ensures p a) = rule (Ensures p a) (fold_tree rule a ∷ [])
fold_tree rule (Signals p a b) = rule (Signals p a b) (fold_tree rule a ∷ fold_tree rule b ∷ [])

-- the number of nodes
abbrev pub size : Tree → ℕ
size t = fold_tree (λ part counts. 1 + sum counts) t
