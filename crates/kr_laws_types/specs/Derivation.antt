-- Between crates: the shapes of trees, by position (Java Language Specification 4, 7, 8, 14, 15, for this language).
use Rattle.std.specs.Prelude.{◌≡◌, ◌⊎◌, Bool, true, false, List}
use Rattle.kr_lex.specs.Lexemes.{Lexeme}
use Rattle.kr_ast.specs.Tree as trees
use Rattle.kr_ast.specs.Tree.{Tree}
use Rattle.kr_parse_grammar.specs.Grammar.{Derives}
use Rattle.kr_types_meaning.specs.Laws.{IsClassName}
use Rattle.kr_laws_types.specs.DerivedExpressions.{IsWritten, Shaped}

-- an expression, and several of them in a list
abbrev pub IsExpression : Tree → Type 0
IsExpression t = Shaped false t

abbrev pub AreExpressions : Tree → Type 0
AreExpressions t = Shaped true t

-- one that may be absent
abbrev pub MayBeExpression : Tree → Type 0
MayBeExpression t = (t ≡ trees.Nil) ⊎ IsExpression t

-- ---- types

-- the type of a variable
abbrev pub IsVariableType : Tree → Type 0
IsVariableType t = IsWritten t

-- that of a method's result
abbrev pub IsResultType : Tree → Type 0
IsResultType (trees.PrimitiveType p k) = Unit {0}
IsResultType t = IsVariableType t

-- ---- statements

abbrev pub IsDeclarator : Tree → Type 0
IsDeclarator (trees.Declarator p n e) = MayBeExpression e
IsDeclarator t = ⊥

abbrev pub AreDeclarators : Tree → Type 0
AreDeclarators trees.Nil = Unit {0}
AreDeclarators (trees.Cons a b) = IsDeclarator a × AreDeclarators b
AreDeclarators t = ⊥

-- what a `catch` declares; a `signals` may have the class alone
abbrev pub IsCaught : Tree → Type 0
IsCaught (trees.Parameter p t n) = IsClassName t
IsCaught t = ⊥

abbrev pub IsSignalled : Tree → Type 0
IsSignalled (trees.Parameter p t n) = IsClassName t
IsSignalled t = IsClassName t

-- the body of a `try`
abbrev pub IsBlock : Tree → Type 0
IsBlock (trees.Block p ts) = Unit {0}
IsBlock t = ⊥

-- a statement, and whether it may be a declaration; or statements in a list, each of which may; a `catch`, or several
pub data Sort : Type 0 where
  One : Bool → Sort
  Several : Sort
  Catch : Sort
  Catches : Sort

abbrev pub IsCode : Sort → Tree → Type 0
IsCode Several trees.Nil = Unit {0}
IsCode Several (trees.Cons a b) = IsCode (One true) a × IsCode Several b
IsCode Several t = ⊥
IsCode Catch (trees.Catch p d b) = IsCaught d × IsCode (One false) b
IsCode Catch t = ⊥
IsCode Catches trees.Nil = Unit {0}
IsCode Catches (trees.Cons a b) = IsCode Catch a × IsCode Catches b
IsCode Catches t = ⊥
IsCode (One d) (trees.Local p t ds) = (d ≡ true) × IsVariableType t × AreDeclarators ds
IsCode (One d) (trees.Empty p) = Unit {0}
IsCode (One d) (trees.Block p ts) = IsCode Several ts
IsCode (One d) (trees.ExpressionStatement p e) = IsExpression e
IsCode (One d) (trees.Return p e) = MayBeExpression e
IsCode (One d) (trees.Break p) = Unit {0}
IsCode (One d) (trees.Continue p) = Unit {0}
IsCode (One d) (trees.IfThen p c a) = IsExpression c × IsCode (One false) a
IsCode (One d) (trees.IfElse p c a b) = IsExpression c × IsCode (One false) a × IsCode (One false) b
IsCode (One d) (trees.While p c a) = IsExpression c × IsCode (One false) a
IsCode (One d) (trees.Do p a c) = IsCode (One false) a × IsExpression c
IsCode (One d) (trees.For p i c u a) = IsCode Several i × MayBeExpression c × AreExpressions u × IsCode (One false) a
IsCode (One d) (trees.Throw p e) = IsExpression e
IsCode (One d) (trees.Try p b cs) = IsBlock b × IsCode (One false) b × IsCode Catches cs
IsCode (One d) t = ⊥

abbrev pub IsStatement : Tree → Type 0
IsStatement t = IsCode (One false) t

-- those of a block or a body
abbrev pub AreStatements : Tree → Type 0
AreStatements t = IsCode Several t

-- ---- declarations

abbrev pub AreParameters : Tree → Type 0
AreParameters trees.Nil = Unit {0}
AreParameters (trees.Cons (trees.Parameter p t n) b) = IsVariableType t × AreParameters b
AreParameters t = ⊥

abbrev pub IsContractLine : Tree → Type 0
IsContractLine (trees.Requires p e) = IsExpression e
IsContractLine (trees.Ensures p e) = IsExpression e
IsContractLine (trees.Signals p d e) = IsSignalled d × IsExpression e
IsContractLine t = ⊥

abbrev pub AreContractLines : Tree → Type 0
AreContractLines trees.Nil = Unit {0}
AreContractLines (trees.Cons a b) = IsContractLine a × AreContractLines b
AreContractLines t = ⊥

abbrev pub IsSignature : Tree → Type 0
IsSignature (trees.Signature p r ps cs) = IsResultType r × AreParameters ps × AreContractLines cs
IsSignature t = ⊥

-- `super(..)`, which may be absent
abbrev pub MayCallSuper : Tree → Type 0
MayCallSuper trees.Nil = Unit {0}
MayCallSuper (trees.ConstructorCall p es) = AreExpressions es
MayCallSuper t = ⊥

abbrev pub MayExtend : Tree → Type 0
MayExtend trees.Nil = Unit {0}
MayExtend t = IsClassName t

-- a member of a class, or members in a list
abbrev pub IsMember : Bool → Tree → Type 0
IsMember true trees.Nil = Unit {0}
IsMember true (trees.Cons a b) = IsMember false a × IsMember true b
IsMember true t = ⊥
IsMember false (trees.Class p n e ms) = MayExtend e × IsMember true ms
IsMember false (trees.Field p st fi t ds) = IsVariableType t × AreDeclarators ds
IsMember false (trees.Method p st n g b) = IsSignature g × AreStatements b
IsMember false (trees.Constructor p ps c b) = AreParameters ps × MayCallSuper c × AreStatements b
IsMember false t = ⊥

abbrev pub IsClass : Tree → Type 0
IsClass (trees.Class p n e ms) = MayExtend e × IsMember true ms
IsClass t = ⊥

-- a file
abbrev pub AreClasses : Tree → Type 0
AreClasses trees.Nil = Unit {0}
AreClasses (trees.Cons a b) = IsClass a × AreClasses b
AreClasses t = ⊥

-- ---- derived trees

abbrev pub ShapeLaw : Type 0
ShapeLaw = (i : List Lexeme) (t : Tree) → Derives i t → AreClasses t
