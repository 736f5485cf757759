-- Between crates: kinds of nodes whose notes are made in one place.
use Rattle.kr_ast.specs.declared.node.Node.{Node}
use Rattle.kr_ast.specs.declared.node.Node.TheVariants as nodes
use Rattle.kr_types.specs.declared.group.Bare.{Bare}
use Rattle.kr_types.specs.declared.group.Bare.TheVariants as bares
use Rattle.kr_types.specs.declared.group.Named.{Named}
use Rattle.kr_types.specs.declared.group.Named.TheVariants as nameds
use Rattle.kr_types.specs.declared.group.Group.{Group}
use Rattle.kr_types.specs.declared.group.Group.TheVariants as groups

-- a value is made from those of the parts
abbrev pub IsOperation : Node → Type 0
IsOperation (nodes.Unary o a) = Unit {0}
IsOperation (nodes.Binary o a b) = Unit {0}
IsOperation (nodes.InstanceOf a b) = Unit {0}
IsOperation (nodes.Cast a b) = Unit {0}
IsOperation (nodes.Conditional a b c) = Unit {0}
IsOperation (nodes.ArrayAccess a b) = Unit {0}
IsOperation _ = ⊥

-- there are no parts
abbrev pub IsLeaf : Node → Type 0
IsLeaf (nodes.Number v) = Unit {0}
IsLeaf (nodes.LongNumber v) = Unit {0}
IsLeaf (nodes.Truth v) = Unit {0}
IsLeaf nodes.Null = Unit {0}
IsLeaf nodes.Break = Unit {0}
IsLeaf nodes.Continue = Unit {0}
IsLeaf nodes.Empty = Unit {0}
IsLeaf _ = ⊥

-- a statement has a condition
abbrev pub IsTest : Node → Type 0
IsTest (nodes.IfThen a b) = Unit {0}
IsTest (nodes.IfElse a b c) = Unit {0}
IsTest (nodes.While a b) = Unit {0}
IsTest (nodes.Do a b) = Unit {0}
IsTest (nodes.For a b c d) = Unit {0}
IsTest _ = ⊥

-- something is thrown, or its class is named
abbrev pub IsThrown : Node → Type 0
IsThrown (nodes.Throw a) = Unit {0}
IsThrown (nodes.Catch a b) = Unit {0}
IsThrown (nodes.Signals a b) = Unit {0}
IsThrown _ = ⊥

-- there is no rule but those of the parts
abbrev pub IsPlain : Node → Type 0
IsPlain (nodes.Block a) = Unit {0}
IsPlain (nodes.Try a b) = Unit {0}
IsPlain (nodes.ExpressionStatement a) = Unit {0}
IsPlain (nodes.Local a b) = Unit {0}
IsPlain (nodes.Field s f a b) = Unit {0}
IsPlain (nodes.Method s n a b) = Unit {0}
IsPlain (nodes.Signature a b c) = Unit {0}
IsPlain _ = ⊥

-- a variable is written
abbrev pub IsWrite : Node → Type 0
IsWrite (nodes.Step o a) = Unit {0}
IsWrite (nodes.Assignment a b) = Unit {0}
IsWrite (nodes.CompoundAssignment o a b) = Unit {0}
IsWrite _ = ⊥

-- a contract, or what only contracts have
abbrev pub IsContract : Node → Type 0
IsContract (nodes.Old a) = Unit {0}
IsContract (nodes.Requires a) = Unit {0}
IsContract (nodes.Ensures a) = Unit {0}
IsContract _ = ⊥

-- its names alone determine the type
abbrev pub IsTypeName : Node → Type 0
IsTypeName (nodes.PrimitiveType k) = Unit {0}
IsTypeName (nodes.NamedType n) = Unit {0}
IsTypeName (nodes.QualifiedType o n) = Unit {0}
IsTypeName (nodes.DiamondType a) = Unit {0}
IsTypeName _ = ⊥

abbrev pub IsType : Node → Type 0
IsType (nodes.GenericType a b) = Unit {0}
IsType (nodes.ArrayType a) = Unit {0}
IsType n = IsTypeName n

-- a list, or an absent part
abbrev pub IsList : Node → Type 0
IsList nodes.Nil = Unit {0}
IsList (nodes.Cons a b) = Unit {0}
IsList _ = ⊥

-- a name is used or declared
abbrev pub IsNamed : Node → Type 0
IsNamed (nodes.Variable n) = Unit {0}
IsNamed (nodes.Declarator n a) = Unit {0}
IsNamed (nodes.Parameter a n) = Unit {0}
IsNamed _ = ⊥

-- a type may be new
abbrev pub IsGrowing : Node → Type 0
IsGrowing nodes.This = Unit {0}
IsGrowing (nodes.ArrayCreation a b) = Unit {0}
IsGrowing _ = ⊥

-- it comes after a dot
abbrev pub IsAccess : Node → Type 0
IsAccess (nodes.FieldAccess a n) = Unit {0}
IsAccess (nodes.MethodCall a n b) = Unit {0}
IsAccess _ = ⊥

-- a method of the class or of an ancestor is called, or a constructor
abbrev pub IsCall : Node → Type 0
IsCall (nodes.Call n a) = Unit {0}
IsCall (nodes.SuperCall n a) = Unit {0}
IsCall (nodes.ConstructorCall a) = Unit {0}
IsCall (nodes.ObjectCreation a b) = Unit {0}
IsCall _ = ⊥

-- a result is given or spoken of
abbrev pub IsReturned : Node → Type 0
IsReturned nodes.Result = Unit {0}
IsReturned (nodes.Return a) = Unit {0}
IsReturned _ = ⊥

-- a class or a constructor
abbrev pub IsDeclaration : Node → Type 0
IsDeclaration (nodes.Class n a b) = Unit {0}
IsDeclaration (nodes.Constructor a b c) = Unit {0}
IsDeclaration _ = ⊥

abbrev pub IsOfBare : Bare → Node → Type 0
IsOfBare bares.Type n = IsType n
IsOfBare bares.Leaf n = IsLeaf n
IsOfBare bares.Operation n = IsOperation n
IsOfBare bares.Write n = IsWrite n
IsOfBare bares.Contract n = IsContract n
IsOfBare bares.Returned n = IsReturned n
IsOfBare bares.Test n = IsTest n
IsOfBare bares.Thrown n = IsThrown n

abbrev pub IsOfNamed : Named → Node → Type 0
IsOfNamed nameds.Name n = IsNamed n
IsOfNamed nameds.Growing n = IsGrowing n
IsOfNamed nameds.Access n = IsAccess n
IsOfNamed nameds.Call n = IsCall n
IsOfNamed nameds.Declaration n = IsDeclaration n

abbrev pub IsOfGroup : Group → Node → Type 0
IsOfGroup groups.Link n = IsList n
IsOfGroup groups.Plain n = IsPlain n
IsOfGroup (groups.Bare k) n = IsOfBare k n
IsOfGroup (groups.Named k) n = IsOfNamed k n
