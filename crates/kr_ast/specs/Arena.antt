-- Between crates: the nodes of an arena, and the trees that they represent.
use Rattle.std.specs.Prelude.{ℕ, ◌+◌, ◌-◌, ◌≤◌, ◌<◌, ◌≡◌, List, [], ◌∷◌, length, take, drop, Some, slice_get, slice_index_or}
use Rattle.kr_base.specs.declared.place.Place.{Place}
use Rattle.kr_ast.specs.declared.node.Name.{Name}
use Rattle.kr_ast.specs.declared.node.Node.{Node}
use Rattle.kr_ast.specs.declared.node.Node.TheVariants as nodes
use Rattle.kr_ast.specs.declared.node.Entry.{Entry}
use Rattle.kr_ast.specs.Tree.{Tree, Nil, Cons, PrimitiveType, NamedType, QualifiedType, GenericType, DiamondType, ArrayType, Number, LongNumber, Truth, Null, This, Variable, FieldAccess, ArrayAccess, Call, MethodCall, SuperCall, ObjectCreation, ArrayCreation, Unary, Step, Binary, InstanceOf, Conditional, Cast, Assignment, CompoundAssignment, Result, Old, Empty, Block, Local, Declarator, ExpressionStatement, Return, Break, Continue, IfThen, IfElse, While, Do, For, Throw, Try, Catch, ConstructorCall, Class, Field, Method, Signature, Parameter, Constructor, Requires, Ensures, Signals}
use Rattle.kr_ast.specs.Grow.{grow}

-- the bytes of a name in a text
abbrev pub name_in : List ℕ → Name → List ℕ
name_in text n = take (n.end - n.start) (drop n.start text)

-- the tree of a node, from those of its parts
abbrev pub tree_of : List ℕ → (ℕ → Tree) → Place → Node → Tree
tree_of text look p nodes.Nil = Nil
tree_of text look p (nodes.Cons a b) = Cons (look a) (look b)
tree_of text look p (nodes.PrimitiveType x) = PrimitiveType p x
tree_of text look p (nodes.NamedType n) = NamedType p (name_in text n)
tree_of text look p (nodes.QualifiedType n o) = QualifiedType p (name_in text n) (name_in text o)
tree_of text look p (nodes.GenericType a b) = GenericType p (look a) (look b)
tree_of text look p (nodes.DiamondType a) = DiamondType p (look a)
tree_of text look p (nodes.ArrayType a) = ArrayType p (look a)
tree_of text look p (nodes.Number v) = Number p v
tree_of text look p (nodes.LongNumber v) = LongNumber p v
tree_of text look p (nodes.Truth v) = Truth p v
tree_of text look p nodes.Null = Null p
tree_of text look p nodes.This = This p
tree_of text look p (nodes.Variable n) = Variable p (name_in text n)
tree_of text look p (nodes.FieldAccess a n) = FieldAccess p (look a) (name_in text n)
tree_of text look p (nodes.ArrayAccess a b) = ArrayAccess p (look a) (look b)
tree_of text look p (nodes.Call n a) = Call p (name_in text n) (look a)
tree_of text look p (nodes.MethodCall a n b) = MethodCall p (look a) (name_in text n) (look b)
tree_of text look p (nodes.SuperCall n a) = SuperCall p (name_in text n) (look a)
tree_of text look p (nodes.ObjectCreation a b) = ObjectCreation p (look a) (look b)
tree_of text look p (nodes.ArrayCreation a b) = ArrayCreation p (look a) (look b)
tree_of text look p (nodes.Unary x a) = Unary p x (look a)
tree_of text look p (nodes.Step x a) = Step p x (look a)
tree_of text look p (nodes.Binary x a b) = Binary p x (look a) (look b)
tree_of text look p (nodes.InstanceOf a b) = InstanceOf p (look a) (look b)
tree_of text look p (nodes.Conditional a b c) = Conditional p (look a) (look b) (look c)
tree_of text look p (nodes.Cast a b) = Cast p (look a) (look b)
tree_of text look p (nodes.Assignment a b) = Assignment p (look a) (look b)
tree_of text look p (nodes.CompoundAssignment x a b) = CompoundAssignment p x (look a) (look b)
tree_of text look p nodes.Result = Result p
tree_of text look p (nodes.Old a) = Old p (look a)
tree_of text look p nodes.Empty = Empty p
tree_of text look p (nodes.Block a) = Block p (look a)
tree_of text look p (nodes.Local a b) = Local p (look a) (look b)
tree_of text look p (nodes.Declarator n a) = Declarator p (name_in text n) (look a)
tree_of text look p (nodes.ExpressionStatement a) = ExpressionStatement p (look a)
tree_of text look p (nodes.Return a) = Return p (look a)
tree_of text look p nodes.Break = Break p
tree_of text look p nodes.Continue = Continue p
tree_of text look p (nodes.IfThen a b) = IfThen p (look a) (look b)
tree_of text look p (nodes.IfElse a b c) = IfElse p (look a) (look b) (look c)
tree_of text look p (nodes.While a b) = While p (look a) (look b)
tree_of text look p (nodes.Do a b) = Do p (look a) (look b)
tree_of text look p (nodes.For a b c d) = For p (look a) (look b) (look c) (look d)
tree_of text look p (nodes.Throw a) = Throw p (look a)
tree_of text look p (nodes.Try a b) = Try p (look a) (look b)
tree_of text look p (nodes.Catch a b) = Catch p (look a) (look b)
tree_of text look p (nodes.ConstructorCall a) = ConstructorCall p (look a)
tree_of text look p (nodes.Class n a b) = Class p (name_in text n) (look a) (look b)
tree_of text look p (nodes.Field x y a b) = Field p x y (look a) (look b)
tree_of text look p (nodes.Method x n a b) = Method p x (name_in text n) (look a) (look b)
tree_of text look p (nodes.Signature a b c) = Signature p (look a) (look b) (look c)
tree_of text look p (nodes.Parameter a n) = Parameter p (look a) (name_in text n)
tree_of text look p (nodes.Constructor a b c) = Constructor p (look a) (look b) (look c)
tree_of text look p (nodes.Requires a) = Requires p (look a)
tree_of text look p (nodes.Ensures a) = Ensures p (look a)
tree_of text look p (nodes.Signals a b) = Signals p (look a) (look b)

abbrev pub entry_tree : List ℕ → List Tree → Entry → Tree
entry_tree text ts e = tree_of text (λ i. slice_index_or ts i Nil) e.place e.node

-- the trees of the nodes, in their order
unfoldable pub trees : List ℕ → List Entry → List Tree
trees text es = grow (entry_tree text) [] es

-- the tree at an index
abbrev pub tree_at : List ℕ → List Entry → ℕ → Tree
tree_at text es i = slice_index_or (trees text es) i Nil

-- part j of the node i is the node c
pub record IsPart (es : List Entry) (i j c : ℕ) : Type 0 where
  pub below : c < i
  pub up : (e : Entry) → slice_get es c ≡ Some e → (e.parent ≡ i) × (e.position ≡ j)

-- the parts of a node, in order
abbrev pub parts : Node → List ℕ
parts (nodes.Cons a b) = a ∷ b ∷ []
parts (nodes.GenericType a b) = a ∷ b ∷ []
parts (nodes.DiamondType a) = a ∷ []
parts (nodes.ArrayType a) = a ∷ []
parts (nodes.FieldAccess a n) = a ∷ []
parts (nodes.ArrayAccess a b) = a ∷ b ∷ []
parts (nodes.Call n a) = a ∷ []
parts (nodes.MethodCall a n b) = a ∷ b ∷ []
parts (nodes.SuperCall n a) = a ∷ []
parts (nodes.ObjectCreation a b) = a ∷ b ∷ []
parts (nodes.ArrayCreation a b) = a ∷ b ∷ []
parts (nodes.Unary x a) = a ∷ []
parts (nodes.Step x a) = a ∷ []
parts (nodes.Binary x a b) = a ∷ b ∷ []
parts (nodes.InstanceOf a b) = a ∷ b ∷ []
parts (nodes.Conditional a b c) = a ∷ b ∷ c ∷ []
parts (nodes.Cast a b) = a ∷ b ∷ []
parts (nodes.Assignment a b) = a ∷ b ∷ []
parts (nodes.CompoundAssignment x a b) = a ∷ b ∷ []
parts (nodes.Old a) = a ∷ []
parts (nodes.Block a) = a ∷ []
parts (nodes.Local a b) = a ∷ b ∷ []
parts (nodes.Declarator n a) = a ∷ []
parts (nodes.ExpressionStatement a) = a ∷ []
parts (nodes.Return a) = a ∷ []
parts (nodes.IfThen a b) = a ∷ b ∷ []
parts (nodes.IfElse a b c) = a ∷ b ∷ c ∷ []
parts (nodes.While a b) = a ∷ b ∷ []
parts (nodes.Do a b) = a ∷ b ∷ []
parts (nodes.For a b c d) = a ∷ b ∷ c ∷ d ∷ []
parts (nodes.Throw a) = a ∷ []
parts (nodes.Try a b) = a ∷ b ∷ []
parts (nodes.Catch a b) = a ∷ b ∷ []
parts (nodes.ConstructorCall a) = a ∷ []
parts (nodes.Class n a b) = a ∷ b ∷ []
parts (nodes.Field x y a b) = a ∷ b ∷ []
parts (nodes.Method x n a b) = a ∷ b ∷ []
parts (nodes.Signature a b c) = a ∷ b ∷ c ∷ []
parts (nodes.Parameter a n) = a ∷ []
parts (nodes.Constructor a b c) = a ∷ b ∷ c ∷ []
parts (nodes.Requires a) = a ∷ []
parts (nodes.Ensures a) = a ∷ []
parts (nodes.Signals a b) = a ∷ b ∷ []
parts _ = []

-- these are the parts of node i from part j on
abbrev pub ArePartsFrom : List Entry → ℕ → ℕ → List ℕ → Type 0
ArePartsFrom es i j [] = Unit {0}
ArePartsFrom es i j (c ∷ cs) = IsPart es i j c × ArePartsFrom es i (j + 1) cs

-- the names in a node
abbrev pub names : Node → List Name
names (nodes.NamedType n) = n ∷ []
names (nodes.QualifiedType n o) = n ∷ o ∷ []
names (nodes.Variable n) = n ∷ []
names (nodes.FieldAccess a n) = n ∷ []
names (nodes.Call n a) = n ∷ []
names (nodes.MethodCall a n b) = n ∷ []
names (nodes.SuperCall n a) = n ∷ []
names (nodes.Declarator n a) = n ∷ []
names (nodes.Class n a b) = n ∷ []
names (nodes.Method x n a b) = n ∷ []
names (nodes.Parameter a n) = n ∷ []
names _ = []

-- a name's bytes are in the text
abbrev pub AreNamesIn : List ℕ → List Name → Type 0
AreNamesIn text [] = Unit {0}
AreNamesIn text (n ∷ ns) = (n.start ≤ n.end) × (n.end ≤ length text) × AreNamesIn text ns

-- node i, with this entry, is the part of its parent that the entry says
abbrev pub IsPartOfParent : List Entry → ℕ → Entry → Type 0
IsPartOfParent es i e = (p : Entry) → slice_get es e.parent ≡ Some p → slice_get (parts p.node) e.position ≡ Some i

-- Each node comes after its parts, a node and its parent name each other, and names are in the text. A node that is no
-- part is its own parent.
pub record IsForest (text : List ℕ) (es : List Entry) : Type 0 where
  pub stands : (i : ℕ) (e : Entry) → slice_get es i ≡ Some e → ArePartsFrom es i 0 (parts e.node)
  pub up : (i : ℕ) (e : Entry) → slice_get es i ≡ Some e → (i ≤ e.parent) × (e.parent < length es)
  pub held : (i : ℕ) (e : Entry) → slice_get es i ≡ Some e → i < e.parent → IsPartOfParent es i e
  pub named : (i : ℕ) (e : Entry) → slice_get es i ≡ Some e → AreNamesIn text (names e.node)

-- a forest of one tree: all nodes but the last are parts of their parents
pub record IsArena (text : List ℕ) (es : List Entry) : Type 0 where
  pub forest : IsForest text es
  pub some : 0 < length es
  pub parted : (i : ℕ) (e : Entry) → slice_get es i ≡ Some e → i + 1 < length es → i < e.parent

-- a tree as its nodes, and the text of its names
pub record Arena : Type 0 where
  pub text : List ℕ
  pub entries : List Entry

-- the tree of a node
abbrev pub tree_in : Arena → ℕ → Tree
tree_in a i = tree_at a.text a.entries i

-- the tree of the last node
abbrev pub root : Arena → Tree
root a = tree_in a (length a.entries - 1)

-- all numbers are below a bound, as the parts of a node are below it
abbrev pub AreBelow : ℕ → List ℕ → Type 0
AreBelow n [] = Unit {0}
AreBelow n (i ∷ is) = (i < n) × AreBelow n is
