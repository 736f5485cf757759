-- Between crates: the nodes of the members of classes and of their parts, and their scopes.
use Rattle.std.specs.Prelude.{◌≡◌, ℕ, ◌<◌, false, List, [], ◌∷◌, length, map, All, Option, Some, None, slice_get}
use Rattle.std.specs.List.{AllZip}
use Rattle.kr_ast.specs.Arena.{Arena, ArePartsFrom, parts, root, tree_in, tree_of}
use Rattle.kr_ast.specs.Tree as trees
use Rattle.kr_ast.specs.declared.node.Entry.{Entry}
use Rattle.kr_classes_table.specs.Types.{JavaType}
use Rattle.kr_classes_table.specs.Table as tables
use Rattle.kr_classes_table.specs.Table.{Table, constructors_in, items, methods_in, own_fields}
use Rattle.kr_classes_table.specs.Constants.{values_of}
use Rattle.kr_types_meaning.specs.Scopes.{Scope, scope_of, static_if}
use Rattle.kr_laws_types.specs.Derivation.{AreClasses, AreContractLines, AreStatements, IsMember, MayBeExpression, MayCallSuper}
use Rattle.kr_types_meaning.specs.Running.{running}
use Rattle.kr_ast.specs.Files.{file_at}
use Rattle.kr_classes_members.specs.Shown.{table_in}
use Rattle.kr_classes_names.specs.Types.{type_at}
use Rattle.kr_types.specs.declared.program.Program.{Program}
use Rattle.kr_types.specs.declared.program.TypedFile.{TypedFile}
use Rattle.kr_types.specs.Programs.{scope_there}
use Rattle.kr_classes_members.specs.Rosters.{all_methods, method_numbered}
use Rattle.kr_mean.specs.Program as meaning
use Rattle.kr_mean.specs.Program.{constructor_of, constructor_scope, method_scope, program_with}
use Rattle.kr_code_members.specs.declared.nodes.FieldNode.{FieldNode}
use Rattle.kr_code_members.specs.declared.nodes.MethodNode.{MethodNode}
use Rattle.kr_code_members.specs.declared.nodes.ConstructorNode.{ConstructorNode}
use Rattle.kr_code_members.specs.declared.nodes.ClassNodes.{ClassNodes}
use Rattle.kr_code_members.specs.declared.nodes.MemberNodes.{MemberNodes}

-- ---- nodes of a program's files

abbrev pub table : Program → Table
table p = table_in p.trees.items

-- the program that runs, with the array types of these numbers
abbrev pub run_program : Program → List ℕ → meaning.Program
run_program p arrays = program_with (table p) (map (type_at p.table.types) arrays)

-- the scope of a class's members
abbrev pub members_scope : Program → ℕ → Scope
members_scope p c = scope_of (table p) (values_of (table p)) c

abbrev pub scope_in : Program → ℕ → ℕ → Option TypedFile → Scope
scope_in p f i None = members_scope p 0
scope_in p f i (Some t) = scope_there p.trees.items f t i

-- the scope that typing has of a node of a file
abbrev pub node_scope : Program → ℕ → ℕ → Scope
node_scope p f i = scope_in p f i (slice_get p.files.items f)

abbrev pub arena_at : Program → ℕ → Arena
arena_at p f = file_at p.trees.items f

abbrev pub node_tree : Program → ℕ → ℕ → trees.Tree
node_tree p f i = tree_in (arena_at p f) i

-- the node is there
pub record IsThere (p : Program) (f i : ℕ) : Type 0 where
  pub file : f < length p.trees.items
  pub node : i < length (arena_at p f).entries

-- with this entry
pub record IsHere (p : Program) (f i : ℕ) (e : Entry) : Type 0 where
  pub there : IsThere p f i
  pub tree : node_tree p f i ≡ tree_of (arena_at p f).text (tree_in (arena_at p f)) e.place e.node
  pub parts : ArePartsFrom (arena_at p f).entries i 0 (parts e.node)

-- The files are lists of classes, as the grammar derives them.
abbrev pub AreShaped : Program → Type 0
AreShaped p = All (λ a. AreClasses (root a)) p.trees.items

-- ---- members

-- the node of a member of the class
pub record IsMemberNode (p : Program) (f c i : ℕ) : Type 0 where
  pub there : IsThere p f i
  pub scope : node_scope p f i ≡ members_scope p c
  pub shape : IsMember false (node_tree p f i)

-- the nodes of a method, its contract lines and its statements, which run in the scope that the meaning has for it
pub record IsMethodNode (p : Program) (m : tables.Method) (n : MethodNode) : Type 0 where
  pub class : n.class ≡ m.class
  pub member : IsMemberNode p n.file m.class n.node
  pub declares : methods_in (table p).headings m.class (node_tree p n.file n.node) ≡ m ∷ []
  pub contracts_there : IsThere p n.file n.contracts
  pub contracts : items (node_tree p n.file n.contracts) ≡ m.contracts
  pub contracts_scope : (arrays : List JavaType) → running (node_scope p n.file n.contracts) ≡ method_scope (program_with (table p) arrays) m
  pub contracts_shape : AreContractLines (node_tree p n.file n.contracts)
  pub body_there : IsThere p n.file n.body
  pub body : items (node_tree p n.file n.body) ≡ m.body
  pub body_scope : (arrays : List JavaType) → running (node_scope p n.file n.body) ≡ method_scope (program_with (table p) arrays) m
  pub body_shape : AreStatements (node_tree p n.file n.body)

-- the node of a field's initial value, which may be absent
pub record IsFieldNode (p : Program) (f : tables.Field) (n : FieldNode) : Type 0 where
  pub there : IsThere p n.file n.initial
  pub is_static : n.is_static ≡ f.is_static
  pub initial : node_tree p n.file n.initial ≡ f.initial
  pub scope : running (node_scope p n.file n.initial) ≡ static_if f.is_static (members_scope p f.class)
  pub shape : MayBeExpression (node_tree p n.file n.initial)

-- the nodes of a constructor, its call of the superclass's, which may be absent, and its statements
pub record IsConstructorNode (p : Program) (c : ℕ) (k : tables.Constructor) (n : ConstructorNode) : Type 0 where
  pub member : IsMemberNode p n.file c n.node
  pub declares : constructors_in (table p).headings (node_tree p n.file n.node) ≡ k ∷ []
  pub call_there : IsThere p n.file n.super_call
  pub call : node_tree p n.file n.super_call ≡ k.call
  pub call_scope : (arrays : List JavaType) → running (node_scope p n.file n.super_call) ≡ constructor_scope (program_with (table p) arrays) c k
  pub call_shape : MayCallSuper (node_tree p n.file n.super_call)
  pub body_there : IsThere p n.file n.body
  pub body : items (node_tree p n.file n.body) ≡ k.body
  pub body_scope : (arrays : List JavaType) → running (node_scope p n.file n.body) ≡ constructor_scope (program_with (table p) arrays) c k
  pub body_shape : AreStatements (node_tree p n.file n.body)

abbrev pub IsMaybeConstructorNode : Program → ℕ → Option tables.Constructor → Option ConstructorNode → Type 0
IsMaybeConstructorNode p c None None = Unit {0}
IsMaybeConstructorNode p c (Some k) (Some n) = IsConstructorNode p c k n
IsMaybeConstructorNode p c k n = ⊥

-- ---- all

-- of a class its own fields and constants, and its constructor
pub record IsClassNodes (p : Program) (c : ℕ) (n : ClassNodes) : Type 0 where
  pub fields : AllZip (IsFieldNode p) (own_fields (table p) c) n.fields.items
  pub constructor : IsMaybeConstructorNode p c (constructor_of (program_with (table p) []) c) n.constructor

-- the methods of all classes and the classes, by their numbers
pub record AreMemberNodes (p : Program) (n : MemberNodes) : Type 0 where
  pub method_count : length n.methods.items ≡ length (all_methods (table p))
  pub methods : (k : ℕ) (m : MethodNode) → slice_get n.methods.items k ≡ Some m → IsMethodNode p (method_numbered (table p) k) m
  pub class_count : length n.classes.items ≡ length (table p).classes
  pub classes : (c : ℕ) (k : ClassNodes) → slice_get n.classes.items c ≡ Some k → IsClassNodes p c k
