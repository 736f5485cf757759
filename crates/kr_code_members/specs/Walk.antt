-- Between crates: the way from a file to the members of its classes.
use Rattle.std.specs.Prelude.{◌≡◌, ◌<◌, ℕ, Option, true, false, List, [], ◌∷◌, flat_map, Some, None, slice_index_or}
use Rattle.kr_ast.specs.Tree as trees
use Rattle.kr_ast.specs.Tree.{Tree}
use Rattle.kr_classes_table.specs.Table.{Field, Heading, declared_in, fields_in, heading_of, items, number_of}
use Rattle.kr_types_meaning.specs.Scopes.{Scope, after, declaring, field_kind, static_if}
use Rattle.kr_laws_types.specs.Derivation.{AreDeclarators, IsDeclarator, IsMember}
use Rattle.kr_ast.specs.declared.files.NodeId.{NodeId}
use Rattle.kr_types.specs.declared.program.Program.{Program}
use Rattle.kr_code_members.specs.declared.fields.FieldLine.{FieldLine}
use Rattle.kr_code_members.specs.Nodes.{IsThere, members_scope, node_scope, node_tree, table}
use Rattle.kr_base.specs.Places.{nowhere}

-- ---- lists

-- after each item the scope is the one before it
abbrev pub AreStill : Scope → List Tree → Type 0
AreStill s [] = Unit {0}
AreStill s (t ∷ ts) = (after s t ≡ s) × AreStill s ts

-- the node is there, in this scope
pub record IsIn (p : Program) (f : ℕ) (s : Scope) (i : ℕ) : Type 0 where
  pub there : IsThere p f i
  pub scope : node_scope p f i ≡ s

-- a list of an item and the rest
pub record IsSplit (p : Program) (f l a b : ℕ) : Type 0 where
  pub behind : b < l
  pub shown : items (node_tree p f l) ≡ node_tree p f a ∷ items (node_tree p f b)
  pub stand : (s : Scope) → IsIn p f s l → AreStill s (items (node_tree p f l)) → IsIn p f s a × IsIn p f s b

-- ---- classes

-- a class of a file, or a member of a class
pub record IsItem (p : Program) (f i : ℕ) : Type 0 where
  pub there : IsThere p f i
  pub shape : IsMember false (node_tree p f i)

abbrev pub no_heading : Heading
no_heading = record { name = []; place = nowhere; outer = None; extended = trees.Nil; members = [] }

abbrev pub heading_numbered : Program → ℕ → Heading
heading_numbered p c = slice_index_or (table p).headings c no_heading

-- a class's node has this head
pub record HasHeading (p : Program) (h : Heading) (n : NodeId) : Type 0 where
  pub there : IsThere p n.file n.node
  pub heading : heading_of h.outer (node_tree p n.file n.node) ≡ h ∷ []
  pub shape : IsMember false (node_tree p n.file n.node)

-- the node of the class with this number
pub record IsClassNode (p : Program) (c : ℕ) (n : NodeId) : Type 0 where
  pub node : HasHeading p (heading_numbered p c) n
  pub number : number_of (table p).headings (heading_numbered p c).name ≡ Some c

abbrev pub members_of : Heading → List Tree
members_of h = h.members

-- the list of the members of the class that a node is
pub record IsMemberList (p : Program) (f i l : ℕ) : Type 0 where
  pub there : IsThere p f l
  pub shape : IsMember true (node_tree p f l)
  pub listed : (o : Option ℕ) → flat_map members_of (heading_of o (node_tree p f i)) ≡ items (node_tree p f l)
  pub scope : (h : Heading) (c : ℕ) → heading_of h.outer (node_tree p f i) ≡ h ∷ [] → number_of (table p).headings h.name ≡ Some c → node_scope p f l ≡ members_scope p c

-- ---- methods and constructors

-- a list of parameters and nothing else
abbrev pub AreParameters : Tree → Type 0
AreParameters trees.Nil = Unit {0}
AreParameters (trees.Cons (trees.Parameter p t n) b) = AreParameters b
AreParameters t = ⊥

-- ---- fields

abbrev pub line_scope : Program → ℕ → ℕ → FieldLine → Scope
line_scope p f c l = static_if l.is_static (declaring (field_kind l.is_static l.is_final) (node_tree p f l.declared) (members_scope p c))

-- the fields that a declarator of the line declares
abbrev pub declared_on : Program → ℕ → ℕ → FieldLine → ℕ → List Field
declared_on p f c l d = declared_in (table p).headings c l.is_static l.is_final (node_tree p f l.declared) (node_tree p f d)

-- the line of fields that a member is
pub record IsLine (p : Program) (f c i : ℕ) (l : FieldLine) : Type 0 where
  pub list : IsIn p f (line_scope p f c l) l.declarators
  pub shape : AreDeclarators (node_tree p f l.declarators)
  pub declares : fields_in (table p).headings c (node_tree p f i) ≡ flat_map (declared_in (table p).headings c l.is_static l.is_final (node_tree p f l.declared)) (items (node_tree p f l.declarators))

-- one of its declarators
pub record IsOnLine (p : Program) (f c : ℕ) (l : FieldLine) (d : ℕ) : Type 0 where
  pub node : IsIn p f (line_scope p f c l) d
  pub shape : IsDeclarator (node_tree p f d)
