-- The width of a written type.
use Rattle.std.proofs.Common.{◌≡◌, refl, ap, ◌∙◌, ℕ, Bool, true, false, List, [], ◌∷◌}
use Rattle.std.specs.Prelude.{bytes_eq, codes, if◌then◌else◌, Option, Some, None, unwrap_or}
use Rattle.kr_base.specs.declared.place.Place.{Place}
use Rattle.kr_ast.specs.Arena.{Arena, tree_in, tree_of}
use Rattle.kr_ast.specs.declared.node.Entry.{Entry}
use Rattle.kr_ast.specs.declared.node.Node.{Node}
use Rattle.kr_ast.specs.declared.node.Node.TheVariants as nodes
use Rattle.kr_ast.specs.declared.node.Primitive.{Primitive}
use Rattle.kr_ast.specs.declared.node.Primitive.TheVariants as primitives
use Rattle.kr_ast.specs.Tree as trees
use Rattle.kr_ast.specs.Tree.{Tree}
use Rattle.kr_classes_table.specs.Numbers.{Bits32}
use Rattle.kr_classes_table.specs.Types.{JavaType, UnknownType, SetType, ListType, AppliedType, width_in}
use Rattle.kr_classes_table.specs.Table.{Heading, applied, class_named, class_or, type_named}
use Rattle.kr_classes_table.specs.Constants.{number_width}

-- a name's type has no width of its own
class_width : (c : Option ℕ) (o n : List ℕ) → Bits32 ≡ width_in (class_or c (UnknownType o n))
class_width None o n = refl
class_width (Some c) o n = refl

applied_width : (h t : JavaType) → Bits32 ≡ width_in (applied h t)
applied_width (UnknownType [] n) t = go (bytes_eq n (codes "HashSet")) (bytes_eq n (codes "LinkedList"))
  where
    go : (a b : Bool) → Bits32 ≡ width_in (if a then SetType t else if b then ListType t else AppliedType (UnknownType [] n) t)
    go true b = refl
    go false true = refl
    go false false = refl
applied_width (UnknownType (o ∷ os) n) t = refl
applied_width _ t = refl

-- the width of a written type is that of the type
pub written_width : (hs : List Heading) (t : Tree) → unwrap_or (number_width t) Bits32 ≡ width_in (type_named hs t)
written_width hs (trees.PrimitiveType p primitives.Int) = refl
written_width hs (trees.PrimitiveType p primitives.Long) = refl
written_width hs (trees.PrimitiveType p primitives.Boolean) = refl
written_width hs (trees.PrimitiveType p primitives.Void) = refl
written_width hs (trees.NamedType p n) = class_width (class_named hs (trees.NamedType p n)) [] n
written_width hs (trees.QualifiedType p o n) = class_width (class_named hs (trees.QualifiedType p o n)) o n
written_width hs (trees.GenericType p h a) = applied_width (type_named hs h) (type_named hs a)
written_width hs (trees.DiamondType p h) = applied_width (type_named hs h) Rattle.kr_classes_table.specs.Types.InferredType
written_width hs _ = refl

pub width_at : (a : Arena) (i : ℕ) (e : Entry) → tree_in a i ≡ tree_of a.text (tree_in a) e.place e.node → (k : Primitive) → e.node ≡ nodes.PrimitiveType k → number_width (tree_in a i) ≡ number_width (trees.PrimitiveType e.place k)
width_at a i e h k is = ap number_width (h ∙ ap (tree_of a.text (tree_in a) e.place) is)

pub no_number : (text : List ℕ) (look : ℕ → Tree) (p : Place) (n : Node) → ((k : Primitive) → n ≡ nodes.PrimitiveType k → ⊥) → number_width (tree_of text look p n) ≡ None
no_number text look p (nodes.PrimitiveType k) h = absurd (h k refl)
no_number text look p _ h = refl
