-- Between crates: the outcome of an expression, with the pending work on the way.
use Rattle.std.specs.Prelude.{ℕ, ◌+◌, ◌*◌, ◌<◌, pos, List, [], ◌∷◌, if◌then◌else◌, Option, Some, None}
use Rattle.kr_base.specs.declared.place.Place.{Place}
use Rattle.kr_ast.specs.Tree.{size}
use Rattle.kr_ast.specs.declared.node.Node.{Node}
use Rattle.kr_ast.specs.declared.node.Node.TheVariants as nodes
use Rattle.kr_ast.specs.Arena.{Arena, name_in, tree_in, tree_of}
use Rattle.kr_classes_table.specs.Table.{Table, Field}
use Rattle.kr_value.specs.declared.value.Value.TheVariants.{Int, Bool as Truth, Null}
use Rattle.kr_classes_table.specs.Numbers.{Bits32, Bits64, wrap}
use Rattle.kr_classes_table.specs.Constants.{Known, known_value, field_meant, field_width, constant_of, class_meant, is_primitive, number_width}
use Rattle.kr_classes_constants.specs.declared.frames.Frame.{Frame}
use Rattle.kr_classes_constants.specs.declared.frames.Frame.TheVariants.{Operand, Left, Right, Condition, Holds, Fails, Cast}
use Rattle.kr_classes_constants.specs.declared.frames.Task.{Task}
use Rattle.kr_classes_constants.specs.declared.frames.Task.TheVariants.{Look, Give}
use Rattle.kr_classes_constants.specs.Outcomes.{Sized, sized, sized_of, unary_sized, binary_sized, conditional_sized, cast_sized, known_outcome, found_shown}

-- the context of an expression: the class table, the known constants, the class, and the tree of its file
pub record Setting : Type 0 where
  pub table : Table
  pub known : List Known
  pub class : ℕ
  pub tree : Arena

abbrev pub setting : Table → List Known → ℕ → Arena → Setting
setting t known c a = record { table = t; known = known; class = c; tree = a }

-- the outcome of the expression at a node, and its width
abbrev pub outcome_at : Setting → ℕ → Sized
outcome_at s i = sized_of s.table s.known s.class (tree_in s.tree i)

-- of a name
abbrev pub field_outcome : Setting → Option Field → Sized
field_outcome s f = sized (field_width f) (known_outcome (known_value s.known f))

-- the outcome of a node from those of its parts
abbrev pub node_outcome : Setting → Node → Sized
node_outcome s (nodes.Number n) = sized Bits32 (Some (Some (Int (wrap Bits32 (pos n)))))
node_outcome s (nodes.LongNumber n) = sized Bits64 (Some (Some (Int (wrap Bits64 (pos n)))))
node_outcome s (nodes.Truth b) = sized Bits32 (Some (Some (Truth b)))
node_outcome s nodes.Null = sized Bits32 (Some (Some Null))
node_outcome s (nodes.Variable n) = field_outcome s (field_meant s.table s.class (name_in s.tree.text n))
node_outcome s (nodes.FieldAccess x n) = field_outcome s (constant_of s.table (class_meant s.table s.class (tree_in s.tree x)) (name_in s.tree.text n))
node_outcome s (nodes.Unary o x) = unary_sized o (outcome_at s x)
node_outcome s (nodes.Binary o x y) = binary_sized o (outcome_at s x) (outcome_at s y)
node_outcome s (nodes.Conditional x y z) = conditional_sized (outcome_at s x) (outcome_at s y) (outcome_at s z)
node_outcome s (nodes.Cast k x) = if is_primitive (tree_in s.tree k) then cast_sized (number_width (tree_in s.tree k)) (outcome_at s x) else sized Bits32 None
node_outcome s _ = sized Bits32 None

abbrev pub given : Setting → Task → Sized
given s (Look i) = outcome_at s i
given s (Give v) = found_shown v

-- the outcome of the whole, if the innermost frame is given this one
abbrev pub resumed : Setting → List Frame → Sized → Sized
resumed s [] v = v
resumed s (Operand o ∷ fs) v = resumed s fs (unary_sized o v)
resumed s (Left o b ∷ fs) v = resumed s fs (binary_sized o v (outcome_at s b))
resumed s (Right o a ∷ fs) v = resumed s fs (binary_sized o (found_shown a) v)
resumed s (Condition a b ∷ fs) v = resumed s fs (conditional_sized v (outcome_at s a) (outcome_at s b))
resumed s (Holds c b ∷ fs) v = resumed s fs (conditional_sized (found_shown c) v (outcome_at s b))
resumed s (Fails c a ∷ fs) v = resumed s fs (conditional_sized (found_shown c) (found_shown a) v)
resumed s (Cast w ∷ fs) v = resumed s fs (cast_sized w v)

abbrev pub whole : Setting → Task → List Frame → Sized
whole s task fs = resumed s fs (given s task)

-- ---- each node is one of the tree

abbrev pub IsWithin : ℕ → Task → Type 0
IsWithin n (Look i) = i < n
IsWithin n (Give v) = Unit {0}

abbrev pub AreWithin : ℕ → List Frame → Type 0
AreWithin n [] = Unit {0}
AreWithin n (Operand o ∷ fs) = AreWithin n fs
AreWithin n (Left o b ∷ fs) = (b < n) × AreWithin n fs
AreWithin n (Right o a ∷ fs) = AreWithin n fs
AreWithin n (Condition a b ∷ fs) = (a < n) × (b < n) × AreWithin n fs
AreWithin n (Holds c b ∷ fs) = (b < n) × AreWithin n fs
AreWithin n (Fails c a ∷ fs) = AreWithin n fs
AreWithin n (Cast w ∷ fs) = AreWithin n fs

-- ---- how much is still to be done

abbrev pub node_weight : Arena → ℕ → ℕ
node_weight a i = 2 * size (tree_in a i)

-- the weight of a node with these parts
abbrev pub tree_weight : Arena → Place → Node → ℕ
tree_weight a p n = 2 * size (tree_of a.text (tree_in a) p n)

abbrev pub frame_weights : Arena → List Frame → ℕ
frame_weights a [] = 0
frame_weights a (Operand o ∷ fs) = 1 + frame_weights a fs
frame_weights a (Left o r ∷ fs) = node_weight a r + (1 + frame_weights a fs)
frame_weights a (Right o l ∷ fs) = 1 + frame_weights a fs
frame_weights a (Condition h f ∷ fs) = node_weight a h + (node_weight a f + (1 + frame_weights a fs))
frame_weights a (Holds c f ∷ fs) = node_weight a f + (1 + frame_weights a fs)
frame_weights a (Fails c h ∷ fs) = 1 + frame_weights a fs
frame_weights a (Cast w ∷ fs) = 1 + frame_weights a fs

abbrev pub weights : Arena → Task → List Frame → ℕ
weights a (Look i) fs = node_weight a i + frame_weights a fs
weights a (Give v) fs = 1 + frame_weights a fs
