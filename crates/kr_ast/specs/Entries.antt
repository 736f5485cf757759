-- Between crates: entries in few bytes. A node that fits into two words is kept beside its place and its parent; the others, and
-- those of another file than the first, are kept in a second list.
use Rattle.std.specs.Prelude.{ℕ, ◌<◌, ◌≡◌, Bool, true, false, List, map, slice_index_or, if◌then◌else◌}
use Rattle.kr_ast.specs.declared.node.Node.{Node}
use Rattle.kr_ast.specs.declared.node.Node.TheVariants as nodes
use Rattle.kr_ast.specs.declared.node.Entry.{Entry}
use Rattle.kr_ast.specs.declared.shapes.Shape.{Shape}
use Rattle.kr_ast.specs.declared.shapes.Shape.TheVariants as shapes
use Rattle.kr_ast.specs.declared.short_entry.ShortEntry.{ShortEntry}
use Rattle.kr_ast.specs.declared.short_entry.LongNode.{LongNode}

pub record Entries : Type 0 where
  pub items : List Entry

abbrev pub is_long : Shape → Bool
is_long shapes.Long = true
is_long _ = false

-- the node of a shape with two words
abbrev pub node_of : Shape → ℕ → ℕ → Node
node_of shapes.Nil a b = nodes.Nil
node_of shapes.Cons a b = nodes.Cons a b
node_of (shapes.PrimitiveType x) a b = nodes.PrimitiveType x
node_of shapes.NamedType a b = nodes.NamedType (record { start = a; end = b })
node_of shapes.GenericType a b = nodes.GenericType a b
node_of shapes.DiamondType a b = nodes.DiamondType a
node_of shapes.ArrayType a b = nodes.ArrayType a
node_of shapes.Number a b = nodes.Number a
node_of (shapes.Truth x) a b = nodes.Truth x
node_of shapes.Null a b = nodes.Null
node_of shapes.This a b = nodes.This
node_of shapes.Variable a b = nodes.Variable (record { start = a; end = b })
node_of shapes.ArrayAccess a b = nodes.ArrayAccess a b
node_of shapes.ObjectCreation a b = nodes.ObjectCreation a b
node_of shapes.ArrayCreation a b = nodes.ArrayCreation a b
node_of (shapes.Unary x) a b = nodes.Unary x a
node_of (shapes.Step x) a b = nodes.Step x a
node_of (shapes.Binary x) a b = nodes.Binary x a b
node_of shapes.InstanceOf a b = nodes.InstanceOf a b
node_of shapes.Cast a b = nodes.Cast a b
node_of shapes.Assignment a b = nodes.Assignment a b
node_of (shapes.CompoundAssignment x) a b = nodes.CompoundAssignment x a b
node_of shapes.Result a b = nodes.Result
node_of shapes.Old a b = nodes.Old a
node_of shapes.Empty a b = nodes.Empty
node_of shapes.Block a b = nodes.Block a
node_of shapes.Local a b = nodes.Local a b
node_of shapes.ExpressionStatement a b = nodes.ExpressionStatement a
node_of shapes.Return a b = nodes.Return a
node_of shapes.Break a b = nodes.Break
node_of shapes.Continue a b = nodes.Continue
node_of shapes.IfThen a b = nodes.IfThen a b
node_of shapes.While a b = nodes.While a b
node_of shapes.Do a b = nodes.Do a b
node_of shapes.Throw a b = nodes.Throw a
node_of shapes.Try a b = nodes.Try a b
node_of shapes.Catch a b = nodes.Catch a b
node_of shapes.ConstructorCall a b = nodes.ConstructorCall a
node_of shapes.Requires a b = nodes.Requires a
node_of shapes.Ensures a b = nodes.Ensures a
node_of shapes.Signals a b = nodes.Signals a b
node_of shapes.Long a b = nodes.Nil

abbrev pub no_node : LongNode
no_node = record { file = 0; node = nodes.Nil }

-- an entry, by the file of most entries and the node of the second list
abbrev pub entry_by : ℕ → LongNode → ShortEntry → Entry
entry_by file l s = record {
  place = record { file = (if is_long s.shape then l.file else file); line = s.line; col = s.col };
  node = (if is_long s.shape then l.node else node_of s.shape s.first s.second);
  parent = s.parent;
  position = s.position;
}

abbrev pub entry_shown : ℕ → List LongNode → ShortEntry → Entry
entry_shown file longs s = entry_by file (slice_index_or longs s.first no_node) s

abbrev pub entries_shown : ℕ → List LongNode → List ShortEntry → List Entry
entries_shown file longs shorts = map (entry_shown file longs) shorts

-- a node that doesn't fit is in the second list
abbrev pub IsKept : ℕ → ShortEntry → Type 0
IsKept n s = is_long s.shape ≡ true → s.first < n
