-- Between crates: lists of nodes as links that follow one another.
use Rattle.std.specs.Prelude.{◌≡◌, ℕ, List, ◌∷◌, take, drop}
use Rattle.kr_ast.specs.declared.node.Entry.{Entry}
use Rattle.kr_ast.specs.declared.node.Node.TheVariants.{Cons}
use Rattle.kr_classes_table.specs.Table.{items}
use Rattle.kr_types_meaning.specs.Running.{running}
use Rattle.kr_classes_names.specs.ListedTypes.{IsGrown}
use Rattle.kr_types.specs.declared.program.Program.{Program}
use Rattle.kr_code.specs.declared.expression.Nodes.{Nodes}
use Rattle.kr_code.specs.Resolved.{AreParts}
use Rattle.kr_code_lowering.specs.declared.site.Site.{Site}
use Rattle.kr_code_lowering.specs.Origins.{Final, numbering_of}
use Rattle.kr_code_lowering.specs.Sites.{IsHere, number_at, scope_at, tree_at}

-- these numbers are those of the items of the node's list
abbrev pub AreItems : Program → Site → List ℕ → Type 0
AreItems p s is = (final : Final) → AreParts (numbering_of p final) (running (scope_at p s)) (items (tree_at p s)) is

-- an item comes before those that follow it
abbrev pub IsAhead : Program → Site → ℕ → ℕ → Type 0
IsAhead p s item rest = (is : List ℕ) → AreItems p (record s { node = rest }) is → AreItems p s (number_at p s item ∷ is)

-- so do the links at these nodes, also when there are more
abbrev pub AreLinked : Program → Site → List ℕ → Nodes → Type 0
AreLinked p s links ns = (more : List ℕ) → IsGrown links more → AreItems p s (take ns.count (drop ns.first more))

-- the node is a list of this item and the rest
pub record IsList (p : Program) (s : Site) (item rest : ℕ) : Type 0 where
  pub entry : Entry
  pub here : IsHere p s entry
  pub node : entry.node ≡ Cons item rest
