-- Between crates: the builder's values and nodes.
use Rattle.std.specs.Prelude.{◌≡◌, List, [], ◌∷◌, length}
use Rattle.kr_base.specs.declared.place.Place.{Place}
use Rattle.kr_ast.specs.declared.node.Node.{Node}
use Rattle.kr_ast.specs.Tree.{Tree, Nil, size}
use Rattle.kr_ast.specs.Arena.{Arena, tree_of, root}
use Rattle.kr_parse_grammar.specs.declared.value.Form.{Form}
use Rattle.kr_parse_grammar.specs.declared.value.Form.TheVariants.{Other}
use Rattle.kr_parse_grammar.specs.Values.{StackItem, part}
use Rattle.kr_parse_reduction.specs.Shown.{shown, AreBuilt}
use Rattle.kr_parse_trees.specs.declared.builder.Builder.{Builder}

-- the builder's values and nodes belong together. So it is but where memory was refused while something was made.
abbrev pub IsBuilt : Builder → Type 0
IsBuilt b = AreBuilt b.forest b.values

abbrev pub values_of : Builder → List StackItem
values_of b = shown b.forest b.values

-- the tree of a node without parts or names
abbrev pub leaf : Place → Node → StackItem
leaf p n = part p Other (tree_of [] (λ i. Nil) p n)

-- one tree and nothing else
abbrev pub IsOnePart : List StackItem → Type 0
IsOnePart is = (p : Place) × (f : Form) × (t : Tree) × (is ≡ part p f t ∷ [])

-- the arena's root is that tree, and it has no other nodes
abbrev pub IsTreeOf : List StackItem → Arena → Type 0
IsTreeOf is a = (p : Place) (f : Form) (t : Tree) → is ≡ part p f t ∷ [] → (root a ≡ t) × (length a.entries ≡ size t)
