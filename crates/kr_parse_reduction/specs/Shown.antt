-- Between crates: the parser's values as the machine's.
use Rattle.std.specs.Prelude.{◌≡◌, ℕ, ◌+◌, ◌≤◌, List, [], ◌∷◌, ◌++◌, Option, Some, None, length, take, drop}
use Rattle.kr_ast.specs.declared.node.Name.{Name}
use Rattle.kr_ast.specs.Tree.{size}
use Rattle.kr_ast.specs.Arena.{Arena, name_in, tree_at, tree_of, parts, names, AreNamesIn}
use Rattle.kr_ast.specs.Forest.{AreRoots, IsIn}
use Rattle.kr_parse_grammar.specs.Values.{StackItem, mark, word, pair, part, member, owner}
use Rattle.kr_parse_reduction.specs.declared.value.Kept.{Kept}
use Rattle.kr_parse_reduction.specs.declared.value.Kept.TheVariants.{Mark, Word, Pair, Part, Member, Owner}
use Rattle.kr_parse_reduction.specs.declared.plan.Plan.{Plan}
use Rattle.kr_parse_reduction.specs.declared.moves.Move.{Move}
use Rattle.kr_parse_reduction.specs.Perm.{Perm}

abbrev pub item : Arena → Kept → StackItem
item a (Mark k p) = mark k p
item a (Word p n) = word p (name_in a.text n)
item a (Pair p o n) = pair p (name_in a.text o) (name_in a.text n)
item a (Part p f i) = part p f (tree_at a.text a.entries i)
item a (Member b m) = member b m
item a (Owner b p n) = owner b p (name_in a.text n)

-- the values
abbrev pub shown : Arena → List Kept → List StackItem
shown a [] = []
shown a (v ∷ vs) = item a v ∷ shown a vs

-- the nodes among them
abbrev pub nodes_of : List Kept → List ℕ
nodes_of [] = []
nodes_of (Part p f i ∷ vs) = i ∷ nodes_of vs
nodes_of (v ∷ vs) = nodes_of vs

-- the names among them
abbrev pub names_of : List Kept → List Name
names_of [] = []
names_of (Word p n ∷ vs) = n ∷ names_of vs
names_of (Pair p o n ∷ vs) = o ∷ n ∷ names_of vs
names_of (Owner b p n ∷ vs) = n ∷ names_of vs
names_of (v ∷ vs) = names_of vs

-- how many nodes the trees of the values have
abbrev pub sizes : List StackItem → ℕ
sizes [] = 0
sizes (part p f t ∷ vs) = size t + sizes vs
sizes (v ∷ vs) = sizes vs

-- every node belongs to the tree of one value, the last node is the top of one, and every name is in the text
pub record AreBuilt (a : Arena) (vs : List Kept) : Type 0 where
  pub roots : AreRoots a.entries (nodes_of vs)
  pub named : AreNamesIn a.text (names_of vs)
  pub count : length a.entries ≡ sizes (shown a vs)
  pub last : (i : ℕ) → i + 1 ≡ length a.entries → IsIn i (nodes_of vs)

abbrev pub listed : Option Kept → List Kept
listed None = []
listed (Some v) = v ∷ []

-- A node may take the place of values, below one that may stay: the nodes among these become its parts or stay.
pub record Fits (text : List ℕ) (vs : List Kept) (s : Plan) (o : Option Kept) : Type 0 where
  pub within : s.taken ≤ length vs
  pub same : Perm (nodes_of (take s.taken vs)) (parts s.node ++ nodes_of (listed o))
  pub named : AreNamesIn text (names s.node ++ names_of (listed o))

-- the values with the node i in their place
abbrev pub stacked : Plan → Option Kept → ℕ → List Kept → List Kept
stacked s o i vs = listed o ++ Part s.place s.form i ∷ drop s.taken vs

abbrev pub planned : Arena → List Kept → Plan → Option Kept → List StackItem
planned a vs s o = shown a (listed o) ++ part s.place s.form (tree_of a.text (tree_at a.text a.entries) s.place s.node) ∷ drop s.taken (shown a vs)

abbrev pub moving : Move → List Kept
moving m = m.top ∷ listed m.below

-- Values may replace others: they have the same nodes.
pub record FitsMove (text : List ℕ) (vs : List Kept) (m : Move) : Type 0 where
  pub within : m.taken ≤ length vs
  pub same : Perm (nodes_of (take m.taken vs)) (nodes_of (moving m))
  pub named : AreNamesIn text (names_of (moving m))

abbrev pub moved : Move → List Kept → List Kept
moved m vs = moving m ++ drop m.taken vs
