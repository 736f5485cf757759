-- Between crates: names with `<` between them.
use Rattle.std.specs.Prelude.{◌≡◌, ℕ, ◌<◌, ◌≤◌, Bool, true, false, List, ◌∷◌, Option, Some, None, length, take, drop, slice_get, slice_set}
use Rattle.kr_base.specs.declared.place.Place.{Place}
use Rattle.kr_ast.specs.Tree.{Tree, Nil, Variable, FieldAccess, Binary, InstanceOf}
use Rattle.kr_ast.specs.Arena.{Arena, name_in, tree_at}
use Rattle.kr_parse_grammar.specs.declared.value.Form.{Form}
use Rattle.kr_parse_grammar.specs.declared.value.Form.TheVariants.{Other}
use Rattle.kr_ast.specs.declared.node.BinaryOperator.TheVariants.{Less}
use Rattle.kr_parse_reduction.specs.Kept.{place_at, node_at, value_at, value_in, is_of}
use Rattle.kr_parse_reduction.specs.declared.value.Sort.TheVariants as sort
use Rattle.kr_parse_grammar.specs.Values.{StackItem, part}
use Rattle.kr_parse_grammar.specs.Made.{compared}
use Rattle.kr_parse_reduction.specs.declared.value.Kept.{Kept}
use Rattle.kr_parse_reduction.specs.declared.value.Kept.TheVariants.{Word, Pair, Part}
use Rattle.kr_parse_reduction.specs.Shown.{shown, AreBuilt}

-- the value at a depth is a name
abbrev pub is_name_in : Option Kept → Bool
is_name_in (Some (Word p n)) = true
is_name_in (Some (Pair p o n)) = true
is_name_in _ = false

abbrev pub is_named : List Kept → ℕ → Bool
is_named vs i = is_name_in (slice_get vs i)

abbrev pub AreNamed : List Kept → ℕ → ℕ → Type 0
AreNamed vs from to = (i : ℕ) → from ≤ i → i < to → is_named vs i ≡ true

-- the expression that a name is
abbrev pub operand : List ℕ → Kept → Tree
operand text (Word p n) = Variable p (name_in text n)
operand text (Pair p o n) = FieldAccess p (Variable p (name_in text o)) (name_in text n)
operand text _ = Nil

-- the value at a depth is a tree
abbrev pub is_tree_at : List Kept → ℕ → Bool
is_tree_at vs i = is_of sort.Part (value_at vs i)

-- the values without the topmost, and with a mark instead of the one at a depth
abbrev pub without : List Kept → ℕ → List Kept
without vs i = drop 1 (slice_set vs i (value_in None))

-- the tree at a depth tested by the type on top
abbrev pub test_of : Arena → List Kept → ℕ → StackItem
test_of a vs i = part (place_at vs i) Other (InstanceOf (place_at vs i) (tree_at a.text a.entries (node_at vs i)) (tree_at a.text a.entries (node_at vs 0)))

-- the tree on top compared with the name at a depth
abbrev pub less_of : Arena → List Kept → ℕ → StackItem
less_of a vs i = part (place_at vs 0) Other (Binary (place_at vs 0) Less (tree_at a.text a.entries (node_at vs 0)) (operand a.text (value_at vs i)))

-- The values from depth j on, as comparisons, are on top of the others, which are unchanged except those used up.
pub record Folding (a : Arena) (vs : List Kept) (b : Arena) (ws : List Kept) (j bottom past : ℕ) : Type 0 where
  pub place : Place
  pub form : Form
  pub node : ℕ
  pub others : List Kept
  pub kept : ws ≡ Part place form node ∷ others
  pub same : take bottom others ≡ take bottom vs
  pub text : b.text ≡ a.text
  pub shows : shown b others ≡ shown a others
  pub folded : compared (shown a (drop j vs)) ≡ part place form (tree_at b.text b.entries node) ∷ shown a (drop past others)
  pub built : AreBuilt b ws
  pub beyond : bottom ≤ past
  pub within : past ≤ length others
  pub bare : (i : ℕ) → bottom ≤ i → i < past → is_tree_at others i ≡ false

-- the names from a depth on became comparisons, or there are none
abbrev pub Compares : Arena → List Kept → Arena → List Kept → ℕ → Option ℕ → Type 0
Compares a vs b ws start None = AreBuilt b ws × (shown b ws ≡ shown a vs) × (is_named vs start ≡ false)
Compares a vs b ws start (Some past) = (bottom : ℕ) × (start < bottom) × AreNamed vs start bottom × Folding a vs b ws start bottom past
