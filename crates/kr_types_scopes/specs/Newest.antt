-- Between crates: from where on the search for a local of a name may begin, and what is noted on the way along the bindings.
use Rattle.std.specs.Prelude.{ℕ, ◌≤◌, ◌<◌, ◌≡◌, false, List, [], ◌∷◌, ◌++◌, ◌+◌, length, Option, Some, None, slice_get, slice_index_or, set}
use Rattle.kr_ast.specs.Tree.{Tree}
use Rattle.kr_ast.specs.Tree as trees
use Rattle.kr_ast.specs.Arena.{Arena, tree_in, name_in}
use Rattle.kr_classes_table.specs.Table.{Table, Field}
use Rattle.kr_classes_table.specs.Constants.{Known}
use Rattle.kr_classes_names.specs.Listed.{IsIndexOf, place_of}
use Rattle.kr_types_meaning.specs.Scopes.{meant_by}
use Rattle.kr_types_scopes.specs.declared.within.Binding.{Binding}
use Rattle.kr_types_scopes.specs.declared.newest.Newest.{Newest}
use Rattle.kr_types_scopes.specs.Settings.{setting, locals_at}

-- the name of a local or parameter that a node uses or declares
abbrev pub own_name : Tree → Option (List ℕ)
own_name (trees.Variable p x) = Some x
own_name (trees.Declarator p x e) = Some x
own_name (trees.Parameter p t x) = Some x
own_name t = None

-- No local between the two places has the name: below each it means the same.
pub record MayBegin (tree : Arena) (bs : List Binding) (top : ℕ) (n : List ℕ) (start : ℕ) : Type 0 where
  pub within : start ≤ length bs
  pub same : (t : Table) (v : List Known) (f : Option Field) → meant_by (locals_at (setting t v tree) bs start) f n ≡ meant_by (locals_at (setting t v tree) bs top) f n

-- the search for a node's own name may begin there
abbrev pub IsStart : Arena → List Binding → ℕ → ℕ → ℕ → Type 0
IsStart tree bs top i start = (n : List ℕ) → own_name (tree_in tree i) ≡ Some n → MayBegin tree bs top n start

-- ---- what is noted

abbrev pub place_or_none : List ℕ → Option ℕ → ℕ
place_or_none newest None = 0
place_or_none newest (Some k) = slice_index_or newest k 0

-- the place of the newest local of a name
abbrev pub noted_place : List (List ℕ × ℕ) → List ℕ → List ℕ → ℕ
noted_place index newest n = place_or_none newest (place_of n index)

-- at a place in the bindings: the newest local of each name, and of each binding that was entered what was noted before it
pub record AreNoted (tree : Arena) (bs : List Binding) (index : List (List ℕ × ℕ)) (newest outer : List ℕ) (at : ℕ) : Type 0 where
  pub names : List (List ℕ)
  pub indexed : IsIndexOf names index
  pub count : length names ≡ length newest
  pub each : (n : List ℕ) → MayBegin tree bs at n (noted_place index newest n)
  pub before : (k : ℕ) (b : Binding) → k < length outer → slice_get bs k ≡ Some b → MayBegin tree bs b.below (name_in tree.text b.name) (slice_index_or outer k 0)

pub record IsNoted (tree : Arena) (bs : List Binding) (s : Newest) : Type 0 where
  pub within : s.at ≤ length bs
  pub entered : length s.outer.items ≤ length bs
  pub right : s.is_lost ≡ false → AreNoted tree bs s.index s.newest.items s.outer.items s.at

-- the newest local of a name is again the one before this binding
pub record IsRestored (old new : Newest) (n : List ℕ) (last : ℕ) : Type 0 where
  pub number : ℕ
  pub was : old.is_lost ≡ false
  pub there : place_of n old.index ≡ Some number
  pub numbered : number < length old.newest.items
  pub entered : last < length old.outer.items
  pub newest : new.newest.items ≡ set old.newest.items number (slice_index_or old.outer.items last 0)

-- the next binding is the newest of its name
pub record IsEntered (old new : Newest) (n : List ℕ) : Type 0 where
  pub number : ℕ
  pub was : old.is_lost ≡ false
  pub there : place_of n old.index ≡ Some number
  pub numbered : number < length old.newest.items
  pub index : new.index ≡ old.index
  pub newest : new.newest.items ≡ set old.newest.items number (length old.outer.items + 1)
  pub outer : new.outer.items ≡ old.outer.items ++ slice_index_or old.newest.items number 0 ∷ []
