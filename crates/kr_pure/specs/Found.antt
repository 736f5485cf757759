-- Between crates: nodes of files that are found one after another, each once.
use Rattle.std.specs.Prelude.{◌≡◌, ℕ, ◌+◌, Bool, true, false, List, length, take, All, Contains, Some, slice_get, slice_index_or, sum_by, cond, ◌⊎◌}
use Rattle.kr_ast.specs.Arena.{Arena}
use Rattle.kr_ast.specs.declared.files.NodeId.{NodeId}
use Rattle.kr_ast.specs.Files.{IsNode}
use Rattle.kr_pure.specs.declared.found.Found.{Found}
use Rattle.kr_types.specs.Programs.{all_entries}

-- a node's number among those of all files
abbrev pub number_of : List Arena → NodeId → ℕ
number_of files n = length (all_entries (take n.file files)) + n.node

abbrev pub one_if : Bool → ℕ
one_if b = cond b 1 0

-- how many are marked
abbrev pub marked : List Bool → ℕ
marked marks = sum_by one_if marks

-- Each is a node of the files and marked, and no other is marked.
pub record AreFound (files : List Arena) (f : Found) : Type 0 where
  pub nodes : All (IsNode files) f.nodes.items
  pub long : length f.marks.items ≡ length (all_entries files)
  pub count : length f.nodes.items ≡ marked f.marks.items
  pub known : (n : NodeId) → IsNode files n → slice_index_or f.marks.items (number_of files n) false ≡ true → Contains f.nodes.items n

-- These are there as well; earlier ones keep their positions, and no others are added.
pub record IsAdded (old more new : List NodeId) : Type 0 where
  pub kept : (k : ℕ) (n : NodeId) → slice_get old k ≡ Some n → slice_get new k ≡ Some n
  pub there : All (Contains new) more
  pub from : All (λ n. Contains old n ⊎ Contains more n) new
