-- Between crates: the walk over the predicate's code: from the entries of its roots to the parts of each node that was seen, and
-- to the entries of what the node may run.
use Rattle.std.specs.Prelude.{◌≡◌, ℕ, List, [], All, Contains, Some, slice_get}
use Rattle.kr_base.specs.declared.place.Place.{Place}
use Rattle.kr_ast.specs.declared.node.Node.{Node as AstNode}
use Rattle.kr_ast.specs.declared.node.Entry.{Entry}
use Rattle.kr_ast.specs.Arena.{Arena, IsArena, tree_of}
use Rattle.kr_ast.specs.Tree.{Tree}
use Rattle.kr_ast.specs.declared.files.NodeId.{NodeId}
use Rattle.kr_types_meaning.specs.Scopes.{Scope}
use Rattle.kr_mean.specs.Program.{Program}
use Rattle.kr_mean.specs.Code.{Node, code_run}
use Rattle.kr_mean.specs.Purity.{IsOneOf, IsPredicateCode}
use Rattle.kr_pure.specs.Seen.{IsActing, node_on}
use Rattle.kr_pure.specs.Walk.{walk_parts}
use Rattle.kr_code_members.specs.Nodes.{IsThere, arena_at, node_scope, node_tree}
use Rattle.kr_space_problem.specs.declared.problem.Problem.{Problem}
use Rattle.kr_space_problem.specs.Posed.{posed}
use Rattle.kr_pure.specs.Entries.{Enter, IsEntry, code_at, node_of}

-- another node of the file
abbrev pub beside : NodeId → ℕ → NodeId
beside n i = record { file = n.file; node = i }

-- a node of this kind runs no other code
abbrev pub RunsNothing : AstNode → Type 0
RunsNothing n = (program : Program) (s : Scope) (text : List ℕ) (look : ℕ → Tree) (p : Place) → code_run program (record { scope = s; tree = tree_of text look p n }) ≡ []

-- A walk reaches the node from an entry of the predicate's code.
pub record IsBelow (problem : Problem) (n : NodeId) : Type 0 where
  pub from : ℕ
  pub entry : IsEntry problem.program (beside n from)
  pub code : (m : Node) → IsOneOf m (code_at problem.program (beside n from)) → IsPredicateCode (posed problem) m
  pub path : List ℕ
  pub on : node_on (node_scope problem.program n.file from) (node_tree problem.program n.file from) path ≡ Some (record { scope = node_scope problem.program n.file n.node; tree = node_tree problem.program n.file n.node })

-- The parts of the node are among these, and so are the entries of what it may run.
pub record IsFollowed (problem : Problem) (found : List NodeId) (n : NodeId) : Type 0 where
  pub parts : (e : Entry) → slice_get (arena_at problem.program n.file).entries n.node ≡ Some e → All (λ c. Contains found (beside n c)) (walk_parts e.node)
  pub runs : (entries : List NodeId) × Enter problem.program (code_run (posed problem).program (node_of problem.program n)) entries × All (Contains found) entries

-- A step of the walk: the node is followed, what was found stays where it was, and what is found is below the entries as well.
pub record IsStep (problem : Problem) (n : NodeId) (old new : List NodeId) : Type 0 where
  pub kept : (k : ℕ) (m : NodeId) → slice_get old k ≡ Some m → slice_get new k ≡ Some m
  pub followed : IsFollowed problem new n
  pub below : IsBelow problem n → All (IsBelow problem) old → All (IsBelow problem) new

-- All that was found is followed.
pub record IsWalked (problem : Problem) (old new : List NodeId) : Type 0 where
  pub kept : (n : NodeId) → Contains old n → Contains new n
  pub followed : All (IsFollowed problem new) new
  pub below : All (IsBelow problem) new

-- These are the nodes of the predicate's code, beside some that do nothing of their own.
pub record ArePredicateCode (problem : Problem) (found : List NodeId) : Type 0 where
  pub there : All (λ n. IsThere problem.program n.file n.node) found
  pub sound : All (λ n. IsActing (node_tree problem.program n.file n.node) → IsPredicateCode (posed problem) (node_of problem.program n)) found
  pub complete : (m : Node) → IsPredicateCode (posed problem) m → (n : NodeId) × Contains found n × (m ≡ node_of problem.program n)

-- the files are arenas
abbrev pub AreArenas : List Arena → Type 0
AreArenas files = All (λ a. IsArena a.text a.entries) files
