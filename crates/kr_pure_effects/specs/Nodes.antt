-- Between crates: nodes of a program's files by their numbers: a node's entry, how it runs, and whether it touches
-- candidates.
use Rattle.std.specs.Prelude.{◌≡◌, ℕ, ◌<◌, true, List, [], ◌∷◌, length}
use Rattle.kr_ast.specs.declared.node.Entry.{Entry}
use Rattle.kr_ast.specs.Arena.{Arena, ArePartsFrom, AreNamesIn, names, parts, tree_in, tree_of}
use Rattle.kr_value.specs.declared.object.Class.{Class}
use Rattle.kr_types_meaning.specs.Running.{running}
use Rattle.kr_ast.specs.Files.{file_at}
use Rattle.kr_types.specs.declared.program.TypedFile.{TypedFile}
use Rattle.kr_types.specs.Programs.{scope_there}
use Rattle.kr_mean.specs.Problem.{Problem}
use Rattle.kr_classes_table.specs.Table.{Method}
use Rattle.kr_types_resolving.specs.Meanings.{Meaning, Virtual, Static, Super}
use Rattle.kr_mean.specs.Program.{Program}
use Rattle.kr_mean.specs.Code.{Node, overriders}
use Rattle.kr_mean.specs.Purity.{IsFinitized, may_touch}

-- the entry of a node of a file: its tree, its parts and its names
pub record IsEntry (a : Arena) (i : ℕ) (e : Entry) : Type 0 where
  pub there : i < length a.entries
  pub tree : tree_in a i ≡ tree_of a.text (tree_in a) e.place e.node
  pub parts : ArePartsFrom a.entries i 0 (parts e.node)
  pub names : AreNamesIn a.text (names e.node)

-- a node of a file, in the scope that it runs in
abbrev pub node_there : List Arena → ℕ → TypedFile → ℕ → Node
node_there files f t i = record { scope = running (scope_there files f t i); tree = tree_in (file_at files f) i }

-- it creates, or may write, an object of a class that the finitization counts
abbrev pub TouchesCandidates : Problem → Node → Type 0
TouchesCandidates problem n = (class : Class) × (may_touch problem.program n.scope n.tree class ≡ true) × IsFinitized problem class

-- the methods that a node of this meaning may run
abbrev pub runs_by : Program → Meaning → List Method
runs_by program (Virtual m) = overriders program m
runs_by program (Static m) = m ∷ []
runs_by program (Super m) = m ∷ []
runs_by program m = []
