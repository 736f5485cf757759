-- Between crates: the consequences of the notes of a node's parts: each node's note is that of its judgement.
use Rattle.std.specs.Prelude.{ℕ, ◌≡◌, ◌<◌, List, length, slice_get, Some}
use Rattle.kr_ast.specs.Tree.{Tree}
use Rattle.kr_ast.specs.declared.node.Entry.{Entry}
use Rattle.kr_ast.specs.Arena.{IsArena, tree_in}
use Rattle.kr_types_meaning.specs.Scopes.{Scope}
use Rattle.kr_types_meaning.specs.Typing.{judged}
use Rattle.kr_types_meaning.specs.Noting.{Note, kept, noted, parts_of, note_at, part_note}
use Rattle.kr_types_scopes.specs.declared.within.Within.{Within}
use Rattle.kr_types_scopes.specs.declared.within.Binding.{Binding}
use Rattle.kr_types_scopes.specs.Settings.{Setting}
use Rattle.kr_types_scopes.specs.Scoped.{scope_at, IsScoped}
use Rattle.kr_types_meaning.specs.Handing.{handed}

-- each part's note is that of its judgement, in the scope that the node gives it
abbrev pub AreNoted : Scope → Tree → (ℕ → Note) → Type 0
AreNoted s t look = (j : ℕ) (u : Tree) → slice_get (parts_of t) j ≡ Some u → look j ≡ kept (judged (handed s t j) u)

-- The note of a node follows from those of its parts.
abbrev pub LocalLaw : Type 0
LocalLaw = (s : Scope) (t : Tree) (look : ℕ → Note) → AreNoted s t look → kept (judged s t) ≡ noted s t look

-- each node's note follows from those of its parts
abbrev pub AreNotes : Setting → List Binding → List Within → List Note → Type 0
AreNotes g bs ws ns = (i : ℕ) (e : Entry) → slice_get g.tree.entries i ≡ Some e → note_at ns i ≡ noted (scope_at g bs ws i) (tree_in g.tree i) (part_note ns e.node)

-- If each node's scope is the one given to it, and its note follows from those of its parts, then the note is that of
-- the node's judgement.
abbrev pub JudgedLaw : Type 0
JudgedLaw = (g : Setting) (bs : List Binding) (ws : List Within) (ns : List Note) → IsArena g.tree.text g.tree.entries → IsScoped g bs ws → AreNotes g bs ws ns
    → (i : ℕ) → i < length g.tree.entries → note_at ns i ≡ kept (judged (scope_at g bs ws i) (tree_in g.tree i))
