-- Between crates: a program that breaks no rule, with the facts known of its nodes.
use Rattle.std.specs.Prelude.{◌≡◌, ℕ, ◌<◌, ◌^◌, List, length, map, flat_map, Some, slice_get}
use Rattle.kr_ast.specs.declared.node.Entry.{Entry}
use Rattle.kr_ast.specs.Arena.{Arena, root, tree_in}
use Rattle.kr_classes_table.specs.Constants.{values_of}
use Rattle.kr_types_meaning.specs.Scopes.{Scope}
use Rattle.kr_types_meaning.specs.Typing.{judged, IsWellTyped}
use Rattle.kr_types_scopes.specs.Settings.{Setting, setting}
use Rattle.kr_types_scopes.specs.Scoped.{AreScopes, scope_at}
use Rattle.kr_types_meaning.specs.Noting.{kept, note_at}
use Rattle.kr_ast.specs.Files.{file_at}
use Rattle.kr_classes_members.specs.Shown.{table_in}
use Rattle.kr_classes_names.specs.Types.{TypeList}
use Rattle.kr_classes.specs.ClassTables.{IsClassTable}
use Rattle.kr_types_resolving.specs.Shown.{IsMeant, meaning_at}
use Rattle.kr_classes_members.specs.Rosters.{IsRoster}
use Rattle.kr_types_expressions.specs.Notes.{AreNotesWithin, shown_notes}
use Rattle.kr_types.specs.declared.program.TypedFile.{TypedFile}
use Rattle.kr_types.specs.declared.program.Program.{Program}

-- a file with the class table and the constants of its program
abbrev pub setting_in : List Arena → ℕ → Setting
setting_in files f = setting (table_in files) (values_of (table_in files)) (file_at files f)

-- the scope of a node of a file
abbrev pub scope_there : List Arena → ℕ → TypedFile → ℕ → Scope
scope_there files f t i = scope_at (setting_in files f) t.scopes.bindings.items t.scopes.within.items i

-- For each node of the file: its scope, its meaning, and the note of its judgement.
pub record IsTypedFile (files : List Arena) (l : TypeList) (f : ℕ) (t : TypedFile) : Type 0 where
  pub scopes : AreScopes (file_at files f) t.scopes.bindings.items t.scopes.within.items
  pub long : length t.notes ≡ length (file_at files f).entries
  pub within : AreNotesWithin l t.notes
  pub resolved : length t.meanings.items ≡ length (file_at files f).entries
  pub meant : (i : ℕ) → i < length (file_at files f).entries → IsMeant (table_in files) (scope_there files f t i) (tree_in (file_at files f) i) (meaning_at t.meanings.items i)
  pub judged : (i : ℕ) → i < length (file_at files f).entries → note_at (shown_notes l t.notes) i ≡ kept (judged (scope_there files f t i) (tree_in (file_at files f) i))

-- for all files, `n` in number
pub record AreTypedFiles (files : List Arena) (l : TypeList) (n : ℕ) (ts : List TypedFile) : Type 0 where
  pub count : length ts ≡ n
  pub each : (f : ℕ) (t : TypedFile) → slice_get ts f ≡ Some t → IsTypedFile files l f t

-- the nodes of all files, file by file
abbrev pub all_entries : List Arena → List Entry
all_entries files = flat_map (λ a. a.entries) files

-- The files break no class rule and no typing rule; the class table and the notes are theirs.
pub record IsProgram (p : Program) : Type 0 where
  pub few : length p.trees.items < 65
  pub small : length (all_entries p.trees.items) < 2 ^ 32
  pub table : IsClassTable p.trees.items p.table
  pub roster : IsRoster p.trees.items p.roster
  pub count : length p.files.items ≡ length p.trees.items
  pub files : (f : ℕ) (t : TypedFile) → slice_get p.files.items f ≡ Some t → IsTypedFile p.trees.items p.table.types f t
  pub well_typed : IsWellTyped (map root p.trees.items)
