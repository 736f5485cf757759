-- Between crates: the context of a file's notes, and the meaning of each note.
use Rattle.std.specs.Prelude.{◌≡◌, ℕ, ◌<◌, List, length, Option, Some, None, slice_get}
use Rattle.kr_base.specs.declared.place.Place.{Place}
use Rattle.kr_ast.specs.declared.node.Node.{Node}
use Rattle.kr_ast.specs.declared.node.Node.TheVariants as nodes
use Rattle.kr_ast.specs.declared.node.Entry.{Entry}
use Rattle.kr_ast.specs.Arena.{Arena, AreBelow, AreNamesIn, ArePartsFrom, names, parts, tree_in, tree_of}
use Rattle.kr_classes_table.specs.Constants.{values_of}
use Rattle.kr_classes_table.specs.Types.{JavaType}
use Rattle.kr_types_meaning.specs.Scopes.{Scope, class_before}
use Rattle.kr_types_meaning.specs.Typing.{type_in}
use Rattle.kr_types_scopes.specs.declared.within.Within.{Within}
use Rattle.kr_types_scopes.specs.Settings.{class_there, scope_in}
use Rattle.kr_types_scopes.specs.Scoped.{AreScopes, scope_at}
use Rattle.kr_types_meaning.specs.Noting as noting
use Rattle.kr_classes_names.specs.Shown.{AreHeads}
use Rattle.kr_ast.specs.Files.{file_at}
use Rattle.kr_classes_members.specs.Shown.{table_in}
use Rattle.kr_classes_members.specs.Kept.{AreMembers}
use Rattle.kr_classes_members.specs.Rosters.{IsRoster}
use Rattle.kr_classes_names.specs.Types.{TypeList}
use Rattle.kr_classes_names.specs.Numbers.{AreNodeTypes}
use Rattle.kr_classes_constants.specs.Kept.{AreValues}
use Rattle.kr_types_judging.specs.declared.notes.Note.{Note}
use Rattle.kr_types_judging.specs.Shown.{IsNoteWithin, note_shown}
use Rattle.kr_types_resolving.specs.Meanings as meanings
use Rattle.kr_types_resolving.specs.Shown.{IsMeaningWithin, meaning_shown}
use Rattle.kr_types_resolving.specs.declared.meaning.Meaning.{Meaning}
use Rattle.kr_types_expressions.specs.Constructors.{AreSingle}
use Rattle.kr_types_expressions.specs.Links.{IsLinked}
use Rattle.kr_types_expressions.specs.Notes.{AreNotesWithin, IsRestBelow, shown_notes, typed_in}
use Rattle.kr_types.specs.Programs.{setting_in}
use Rattle.kr_types.specs.declared.site.Inside.{Inside}
use Rattle.kr_types.specs.declared.site.Site.{Site}
use Rattle.kr_types.specs.declared.site.Spot.{Spot}
use Rattle.kr_types.specs.declared.context.Context.{Context}
use Rattle.kr_types.specs.declared.notes.Noted.{Noted}

-- the tree of the file
abbrev pub tree_there : Site → Arena
tree_there s = file_at s.trees.now s.file

-- the file, with the class table of its program, and the scopes of its nodes
pub record IsSite (s : Site) (l : TypeList) : Type 0 where
  pub heads : AreHeads s.trees.now s.heads.now
  pub members : AreMembers s.trees.now s.members.now
  pub roster : IsRoster s.trees.now s.roster.now
  pub numbers : AreNodeTypes s.trees.now l s.numbers.now
  pub values : AreValues (values_of (table_in s.trees.now)) s.values.now
  pub single : AreSingle (table_in s.trees.now)
  pub file : s.file < length s.trees.now
  pub scopes : AreScopes (tree_there s) s.scopes.now.bindings.items s.scopes.now.within.items

-- a scope that is kept, in the file
abbrev pub scope_here : Site → Within → Scope
scope_here s w = scope_in (setting_in s.trees.now s.file) s.scopes.now.bindings.items w

-- the scope of a node of the file
abbrev pub scope_of : Site → ℕ → Scope
scope_of s i = scope_at (setting_in s.trees.now s.file) s.scopes.now.bindings.items s.scopes.now.within.items i

-- the note of a node in a scope, given the notes of the nodes before it
abbrev pub noted_there : Site → TypeList → List Note → Scope → Place → Node → noting.Note
noted_there s l ns here p n = noting.noted here (tree_of (tree_there s).text (tree_in (tree_there s)) p n) (noting.part_note (shown_notes l ns) n)

-- the note of node i in its scope
pub record IsNoteOf (s : Site) (l : TypeList) (ns : List Note) (i : ℕ) (here : Scope) (p : Place) (n : Node) (made : Note) : Type 0 where
  pub within : IsNoteWithin l made
  pub below : IsRestBelow i made.known
  pub linked : IsLinked (typed_in l ns) made.known
  pub shown : note_shown l (typed_in l ns) made ≡ noted_there s l ns here p n

-- a node of the file, after the notes of as many nodes
pub record IsSpot (s : Site) (n : ℕ) (x : Spot) : Type 0 where
  pub count : n ≡ x.at
  pub within : x.at < length (tree_there s).entries
  pub entry : (e : Entry) → slice_get (tree_there s).entries x.at ≡ Some e → (e.place ≡ x.place) × (e.node ≡ x.node)
  pub tree : tree_in (tree_there s) x.at ≡ tree_of (tree_there s).text (tree_in (tree_there s)) x.place x.node
  pub stands : ArePartsFrom (tree_there s).entries x.at 0 (parts x.node)
  pub parts : AreBelow n (parts x.node)
  pub names : AreNamesIn (tree_there s).text (names x.node)

-- the note of such a node
abbrev pub IsSpotNote : Site → TypeList → List Note → Spot → Note → Type 0
IsSpotNote s l ns x made = IsNoteOf s l ns (length ns) (scope_of s x.at) x.place x.node made

-- a node of the file, with the types so far and the notes of the nodes before it
pub record IsContext (c : Context) : Type 0 where
  pub site : IsSite c.site c.types.now
  pub notes : AreNotesWithin c.types.now c.notes.now
  pub spot : IsSpot c.site (length c.notes.now) c.spot

-- the note of that node
abbrev pub IsNoted : Context → Note → Type 0
IsNoted c made = IsSpotNote c.site c.types.now c.notes.now c.spot made

-- the notes of the first nodes of the file: each follows from those of its parts
pub record AreNoted (s : Site) (l : TypeList) (ns : List Note) : Type 0 where
  pub within : AreNotesWithin l ns
  pub noted : (i : ℕ) (e : Entry) → i < length ns → slice_get (tree_there s).entries i ≡ Some e → noting.note_at (shown_notes l ns) i ≡ noting.noted (scope_of s i) (tree_in (tree_there s) i) (noting.part_note (shown_notes l ns) e.node)

-- the type that notes have of the object before a node's dot
abbrev pub object_noted : List noting.Note → Node → Option JavaType
object_noted ns (nodes.FieldAccess a n) = type_in (noting.note_at ns a).typed
object_noted ns (nodes.MethodCall a n b) = type_in (noting.note_at ns a).typed
object_noted ns n = None

-- the class before the dot of the node i, if it has one
abbrev pub IsBefore : Site → ℕ → Node → Option ℕ → Type 0
IsBefore s i (nodes.FieldAccess a n) c = c ≡ class_before (scope_of s i) (tree_in (tree_there s) a)
IsBefore s i (nodes.MethodCall a n b) c = c ≡ class_before (scope_of s i) (tree_in (tree_there s) a)
IsBefore s i n c = Unit {0}

-- the meaning of node i, given the notes of the nodes before it
pub record IsMeantBy (s : Site) (ns : List noting.Note) (i : ℕ) (n : Node) (m : Meaning) : Type 0 where
  pub within : IsMeaningWithin (table_in s.trees.now) m
  pub shown : meaning_shown (table_in s.trees.now) m ≡ meanings.meaning_by (scope_of s i) (tree_in (tree_there s) i) (object_noted ns n)

abbrev pub AreMeant : Site → TypeList → List Note → List Meaning → Type 0
AreMeant s l ns ms = (i : ℕ) (e : Entry) (m : Meaning) → slice_get (tree_there s).entries i ≡ Some e → slice_get ms i ≡ Some m → IsMeantBy s (shown_notes l ns) i e.node m

-- the class whose code a scope is in that is inside of a node
abbrev pub IsInside : Site → Inside → Type 0
IsInside s i = class_there (setting_in s.trees.now s.file) i.declared ≡ i.class

-- the notes and meanings of the first nodes of the file
pub record AreKept (s : Site) (l : TypeList) (k : Noted) : Type 0 where
  pub noted : AreNoted s l k.notes
  pub meant : AreMeant s l k.notes k.meanings.items
  pub count : length k.meanings.items ≡ length k.notes
  pub inside : IsInside s k.inside
