-- Between crates: the notes of a file's nodes. The facts known of a list refer to the node of its rest, which comes
-- before it.
use Rattle.std.specs.Prelude.{◌≡◌, ℕ, ◌<◌, List, [], ◌++◌, None, Some, map, slice_get}
use Rattle.kr_ast.specs.Grow.{grow}
use Rattle.kr_types_meaning.specs.Rules as rules
use Rattle.kr_types_meaning.specs.Noting as noting
use Rattle.kr_classes_names.specs.Types.{TypeList}
use Rattle.kr_types_judging.specs.declared.known.Known.{Known}
use Rattle.kr_types_judging.specs.declared.known.Known.TheVariants as known
use Rattle.kr_types_judging.specs.declared.known.Typed.TheVariants as typed
use Rattle.kr_types_judging.specs.declared.notes.Note.{Note}
use Rattle.kr_types_judging.specs.Shown.{IsNoteWithin, note_shown}
use Rattle.kr_types_expressions.specs.Links.{IsLinked}

-- what is known of a node without a type
abbrev pub untyped : Known
untyped = known.One typed.Untyped

-- the note of a node in which nothing is broken
abbrev pub sound_note : Known → Note
sound_note k = record { known = k; least = None }

-- the notes of some nodes in which nothing is broken, followed by more
abbrev pub all_notes : List Known → List Note → List Note
all_notes ks ns = map sound_note ks ++ ns

-- the facts known of the nodes with these notes
abbrev pub known_of : List noting.Note → ℕ → rules.Typed
known_of ns k = (noting.note_at ns k).typed

-- a note, given the earlier ones
abbrev pub next_note : TypeList → List noting.Note → Note → noting.Note
next_note l before n = note_shown l (known_of before) n

unfoldable pub shown_notes : TypeList → List Note → List noting.Note
shown_notes l ns = grow (next_note l) [] ns

-- the facts known of a file's nodes
abbrev pub typed_in : TypeList → List Note → ℕ → rules.Typed
typed_in l ns = known_of (shown_notes l ns)

-- the rest of a list is a node below this one
abbrev pub IsRestBelow : ℕ → Known → Type 0
IsRestBelow i (known.More first rest) = rest < i
IsRestBelow i k = Unit {0}

-- the types of all notes exist; each list's rest comes before it, and is a list of values
pub record AreNotesWithin (l : TypeList) (ns : List Note) : Type 0 where
  pub within : (i : ℕ) (n : Note) → slice_get ns i ≡ Some n → IsNoteWithin l n
  pub below : (i : ℕ) (n : Note) → slice_get ns i ≡ Some n → IsRestBelow i n.known
  pub linked : (i : ℕ) (n : Note) → slice_get ns i ≡ Some n → IsLinked (typed_in l ns) n.known
