-- Between crates: what the contracts of this crate take from the crates below.
pub use Rattle.kr_base.specs.declared.place.Place.{Place}
pub use Rattle.kr_ast.specs.Arena.{AreBelow, IsForest, parts, tree_in, tree_of}
pub use Rattle.kr_ast.specs.Files.{file_at}
pub use Rattle.kr_ast.specs.declared.node.Entry.{Entry as NodeEntry}
pub use Rattle.kr_classes_table.specs.Constants.{values_of}
pub use Rattle.kr_classes_table.specs.Rules.{least}
pub use Rattle.kr_classes_names.specs.Numbers.{AreNodeTypes}
pub use Rattle.kr_classes_names.specs.Shown.{AreHeads}
pub use Rattle.kr_classes_names.specs.Types.{count, Extends, type_at}
pub use Rattle.kr_classes_members.specs.Kept.{AreMembers}
pub use Rattle.kr_classes_members.specs.Rosters.{all_methods, IsRoster, method_numbered}
pub use Rattle.kr_classes_members.specs.Shown.{IsMethod, method_shown, table_in}
pub use Rattle.kr_classes_constants.specs.Kept.{AreValues}
pub use Rattle.kr_classes.specs.ClassTables.{IsClassTable}
pub use Rattle.kr_types_meaning.specs.Noting.{kept, note_at}
pub use Rattle.kr_types_meaning.specs.Scopes.{class_before, Scope, value}
pub use Rattle.kr_types_meaning.specs.Typing.{judged, type_in}
pub use Rattle.kr_types_scopes.specs.Scoped.{AreScopes, nowhere}
pub use Rattle.kr_types_scopes.specs.Settings.{class_there, Setting}
pub use Rattle.kr_types_judging.specs.Shown.{IsNoteWithin, IsThrowable, least_shown, note_shown}
pub use Rattle.kr_types_judging.specs.declared.notes.Note.{Note as NoteKept}
pub use Rattle.kr_types_resolving.specs.Shown.{IsMeaningWithin, IsMeant, meaning_at}
pub use Rattle.kr_types_resolving.specs.declared.meaning.Meaning.TheVariants.{Nothing}
pub use Rattle.kr_types_expressions.specs.Constructors.{AreSingle}
pub use Rattle.kr_types_expressions.specs.Links.{IsLinked}
pub use Rattle.kr_types_expressions.specs.Notes.{AreNotesWithin, IsRestBelow, shown_notes, typed_in}
