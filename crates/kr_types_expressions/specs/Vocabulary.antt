-- Between crates: what the contracts of this crate take from the crates below.
pub use Rattle.kr_ast.specs.Arena.{Arena}
pub use Rattle.kr_ast.specs.Files.{file_at}
pub use Rattle.kr_classes_table.specs.Constants.{Known}
pub use Rattle.kr_classes_table.specs.Numbers.{Bits32, Bits64}
pub use Rattle.kr_classes_table.specs.Table.{constructor_parameters, method_named}
pub use Rattle.kr_classes_table.specs.Types.{BooleanType, NullType}
pub use Rattle.kr_classes_names.specs.Shown.{AreHeads}
pub use Rattle.kr_classes_names.specs.Types.{count, Extends, type_at, TypeList}
pub use Rattle.kr_classes_members.specs.Kept.{AreMembers}
pub use Rattle.kr_classes_members.specs.Shown.{IsConstructor, IsMethod, method_shown, table_in}
pub use Rattle.kr_types_meaning.specs.Noting.{leaf, one, test, three, two}
pub use Rattle.kr_types_meaning.specs.Scopes.{meant, Scope, super_parameters}
pub use Rattle.kr_types_meaning.specs.Typing.{joined, type_in}
pub use Rattle.kr_types_scopes.specs.Scoped.{AreScopes, scope_at}
pub use Rattle.kr_types_scopes.specs.Settings.{class_there, scope_in, Setting, setting}
pub use Rattle.kr_types_scopes.specs.declared.within.Binding.{Binding}
pub use Rattle.kr_types_judging.specs.Classes.{AreClassTypes}
pub use Rattle.kr_types_judging.specs.Shown.{HasNoRest, IsKnownWithin, IsNoteWithin, IsVerdictWithin, known_shown, least_shown, note_shown, verdict_shown}
