-- Between crates: what the contracts of this crate take from the crates below.
pub use Rattle.kr_ast.specs.Arena.{Arena, tree_in}
pub use Rattle.kr_ast.specs.Files.{file_at}
pub use Rattle.kr_classes_table.specs.Constants.{Known, value_at}
pub use Rattle.kr_classes_table.specs.Rules.{sooner}
pub use Rattle.kr_classes_table.specs.Table.{applied}
pub use Rattle.kr_classes_table.specs.Types.{JavaType}
pub use Rattle.kr_classes_names.specs.Numbers.{AreNodeTypes}
pub use Rattle.kr_classes_names.specs.Shown.{AreHeads}
pub use Rattle.kr_classes_names.specs.Types.{count, Extends, type_at, TypeList}
pub use Rattle.kr_classes_members.specs.Kept.{AreMembers}
pub use Rattle.kr_classes_members.specs.Shown.{table_in}
pub use Rattle.kr_classes_constants.specs.Kept.{AreValues}
pub use Rattle.kr_types_meaning.specs.Noting.{concluded, leaf, maybe, one, plain, signals, test, two}
pub use Rattle.kr_types_meaning.specs.Scopes.{caught_type as class_caught, in_class, meant, Scope, written}
pub use Rattle.kr_types_meaning.specs.Typing.{class_rule, has_constructor, on_maybe}
pub use Rattle.kr_types_scopes.specs.Scoped.{AreScopes, scope_at}
pub use Rattle.kr_types_scopes.specs.Settings.{declaring_of, scope_in, Setting, setting, type_there}
pub use Rattle.kr_types_scopes.specs.declared.within.Binding.{Binding}
pub use Rattle.kr_types_judging.specs.Classes.{AreClassTypes}
pub use Rattle.kr_types_judging.specs.Shown.{HasNoRest, IsKnownWithin, IsNoteWithin, IsThrowable, IsVerdictWithin, known_shown, note_shown, typed_shown, verdict_shown}
pub use Rattle.kr_types_expressions.specs.Constructors.{AreSingle}
pub use Rattle.kr_types_expressions.specs.Links.{IsLinked}
