-- Between crates: what the contracts of this crate take from the crates below.
pub use Rattle.kr_ast.specs.Arena.{Arena, tree_in}
pub use Rattle.kr_ast.specs.Files.{file_at}
pub use Rattle.kr_classes_table.specs.Numbers.{Bits32, Bits64, is_same_width}
pub use Rattle.kr_classes_table.specs.Rules.{is_before as comes_before, sooner}
pub use Rattle.kr_classes_table.specs.Table.{method_named}
pub use Rattle.kr_classes_table.specs.Types.{ClassType, InferredType, is_collection, is_element, is_known, is_reference, is_same, is_void, ListType, NumberType, SetType}
pub use Rattle.kr_classes_names.specs.Numbers.{AreNodeTypes}
pub use Rattle.kr_classes_names.specs.Types.{count, IsTypeNumber, type_at, TypeList}
pub use Rattle.kr_classes_members.specs.Kept.{AreMembers}
pub use Rattle.kr_classes_members.specs.Shown.{field_shown, headings_in, IsMethod, method_shown, table_in}
pub use Rattle.kr_types_meaning.specs.Noting.{concluded, plain}
pub use Rattle.kr_types_meaning.specs.Scopes.{FieldName, Scope}
pub use Rattle.kr_types_scopes.specs.Settings.{part_of, role_of, scope_in, Setting, type_there}
pub use Rattle.kr_types_scopes.specs.declared.within.Binding.{Binding}
