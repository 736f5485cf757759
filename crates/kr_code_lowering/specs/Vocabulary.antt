-- Between crates: what the contracts of this crate take from the crates below.
pub use Rattle.kr_base.specs.declared.place.Place.{Place}
pub use Rattle.kr_ast.specs.Arena.{AreNamesIn, name_in, tree_of}
pub use Rattle.kr_ast.specs.Files.{file_at}
pub use Rattle.kr_ast.specs.Tree.{Tree}
pub use Rattle.kr_classes_table.specs.Arrays.{array_number}
pub use Rattle.kr_classes_table.specs.Constants.{constant_of, known_value, values_of}
pub use Rattle.kr_classes_table.specs.Numbers.{Bits32, Bits64, wrap}
pub use Rattle.kr_classes_table.specs.Table.{items, method_named, type_named}
pub use Rattle.kr_classes_table.specs.Types.{ArrayType, is_same, is_void, JavaType, width_in}
pub use Rattle.kr_classes_names.specs.ListedTypes.{AreApart, IsGrown}
pub use Rattle.kr_classes_names.specs.Types.{count, IsTypeNumber, type_at}
pub use Rattle.kr_classes_members.specs.Rosters.{all_fields, all_methods, field_numbered}
pub use Rattle.kr_types_meaning.specs.Scopes.{bind_local, caught_type, class_before, method_meant, Scope, static_only, value, written}
pub use Rattle.kr_types_meaning.specs.Typing.{judged, type_in}
pub use Rattle.kr_types_resolving.specs.Shown.{IsMeant}
pub use Rattle.kr_types.specs.Programs.{IsProgram}
pub use Rattle.kr_value.specs.declared.value.Value.TheVariants.{Int}
pub use Rattle.kr_mean.specs.Meaning.{is_primitive, super_method, type_width}
pub use Rattle.kr_mean.specs.Program.{default_of}
pub use Rattle.kr_code.specs.Resolved.{is_no_expression}
pub use Rattle.kr_code.specs.Tables.{row_items}
pub use Rattle.kr_code.specs.declared.expression.Expression.TheVariants.{Literal}
pub use Rattle.kr_code_members.specs.Nodes.{table}
