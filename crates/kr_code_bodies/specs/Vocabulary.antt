-- Between crates: what the contracts of this crate take from the crates below.
pub use Rattle.kr_ast.specs.Arena.{Arena}
pub use Rattle.kr_classes_table.specs.Table.{fields_of, is_below, is_instance, line_of, own_fields}
pub use Rattle.kr_classes_table.specs.Types.{JavaType}
pub use Rattle.kr_classes_names.specs.ListedTypes.{AreApart, IsGrown}
pub use Rattle.kr_classes_names.specs.Shown.{AreHeads}
pub use Rattle.kr_classes_names.specs.Types.{count, type_at}
pub use Rattle.kr_classes_members.specs.Kept.{AreMembers}
pub use Rattle.kr_classes_members.specs.Rosters.{all_fields, all_methods, field_numbered, fields_of_class, first_of, IsRoster, method_numbered}
pub use Rattle.kr_classes_members.specs.Shown.{field_shown, IsField, IsMethod, method_shown, table_in}
pub use Rattle.kr_types.specs.Programs.{IsProgram}
pub use Rattle.kr_mean.specs.Program.{declared_fields, default_of, position_from}
pub use Rattle.kr_mean.specs.Thrown.{class_of_kind, step_kinds}
pub use Rattle.kr_code.specs.Resolved.{has_initial, initialised_fields}
pub use Rattle.kr_code.specs.Tables.{is_numbered, row_items}
pub use Rattle.kr_code.specs.declared.code.ClassCode.{ClassCode as Made}
pub use Rattle.kr_code.specs.declared.code.Code.{Code}
pub use Rattle.kr_code_members.specs.Nodes.{AreMemberNodes, IsClassNodes, IsConstructorNode, IsFieldNode, IsMaybeConstructorNode, IsMethodNode, IsThere, run_program, table}
pub use Rattle.kr_code_members.specs.declared.nodes.ClassNodes.{ClassNodes as Found}
pub use Rattle.kr_code_lowering.specs.Numbered.{AreNumbers}
pub use Rattle.kr_code_lowering.specs.Origins.{Final, numbering_of}
pub use Rattle.kr_code_lowering.specs.Sites.{Becomes}
