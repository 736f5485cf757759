-- Between crates: what the contracts of this crate take from the crates below.
pub use Rattle.kr_ast.specs.Arena.{Arena, tree_in}
pub use Rattle.kr_ast.specs.Files.{file_at}
pub use Rattle.kr_ast.specs.Tree.{Tree}
pub use Rattle.kr_classes_table.specs.Table.{type_named}
pub use Rattle.kr_classes_table.specs.Types.{ArrayType, is_same, VoidType}
pub use Rattle.kr_classes_names.specs.Types.{count, IsTypeNumber, type_at, TypeList}
pub use Rattle.kr_classes_members.specs.Kept.{AreMembers}
pub use Rattle.kr_classes_members.specs.Rosters.{all_methods, IsRoster, method_numbered}
pub use Rattle.kr_classes_members.specs.Shown.{IsMethod, method_shown, table_in}
pub use Rattle.kr_types_meaning.specs.Running.{running}
pub use Rattle.kr_types_resolving.specs.Shown.{IsMeaningWithin, meaning_shown}
pub use Rattle.kr_types.specs.Programs.{IsProgram, scope_there}
pub use Rattle.kr_types.specs.declared.program.TypedFile.{TypedFile as Typed}
pub use Rattle.kr_space_layout.specs.Bounds.{bare}
pub use Rattle.kr_space_problem.specs.Posed.{IsPosed, posed}
pub use Rattle.kr_value.specs.declared.object.Class.{Class}
pub use Rattle.kr_value.specs.declared.object.Class.TheVariants.{Object}
pub use Rattle.kr_mean.specs.Code.{classes_of, classes_run, methods_run, overriders}
pub use Rattle.kr_mean.specs.Meaning.{element_target, target_of}
pub use Rattle.kr_mean.specs.Problem.{domain_at}
pub use Rattle.kr_mean.specs.Program.{overriding, Program}
pub use Rattle.kr_mean.specs.Purity.{is_class, may_touch, writes_to}
