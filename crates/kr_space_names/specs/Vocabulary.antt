-- Between crates: what the contracts of this crate take from the crates below.
pub use Rattle.kr_ast.specs.Arena.{Arena, root, tree_in}
pub use Rattle.kr_ast.specs.Files.{file_at}
pub use Rattle.kr_classes_table.specs.Arrays.{array_types_of, arrays_in, arrays_named}
pub use Rattle.kr_classes_table.specs.Nodes.{nodes}
pub use Rattle.kr_classes_table.specs.Table.{headings_of}
pub use Rattle.kr_classes_table.specs.Types.{is_element, JavaType}
pub use Rattle.kr_classes_names.specs.Numbers.{AreNodeTypes}
pub use Rattle.kr_classes_names.specs.Shown.{AreHeads}
pub use Rattle.kr_classes_names.specs.Types.{count, Extends, IsMadeOf, type_at, type_of_form}
pub use Rattle.kr_fin.specs.Shapes.{is_dot}
pub use Rattle.kr_space_meaning.specs.Bounds.{setting_of}
pub use Rattle.kr_space_meaning.specs.Faults.{arrays_unknown, class_unknown, is_unknown, names_predefined, names_unknown, objects_unknown, owner_unknown, owners_unknown, root_unknown, S1, value_unknown, values_unknown}
pub use Rattle.kr_space_meaning.specs.Keys.{is_elements as names_elements, owner_part as part_before, name_part as part_behind}
pub use Rattle.kr_space_meaning.specs.Names.{names_domains as are_domains, array_or_none, array_type as array_type_of, class_of as class_meant, line_of as line_named, meant, type_within, word_type}
pub use Rattle.kr_space_meaning.specs.Order.{break_if, lesser}
