-- Between crates: what the contracts of this crate take from the crates below.
pub use Rattle.kr_ast.specs.Arena.{root, tree_in}
pub use Rattle.kr_ast.specs.Files.{file_at}
pub use Rattle.kr_classes_table.specs.Numbers.{is_within}
pub use Rattle.kr_classes_table.specs.Operators.{number as number_of}
pub use Rattle.kr_classes_table.specs.Table.{headings_of, parameter_in}
pub use Rattle.kr_classes_table.specs.Types.{ClassType, JavaType}
pub use Rattle.kr_classes_names.specs.Shown.{AreHeads}
pub use Rattle.kr_classes_names.specs.Types.{count, Extends, IsTypeNumber, type_at}
pub use Rattle.kr_classes_members.specs.Shown.{field_shown, headings_in, IsMethod, method_shown}
pub use Rattle.kr_space_meaning.specs.Bounds.{all_of as all_objects, bound_number, bounded, declared, declared_by, item_values, meant_values, object_number, setting_of, values_with, width_for as width_of_type}
pub use Rattle.kr_space_meaning.specs.Faults.{fields_unfit, fits, has_twice as has_twice_in, is_instance as is_instance_method, is_no_field as is_no_field_in, is_predicate as is_predicate_method, is_unfit as is_unfit_in, meant_fits as meant_fits_in, no_fields, no_params, number_faults, number_fits, params_unfit}
pub use Rattle.kr_space_meaning.specs.Keys.{instance_alone, method_at as method_of, parameters_of as parameters_in}
pub use Rattle.kr_space_meaning.specs.Limits.{IsSmall}
pub use Rattle.kr_space_meaning.specs.Names.{Meant}
pub use Rattle.kr_space_meaning.specs.Order.{break_if, lesser}
pub use Rattle.kr_space_names.specs.Meanings.{IsMeaning}
pub use Rattle.kr_space_names.specs.Texts.{Stands}
pub use Rattle.kr_space_layout.specs.Items.{domain_of, integers}
pub use Rattle.kr_space_layout.specs.Stretches.{all_choices, IsNumbered, stretch_of}
pub use Rattle.kr_mean.specs.Problem.{Plain}
