-- Between crates: what the contracts of this crate take from the crates below.
pub use Rattle.kr_ast.specs.Arena.{root}
pub use Rattle.kr_classes_table.specs.Arrays.{arrays_in, array_number as number_of_array}
pub use Rattle.kr_classes_table.specs.Numbers.{Bits32}
pub use Rattle.kr_classes_table.specs.Table.{fields_of, headings_of}
pub use Rattle.kr_classes_names.specs.Listed.{IsIndexOf}
pub use Rattle.kr_classes_names.specs.Types.{count, Extends, type_at}
pub use Rattle.kr_classes_members.specs.Shown.{field_shown, IsField}
pub use Rattle.kr_types.specs.Programs.{IsProgram}
pub use Rattle.kr_fin.specs.declared.document.Item.TheVariants.{Range}
pub use Rattle.kr_space_meaning.specs.Bounds.{array_class_domain, class_name as class_name_in, object_domain as domain_declared, root_domain as domain_of_root, element_spots, elements_key, given, greatest, item_values, field_key as key_of_field, parameter_key as key_of_parameter, lengths_in, lengths_of, root_number as number_of_root, problem_of, bounded_root as root_bounded, root_domain, root_of, Setting, setting_of, array_spots as spots_of_array, field_spots as spots_of_fields, tested_parameters, values_of, values_with}
pub use Rattle.kr_space_meaning.specs.Faults.{array_S2, no_domain, number_faults, numbers_of, numbers_of_lengths, object_S2, of_arrays, parameter_S2, S2, S3_S5_S6, S4, S7, S8, S9}
pub use Rattle.kr_space_meaning.specs.Limits.{AreLengths, IsLength, IsSmall, IsWithinLimits}
pub use Rattle.kr_space_meaning.specs.Meaning.{faults_of}
pub use Rattle.kr_space_meaning.specs.Names.{array_type as array_type_of}
pub use Rattle.kr_space_meaning.specs.Order.{least as least_of, lesser}
pub use Rattle.kr_space_names.specs.Collected.{AreNumbers, collected, IsClosed, types_shown}
pub use Rattle.kr_space_rules.specs.Classes.{AreClasses, AreTyped, files_of, table_of}
pub use Rattle.kr_space_rules.specs.Entries.{AreBounds, bound_shown, IsBound, no_bound}
pub use Rattle.kr_space_rules.specs.ObjectDomains.{AreDeclared, declared_shown, IsDeclared}
pub use Rattle.kr_space_rules.specs.Parameters.{IsParameter, parameter_shown}
pub use Rattle.kr_space_rules.specs.Widths.{asked}
pub use Rattle.kr_space_layout.specs.Bounds.{class_domain as domain_shown, spotted}
pub use Rattle.kr_space_layout.specs.Items.{domain_of}
pub use Rattle.kr_space_layout.specs.Stretches.{IsNumbered}
pub use Rattle.kr_space_layout.specs.Tables.{blocks_from}
pub use Rattle.kr_space_problem.specs.Posed.{IsPosed, posed}
pub use Rattle.kr_mean.specs.Problem.{choices_in, Domain, domain_at, slots}
pub use Rattle.kr_mean.specs.WellFormed.{IsWellFormed}
pub use Rattle.kr_mean.specs.declared.mode.Mode.TheVariants.{Method as Testing}
