-- The examples, by computing.
use Rattle.std.proofs.Common.{refl}
use Rattle.kr_classes_table.specs.Predefined.{predefined}
use Rattle.kr_classes_table.specs.Table.{table_of}
use Rattle.kr_space_meaning.specs.Names.{array_type, class_of, meant}
use Rattle.kr_space_meaning.specs.Bounds.{setting_of, width_for, root_domain, problem_in}
use Rattle.kr_space_meaning.specs.Faults.{faults_in}
use Rattle.kr_space_meaning.specs.Examples.{Problems, Refusals, CloseRefusals, Sizes}

pub problems : Problems
unfolding table_of array_type class_of meant setting_of width_for root_domain problem_in faults_in
problems = record {
  of_nodes = refl;
  of_heirs = refl;
  of_array_types = refl;
  of_named_types = refl;
  of_parameters = refl;
  of_numbers_given = refl;
  nodes_taken = refl;
  heirs_taken = refl;
  arrays_taken = refl;
  parameters_taken = refl;
}

pub refusals : Refusals
unfolding predefined table_of array_type class_of meant setting_of width_for root_domain problem_in faults_in
refusals = record {
  root_unknown = refl;
  class_unknown = refl;
  name_unknown = refl;
  qualified_array = refl;
  no_array = refl;
  no_domain = refl;
  no_inherited_domain = refl;
  no_parameter_domain = refl;
  no_values = refl;
  empty_range = refl;
  no_objects_named = refl;
  predefined_beside = refl;
  predefined_objects = refl;
  predefined_name = refl;
  predefined_root = refl;
  no_root_objects = refl;
  unfit_number = refl;
  unfit_truth = refl;
  unfit_null = refl;
  unfit_element = refl;
  number_twice = refl;
  class_twice = refl;
  length_twice = refl;
  no_predicate = refl;
  no_method = refl;
  no_field = refl;
  inherited_field = refl;
  no_parameter = refl;
}

pub close_refusals : CloseRefusals
unfolding table_of array_type class_of meant setting_of width_for root_domain problem_in faults_in
close_refusals = record {
  least_item = refl;
  bounded_unknown = refl;
  set_of_numbers = refl;
  set_of_nodes = refl;
  lists_of_arrays = refl;
  no_element_domain = refl;
  no_element = refl;
  no_length = refl;
  far_range = refl;
  empty_range_beside = refl;
  unfit_range = refl;
  unfit_class = refl;
  static_predicate = refl;
  number_predicate = refl;
  predicate_with_parameter = refl;
  static_tested = refl;
  static_parameter = refl;
  static_without_domain = refl;
  static_field = refl;
}

pub sizes : Sizes
unfolding table_of array_type class_of meant setting_of width_for root_domain problem_in faults_in
sizes = record {
  many_slots = refl;
  too_many_slots = refl;
}
