-- The examples of object domains, by computing.
use Rattle.std.proofs.Common.{refl}
use Rattle.kr_classes_table.specs.Table.{table_of}
use Rattle.kr_space_meaning.specs.Names.{array_type, class_of, meant}
use Rattle.kr_space_meaning.specs.Bounds.{setting_of, width_for, root_domain, problem_in}
use Rattle.kr_space_meaning.specs.Faults.{faults_in}
use Rattle.kr_space_meaning.specs.DomainExamples.{DomainProblems, DomainRefusals}

pub domain_problems : DomainProblems
unfolding table_of array_type class_of meant setting_of width_for root_domain problem_in faults_in
domain_problems = record {
  in_document_order = refl;
  without_objects = refl;
  of_one_class = refl;
  first_root = refl;
  second_root = refl;
  of_two_classes = refl;
  empty_left_out = refl;
  named_as_a_class = refl;
  one_class_taken = refl;
  named_as_a_class_taken = refl;
  named_int_taken = refl;
}

pub domain_refusals : DomainRefusals
unfolding table_of array_type class_of meant setting_of width_for root_domain problem_in faults_in
domain_refusals = record {
  class_is_no_domain = refl;
  domain_unknown = refl;
  root_unknown = refl;
  root_is_null = refl;
  class_unknown = refl;
  class_unknown_unused = refl;
  class_is_null = refl;
  class_is_array_type = refl;
  no_domain_given = refl;
  root_without_objects = refl;
  no_objects_named = refl;
  unfit_domain = refl;
  domain_twice = refl;
  array_root = refl;
  empty_array_root = refl;
  bounded_array_root = refl;
  array_root_of_classes = refl;
}
