-- The answers, as the checker computes them.
use Rattle.std.proofs.Common.{◌≡◌, refl}
use Rattle.std.specs.Prelude.{Some, None, [], ◌∷◌, map, pos, negsuc, true, false}
use Rattle.kr_classes_table.specs.Table.{table_of}
use Rattle.kr_classes_table.specs.Rules.{class_fault}
use Rattle.kr_value.specs.declared.value.Value.TheVariants.{Int as Whole, Bool as Holds}
use Rattle.kr_classes_table.specs.Constants.{is_constant, evaluated, constant_width, values_of}
use Rattle.kr_types_meaning.specs.Typing.{judged, type_fault, refusal, type_faults}
use Rattle.kr_types_meaning.specs.Texts.{class_rule_at, type_rule_at, fault_at}
use Rattle.kr_types_meaning.specs.Examples.{c1_two, c1_nested, c1_collection, c1_fine, c2_unknown, c2_qualified, c2_fine, c3_self, c3_round, c3_fine, c4_two, c4_inherited, c4_constant, c4_constructors, c4_fine, c5_two, c5_inherited, c5_number, c5_fine, c6_object, c6_fine, c7_static, c7_result, c7_above, c7_fine, c8_fields, c8_fine, c_order, t1_unknown, t1_argument, t1_raw, t1_class, t1_deep, t1_new, t1_new_raw, t1_qualified, t1_fine, t1_untyped, t3_name, t3_class, t3_ended, t3_own, t3_outer, t3_fine, t4_two, t4_inner, t4_parameters, t4_for, t4_fine, t5_this, t5_field, t5_method, t5_super, t5_constant, t5_fine, t6_alone, t6_plus, t6_fine, t7, t8, t9, t10, t10_unrelated, t10_fine, t11, t11_fine, t12, t13, t14, t15, t15_arms, t15_fine, t16, t16_below, t17, t17_fine, t18, t19_constant, t19_length, t19_call, t19_fine, t20, t20_unrelated, t20_collection, t20_fine, t21, t21_unrelated, t21_fine, t22, t22_constant, t22_static, t22_outer, t22_int, t22_fine, t23, t23_no_array, t24_unknown, t24_number, t24_type, t24_static, t24_int, t24_fine, t25_add, t25_first, t25_contains, t25_clear, t25_diamond, t25_fine, t26_number, t26_type, t26_collection, t26_diamond, t26_fine, t27, t28_while, t28_if, t28_do, t28_for, t28_contract, t28_fine, t29, t29_fine, t30_void, t30_none, t30_type, t30_constructor, t30_fine, t31, t31_continue, t32, t32_argument, t32_initial, t32_fine, t33, t33_static, t33_fine, t34_class, t34_absent, t34_type, t34_none, t34_fine, t35, t35_constant, t35_fine, t36_absent, t36_later, t36_call, t36_divisor, t36_zero, t36_instance, t36_fine, t37_static, t37_type, t38_requires, t38_void, t38_old, t38_old_requires, t38_fine, t39_write, t39_step, t39_new, t39_array, t40, t40_parameter, t_place, t_rule, t_files, demo, c5_argument, c5_head, c5_spelled, c7_fine_unknown, t36_cast, each_operator, each_result, each_compound, each_step, each_type, each_cast, each_call, each_loop, each_contract, each_constant, each_return, each_static, each_nested, each_local, family, operator_values, boolean_values, ordered_values, c3_fine_deep, c1_case, each_role, shifted_values, each_minus, each_void, t34_void, t28_void, c5_second, t6_condition, each_typed, each_missing, t1_diamond, t35_long, t35_long_fine, t17_long_fine, each_long, Worked}

c1_two_read : refusal c1_two ≡ Some (class_rule_at 1 0 1 19)
unfolding table_of class_fault is_constant evaluated constant_width values_of judged type_fault
c1_two_read = refl

c1_nested_read : refusal c1_nested ≡ Some (class_rule_at 1 1 1 7)
unfolding table_of class_fault is_constant evaluated constant_width values_of judged type_fault
c1_nested_read = refl

c1_collection_read : refusal c1_collection ≡ Some (class_rule_at 1 0 1 7)
unfolding table_of class_fault is_constant evaluated constant_width values_of judged type_fault
c1_collection_read = refl

c1_fine_read : refusal c1_fine ≡ None
unfolding table_of class_fault is_constant evaluated constant_width values_of judged type_fault
c1_fine_read = refl

c2_unknown_read : refusal c2_unknown ≡ Some (class_rule_at 2 0 1 17)
unfolding table_of class_fault is_constant evaluated constant_width values_of judged type_fault
c2_unknown_read = refl

c2_qualified_read : refusal c2_qualified ≡ Some (class_rule_at 2 0 1 48)
unfolding table_of class_fault is_constant evaluated constant_width values_of judged type_fault
c2_qualified_read = refl

c2_fine_read : refusal c2_fine ≡ None
unfolding table_of class_fault is_constant evaluated constant_width values_of judged type_fault
c2_fine_read = refl

c3_self_read : refusal c3_self ≡ Some (class_rule_at 3 0 1 7)
unfolding table_of class_fault is_constant evaluated constant_width values_of judged type_fault
c3_self_read = refl

c3_round_read : refusal c3_round ≡ Some (class_rule_at 3 0 1 7)
unfolding table_of class_fault is_constant evaluated constant_width values_of judged type_fault
c3_round_read = refl

c3_fine_read : refusal c3_fine ≡ None
unfolding table_of class_fault is_constant evaluated constant_width values_of judged type_fault
c3_fine_read = refl

c4_two_read : refusal c4_two ≡ Some (class_rule_at 4 0 1 26)
unfolding table_of class_fault is_constant evaluated constant_width values_of judged type_fault
c4_two_read = refl

c4_inherited_read : refusal c4_inherited ≡ Some (class_rule_at 4 0 1 25)
unfolding table_of class_fault is_constant evaluated constant_width values_of judged type_fault
c4_inherited_read = refl

c4_constant_read : refusal c4_constant ≡ Some (class_rule_at 4 0 1 25)
unfolding table_of class_fault is_constant evaluated constant_width values_of judged type_fault
c4_constant_read = refl

c4_constructors_read : refusal c4_constructors ≡ Some (class_rule_at 4 0 1 19)
unfolding table_of class_fault is_constant evaluated constant_width values_of judged type_fault
c4_constructors_read = refl

c4_fine_read : refusal c4_fine ≡ None
unfolding table_of class_fault is_constant evaluated constant_width values_of judged type_fault
c4_fine_read = refl

c5_two_read : refusal c5_two ≡ Some (class_rule_at 5 0 1 51)
unfolding table_of class_fault is_constant evaluated constant_width values_of judged type_fault
c5_two_read = refl

c5_inherited_read : refusal c5_inherited ≡ Some (class_rule_at 5 0 1 54)
unfolding table_of class_fault is_constant evaluated constant_width values_of judged type_fault
c5_inherited_read = refl

c5_number_read : refusal c5_number ≡ Some (class_rule_at 5 0 1 73)
unfolding table_of class_fault is_constant evaluated constant_width values_of judged type_fault
c5_number_read = refl

c5_fine_read : refusal c5_fine ≡ None
unfolding table_of class_fault is_constant evaluated constant_width values_of judged type_fault
c5_fine_read = refl

c6_object_read : refusal c6_object ≡ Some (class_rule_at 6 0 1 19)
unfolding table_of class_fault is_constant evaluated constant_width values_of judged type_fault
c6_object_read = refl

c6_fine_read : refusal c6_fine ≡ None
unfolding table_of class_fault is_constant evaluated constant_width values_of judged type_fault
c6_fine_read = refl

c7_static_read : refusal c7_static ≡ Some (class_rule_at 7 0 1 58)
unfolding table_of class_fault is_constant evaluated constant_width values_of judged type_fault
c7_static_read = refl

c7_result_read : refusal c7_result ≡ Some (class_rule_at 7 0 1 63)
unfolding table_of class_fault is_constant evaluated constant_width values_of judged type_fault
c7_result_read = refl

c7_above_read : refusal c7_above ≡ Some (class_rule_at 7 0 1 58)
unfolding table_of class_fault is_constant evaluated constant_width values_of judged type_fault
c7_above_read = refl

c7_fine_read : refusal c7_fine ≡ None
unfolding table_of class_fault is_constant evaluated constant_width values_of judged type_fault
c7_fine_read = refl

c8_fields_read : refusal c8_fields ≡ Some (class_rule_at 8 0 1 243)
unfolding table_of class_fault is_constant evaluated constant_width values_of judged type_fault
c8_fields_read = refl

c8_fine_read : refusal c8_fine ≡ None
unfolding table_of class_fault is_constant evaluated constant_width values_of judged type_fault
c8_fine_read = refl

c_order_read : refusal c_order ≡ Some (class_rule_at 2 0 1 43)
unfolding table_of class_fault is_constant evaluated constant_width values_of judged type_fault
c_order_read = refl

t1_unknown_read : refusal t1_unknown ≡ Some (type_rule_at 1 0 1 11)
unfolding table_of class_fault is_constant evaluated constant_width values_of judged type_fault
t1_unknown_read = refl

t1_argument_read : refusal t1_argument ≡ Some (type_rule_at 1 0 1 11)
unfolding table_of class_fault is_constant evaluated constant_width values_of judged type_fault
t1_argument_read = refl

t1_raw_read : refusal t1_raw ≡ Some (type_rule_at 1 0 1 11)
unfolding table_of class_fault is_constant evaluated constant_width values_of judged type_fault
t1_raw_read = refl

t1_class_read : refusal t1_class ≡ Some (type_rule_at 1 0 1 11)
unfolding table_of class_fault is_constant evaluated constant_width values_of judged type_fault
t1_class_read = refl

t1_deep_read : refusal t1_deep ≡ Some (type_rule_at 1 0 1 41)
unfolding table_of class_fault is_constant evaluated constant_width values_of judged type_fault
t1_deep_read = refl

t1_new_read : refusal t1_new ≡ Some (type_rule_at 1 0 1 26)
unfolding table_of class_fault is_constant evaluated constant_width values_of judged type_fault
t1_new_read = refl

t1_new_raw_read : refusal t1_new_raw ≡ Some (type_rule_at 1 0 1 26)
unfolding table_of class_fault is_constant evaluated constant_width values_of judged type_fault
t1_new_raw_read = refl

t1_qualified_read : refusal t1_qualified ≡ Some (type_rule_at 1 0 1 37)
unfolding table_of class_fault is_constant evaluated constant_width values_of judged type_fault
t1_qualified_read = refl

t1_fine_read : refusal t1_fine ≡ None
unfolding table_of class_fault is_constant evaluated constant_width values_of judged type_fault
t1_fine_read = refl

t1_untyped_read : refusal t1_untyped ≡ Some (type_rule_at 1 0 1 63)
unfolding table_of class_fault is_constant evaluated constant_width values_of judged type_fault
t1_untyped_read = refl

t3_name_read : refusal t3_name ≡ Some (type_rule_at 3 0 1 28)
unfolding table_of class_fault is_constant evaluated constant_width values_of judged type_fault
t3_name_read = refl

t3_class_read : refusal t3_class ≡ Some (type_rule_at 3 0 1 28)
unfolding table_of class_fault is_constant evaluated constant_width values_of judged type_fault
t3_class_read = refl

t3_ended_read : refusal t3_ended ≡ Some (type_rule_at 3 0 1 37)
unfolding table_of class_fault is_constant evaluated constant_width values_of judged type_fault
t3_ended_read = refl

t3_own_read : refusal t3_own ≡ None
unfolding table_of class_fault is_constant evaluated constant_width values_of judged type_fault
t3_own_read = refl

t3_outer_read : refusal t3_outer ≡ Some (type_rule_at 3 0 1 80)
unfolding table_of class_fault is_constant evaluated constant_width values_of judged type_fault
t3_outer_read = refl

t3_fine_read : refusal t3_fine ≡ None
unfolding table_of class_fault is_constant evaluated constant_width values_of judged type_fault
t3_fine_read = refl

t4_two_read : refusal t4_two ≡ Some (type_rule_at 4 0 1 33)
unfolding table_of class_fault is_constant evaluated constant_width values_of judged type_fault
t4_two_read = refl

t4_inner_read : refusal t4_inner ≡ Some (type_rule_at 4 0 1 49)
unfolding table_of class_fault is_constant evaluated constant_width values_of judged type_fault
t4_inner_read = refl

t4_parameters_read : refusal t4_parameters ≡ Some (type_rule_at 4 0 1 29)
unfolding table_of class_fault is_constant evaluated constant_width values_of judged type_fault
t4_parameters_read = refl

t4_for_read : refusal t4_for ≡ Some (type_rule_at 4 0 1 42)
unfolding table_of class_fault is_constant evaluated constant_width values_of judged type_fault
t4_for_read = refl

t4_fine_read : refusal t4_fine ≡ None
unfolding table_of class_fault is_constant evaluated constant_width values_of judged type_fault
t4_fine_read = refl

t5_this_read : refusal t5_this ≡ Some (type_rule_at 5 0 1 33)
unfolding table_of class_fault is_constant evaluated constant_width values_of judged type_fault
t5_this_read = refl

t5_field_read : refusal t5_field ≡ Some (type_rule_at 5 0 1 42)
unfolding table_of class_fault is_constant evaluated constant_width values_of judged type_fault
t5_field_read = refl

t5_method_read : refusal t5_method ≡ Some (type_rule_at 5 0 1 57)
unfolding table_of class_fault is_constant evaluated constant_width values_of judged type_fault
t5_method_read = refl

t5_super_read : refusal t5_super ≡ Some (type_rule_at 5 0 1 79)
unfolding table_of class_fault is_constant evaluated constant_width values_of judged type_fault
t5_super_read = refl

t5_constant_read : refusal t5_constant ≡ Some (type_rule_at 5 0 1 39)
unfolding table_of class_fault is_constant evaluated constant_width values_of judged type_fault
t5_constant_read = refl

t5_fine_read : refusal t5_fine ≡ None
unfolding table_of class_fault is_constant evaluated constant_width values_of judged type_fault
t5_fine_read = refl

t6_alone_read : refusal t6_alone ≡ Some (type_rule_at 6 0 1 28)
unfolding table_of class_fault is_constant evaluated constant_width values_of judged type_fault
t6_alone_read = refl

t6_plus_read : refusal t6_plus ≡ Some (type_rule_at 6 0 1 31)
unfolding table_of class_fault is_constant evaluated constant_width values_of judged type_fault
t6_plus_read = refl

t6_fine_read : refusal t6_fine ≡ None
unfolding table_of class_fault is_constant evaluated constant_width values_of judged type_fault
t6_fine_read = refl

t7_read : refusal t7 ≡ Some (type_rule_at 7 0 1 28)
unfolding table_of class_fault is_constant evaluated constant_width values_of judged type_fault
t7_read = refl

t8_read : refusal t8 ≡ Some (type_rule_at 8 0 1 28)
unfolding table_of class_fault is_constant evaluated constant_width values_of judged type_fault
t8_read = refl

t9_read : refusal t9 ≡ Some (type_rule_at 9 0 1 32)
unfolding table_of class_fault is_constant evaluated constant_width values_of judged type_fault
t9_read = refl

t10_read : refusal t10 ≡ Some (type_rule_at 10 0 1 35)
unfolding table_of class_fault is_constant evaluated constant_width values_of judged type_fault
t10_read = refl

t10_unrelated_read : refusal t10_unrelated ≡ Some (type_rule_at 10 0 1 35)
unfolding table_of class_fault is_constant evaluated constant_width values_of judged type_fault
t10_unrelated_read = refl

t10_fine_read : refusal t10_fine ≡ None
unfolding table_of class_fault is_constant evaluated constant_width values_of judged type_fault
t10_fine_read = refl

t11_read : refusal t11 ≡ Some (type_rule_at 11 0 1 28)
unfolding table_of class_fault is_constant evaluated constant_width values_of judged type_fault
t11_read = refl

t11_fine_read : refusal t11_fine ≡ None
unfolding table_of class_fault is_constant evaluated constant_width values_of judged type_fault
t11_fine_read = refl

t12_read : refusal t12 ≡ Some (type_rule_at 12 0 1 32)
unfolding table_of class_fault is_constant evaluated constant_width values_of judged type_fault
t12_read = refl

t13_read : refusal t13 ≡ Some (type_rule_at 13 0 1 32)
unfolding table_of class_fault is_constant evaluated constant_width values_of judged type_fault
t13_read = refl

t14_read : refusal t14 ≡ Some (type_rule_at 14 0 1 28)
unfolding table_of class_fault is_constant evaluated constant_width values_of judged type_fault
t14_read = refl

t15_read : refusal t15 ≡ Some (type_rule_at 15 0 1 28)
unfolding table_of class_fault is_constant evaluated constant_width values_of judged type_fault
t15_read = refl

t15_arms_read : refusal t15_arms ≡ Some (type_rule_at 15 0 1 37)
unfolding table_of class_fault is_constant evaluated constant_width values_of judged type_fault
t15_arms_read = refl

t15_fine_read : refusal t15_fine ≡ None
unfolding table_of class_fault is_constant evaluated constant_width values_of judged type_fault
t15_fine_read = refl

t16_read : refusal t16 ≡ Some (type_rule_at 16 0 1 27)
unfolding table_of class_fault is_constant evaluated constant_width values_of judged type_fault
t16_read = refl

t16_below_read : refusal t16_below ≡ Some (type_rule_at 16 0 1 37)
unfolding table_of class_fault is_constant evaluated constant_width values_of judged type_fault
t16_below_read = refl

t17_read : refusal t17 ≡ Some (type_rule_at 17 0 1 31)
unfolding table_of class_fault is_constant evaluated constant_width values_of judged type_fault
t17_read = refl

t17_fine_read : refusal t17_fine ≡ None
unfolding table_of class_fault is_constant evaluated constant_width values_of judged type_fault
t17_fine_read = refl

t18_read : refusal t18 ≡ Some (type_rule_at 18 0 1 31)
unfolding table_of class_fault is_constant evaluated constant_width values_of judged type_fault
t18_read = refl

t19_constant_read : refusal t19_constant ≡ Some (type_rule_at 19 0 1 46)
unfolding table_of class_fault is_constant evaluated constant_width values_of judged type_fault
t19_constant_read = refl

t19_length_read : refusal t19_length ≡ Some (type_rule_at 19 0 1 29)
unfolding table_of class_fault is_constant evaluated constant_width values_of judged type_fault
t19_length_read = refl

t19_call_read : refusal t19_call ≡ Some (type_rule_at 19 0 1 44)
unfolding table_of class_fault is_constant evaluated constant_width values_of judged type_fault
t19_call_read = refl

t19_fine_read : refusal t19_fine ≡ None
unfolding table_of class_fault is_constant evaluated constant_width values_of judged type_fault
t19_fine_read = refl

t20_read : refusal t20 ≡ Some (type_rule_at 20 0 1 28)
unfolding table_of class_fault is_constant evaluated constant_width values_of judged type_fault
t20_read = refl

t20_unrelated_read : refusal t20_unrelated ≡ Some (type_rule_at 20 0 1 29)
unfolding table_of class_fault is_constant evaluated constant_width values_of judged type_fault
t20_unrelated_read = refl

t20_collection_read : refusal t20_collection ≡ Some (type_rule_at 20 0 1 47)
unfolding table_of class_fault is_constant evaluated constant_width values_of judged type_fault
t20_collection_read = refl

t20_fine_read : refusal t20_fine ≡ None
unfolding table_of class_fault is_constant evaluated constant_width values_of judged type_fault
t20_fine_read = refl

t21_read : refusal t21 ≡ Some (type_rule_at 21 0 1 37)
unfolding table_of class_fault is_constant evaluated constant_width values_of judged type_fault
t21_read = refl

t21_unrelated_read : refusal t21_unrelated ≡ Some (type_rule_at 21 0 1 35)
unfolding table_of class_fault is_constant evaluated constant_width values_of judged type_fault
t21_unrelated_read = refl

t21_fine_read : refusal t21_fine ≡ None
unfolding table_of class_fault is_constant evaluated constant_width values_of judged type_fault
t21_fine_read = refl

t22_read : refusal t22 ≡ Some (type_rule_at 22 0 1 28)
unfolding table_of class_fault is_constant evaluated constant_width values_of judged type_fault
t22_read = refl

t22_constant_read : refusal t22_constant ≡ Some (type_rule_at 22 0 1 52)
unfolding table_of class_fault is_constant evaluated constant_width values_of judged type_fault
t22_constant_read = refl

t22_static_read : refusal t22_static ≡ Some (type_rule_at 22 0 1 35)
unfolding table_of class_fault is_constant evaluated constant_width values_of judged type_fault
t22_static_read = refl

t22_outer_read : refusal t22_outer ≡ Some (type_rule_at 22 0 1 71)
unfolding table_of class_fault is_constant evaluated constant_width values_of judged type_fault
t22_outer_read = refl

t22_int_read : refusal t22_int ≡ Some (type_rule_at 22 0 1 33)
unfolding table_of class_fault is_constant evaluated constant_width values_of judged type_fault
t22_int_read = refl

t22_fine_read : refusal t22_fine ≡ None
unfolding table_of class_fault is_constant evaluated constant_width values_of judged type_fault
t22_fine_read = refl

t23_read : refusal t23 ≡ Some (type_rule_at 23 0 1 35)
unfolding table_of class_fault is_constant evaluated constant_width values_of judged type_fault
t23_read = refl

t23_no_array_read : refusal t23_no_array ≡ Some (type_rule_at 23 0 1 31)
unfolding table_of class_fault is_constant evaluated constant_width values_of judged type_fault
t23_no_array_read = refl

t24_unknown_read : refusal t24_unknown ≡ Some (type_rule_at 24 0 1 22)
unfolding table_of class_fault is_constant evaluated constant_width values_of judged type_fault
t24_unknown_read = refl

t24_number_read : refusal t24_number ≡ Some (type_rule_at 24 0 1 27)
unfolding table_of class_fault is_constant evaluated constant_width values_of judged type_fault
t24_number_read = refl

t24_type_read : refusal t24_type ≡ Some (type_rule_at 24 0 1 25)
unfolding table_of class_fault is_constant evaluated constant_width values_of judged type_fault
t24_type_read = refl

t24_static_read : refusal t24_static ≡ Some (type_rule_at 24 0 1 35)
unfolding table_of class_fault is_constant evaluated constant_width values_of judged type_fault
t24_static_read = refl

t24_int_read : refusal t24_int ≡ Some (type_rule_at 24 0 1 27)
unfolding table_of class_fault is_constant evaluated constant_width values_of judged type_fault
t24_int_read = refl

t24_fine_read : refusal t24_fine ≡ None
unfolding table_of class_fault is_constant evaluated constant_width values_of judged type_fault
t24_fine_read = refl

t25_add_read : refusal t25_add ≡ Some (type_rule_at 25 0 1 34)
unfolding table_of class_fault is_constant evaluated constant_width values_of judged type_fault
t25_add_read = refl

t25_first_read : refusal t25_first ≡ Some (type_rule_at 25 0 1 34)
unfolding table_of class_fault is_constant evaluated constant_width values_of judged type_fault
t25_first_read = refl

t25_contains_read : refusal t25_contains ≡ Some (type_rule_at 25 0 1 44)
unfolding table_of class_fault is_constant evaluated constant_width values_of judged type_fault
t25_contains_read = refl

t25_clear_read : refusal t25_clear ≡ Some (type_rule_at 25 0 1 34)
unfolding table_of class_fault is_constant evaluated constant_width values_of judged type_fault
t25_clear_read = refl

t25_diamond_read : refusal t25_diamond ≡ Some (type_rule_at 25 0 1 22)
unfolding table_of class_fault is_constant evaluated constant_width values_of judged type_fault
t25_diamond_read = refl

t25_fine_read : refusal t25_fine ≡ None
unfolding table_of class_fault is_constant evaluated constant_width values_of judged type_fault
t25_fine_read = refl

t26_number_read : refusal t26_number ≡ Some (type_rule_at 26 0 1 22)
unfolding table_of class_fault is_constant evaluated constant_width values_of judged type_fault
t26_number_read = refl

t26_type_read : refusal t26_type ≡ Some (type_rule_at 26 0 1 35)
unfolding table_of class_fault is_constant evaluated constant_width values_of judged type_fault
t26_type_read = refl

t26_collection_read : refusal t26_collection ≡ Some (type_rule_at 26 0 1 22)
unfolding table_of class_fault is_constant evaluated constant_width values_of judged type_fault
t26_collection_read = refl

t26_diamond_read : refusal t26_diamond ≡ Some (type_rule_at 26 0 1 22)
unfolding table_of class_fault is_constant evaluated constant_width values_of judged type_fault
t26_diamond_read = refl

t26_fine_read : refusal t26_fine ≡ None
unfolding table_of class_fault is_constant evaluated constant_width values_of judged type_fault
t26_fine_read = refl

t27_read : refusal t27 ≡ Some (type_rule_at 27 0 1 32)
unfolding table_of class_fault is_constant evaluated constant_width values_of judged type_fault
t27_read = refl

t28_while_read : refusal t28_while ≡ Some (type_rule_at 28 0 1 22)
unfolding table_of class_fault is_constant evaluated constant_width values_of judged type_fault
t28_while_read = refl

t28_if_read : refusal t28_if ≡ Some (type_rule_at 28 0 1 22)
unfolding table_of class_fault is_constant evaluated constant_width values_of judged type_fault
t28_if_read = refl

t28_do_read : refusal t28_do ≡ Some (type_rule_at 28 0 1 22)
unfolding table_of class_fault is_constant evaluated constant_width values_of judged type_fault
t28_do_read = refl

t28_for_read : refusal t28_for ≡ Some (type_rule_at 28 0 1 22)
unfolding table_of class_fault is_constant evaluated constant_width values_of judged type_fault
t28_for_read = refl

t28_contract_read : refusal t28_contract ≡ Some (type_rule_at 28 0 2 1)
unfolding table_of class_fault is_constant evaluated constant_width values_of judged type_fault
t28_contract_read = refl

t28_fine_read : refusal t28_fine ≡ None
unfolding table_of class_fault is_constant evaluated constant_width values_of judged type_fault
t28_fine_read = refl

t29_read : refusal t29 ≡ Some (type_rule_at 29 0 1 26)
unfolding table_of class_fault is_constant evaluated constant_width values_of judged type_fault
t29_read = refl

t29_fine_read : refusal t29_fine ≡ None
unfolding table_of class_fault is_constant evaluated constant_width values_of judged type_fault
t29_fine_read = refl

t30_void_read : refusal t30_void ≡ Some (type_rule_at 30 0 1 22)
unfolding table_of class_fault is_constant evaluated constant_width values_of judged type_fault
t30_void_read = refl

t30_none_read : refusal t30_none ≡ Some (type_rule_at 30 0 1 21)
unfolding table_of class_fault is_constant evaluated constant_width values_of judged type_fault
t30_none_read = refl

t30_type_read : refusal t30_type ≡ Some (type_rule_at 30 0 1 21)
unfolding table_of class_fault is_constant evaluated constant_width values_of judged type_fault
t30_type_read = refl

t30_constructor_read : refusal t30_constructor ≡ Some (type_rule_at 30 0 1 17)
unfolding table_of class_fault is_constant evaluated constant_width values_of judged type_fault
t30_constructor_read = refl

t30_fine_read : refusal t30_fine ≡ None
unfolding table_of class_fault is_constant evaluated constant_width values_of judged type_fault
t30_fine_read = refl

t31_read : refusal t31 ≡ Some (type_rule_at 31 0 1 32)
unfolding table_of class_fault is_constant evaluated constant_width values_of judged type_fault
t31_read = refl

t31_continue_read : refusal t31_continue ≡ Some (type_rule_at 31 0 1 38)
unfolding table_of class_fault is_constant evaluated constant_width values_of judged type_fault
t31_continue_read = refl

t32_read : refusal t32 ≡ Some (type_rule_at 32 0 1 41)
unfolding table_of class_fault is_constant evaluated constant_width values_of judged type_fault
t32_read = refl

t32_argument_read : refusal t32_argument ≡ Some (type_rule_at 32 0 1 42)
unfolding table_of class_fault is_constant evaluated constant_width values_of judged type_fault
t32_argument_read = refl

t32_initial_read : refusal t32_initial ≡ Some (type_rule_at 32 0 1 43)
unfolding table_of class_fault is_constant evaluated constant_width values_of judged type_fault
t32_initial_read = refl

t32_fine_read : refusal t32_fine ≡ None
unfolding table_of class_fault is_constant evaluated constant_width values_of judged type_fault
t32_fine_read = refl

t33_read : refusal t33 ≡ Some (type_rule_at 33 0 1 28)
unfolding table_of class_fault is_constant evaluated constant_width values_of judged type_fault
t33_read = refl

t33_static_read : refusal t33_static ≡ Some (type_rule_at 33 0 1 79)
unfolding table_of class_fault is_constant evaluated constant_width values_of judged type_fault
t33_static_read = refl

t33_fine_read : refusal t33_fine ≡ None
unfolding table_of class_fault is_constant evaluated constant_width values_of judged type_fault
t33_fine_read = refl

t34_class_read : refusal t34_class ≡ Some (type_rule_at 34 0 1 32)
unfolding table_of class_fault is_constant evaluated constant_width values_of judged type_fault
t34_class_read = refl

t34_absent_read : refusal t34_absent ≡ Some (type_rule_at 34 0 1 46)
unfolding table_of class_fault is_constant evaluated constant_width values_of judged type_fault
t34_absent_read = refl

t34_type_read : refusal t34_type ≡ Some (type_rule_at 34 0 1 52)
unfolding table_of class_fault is_constant evaluated constant_width values_of judged type_fault
t34_type_read = refl

t34_none_read : refusal t34_none ≡ Some (type_rule_at 34 0 1 17)
unfolding table_of class_fault is_constant evaluated constant_width values_of judged type_fault
t34_none_read = refl

t34_fine_read : refusal t34_fine ≡ None
unfolding table_of class_fault is_constant evaluated constant_width values_of judged type_fault
t34_fine_read = refl

t35_read : refusal t35 ≡ Some (type_rule_at 35 0 1 15)
unfolding table_of class_fault is_constant evaluated constant_width values_of judged type_fault
t35_read = refl

t35_constant_read : refusal t35_constant ≡ Some (type_rule_at 35 0 1 28)
unfolding table_of class_fault is_constant evaluated constant_width values_of judged type_fault
t35_constant_read = refl

t35_fine_read : refusal t35_fine ≡ None
unfolding table_of class_fault is_constant evaluated constant_width values_of judged type_fault
t35_fine_read = refl

t36_absent_read : refusal t36_absent ≡ Some (type_rule_at 36 0 1 28)
unfolding table_of class_fault is_constant evaluated constant_width values_of judged type_fault
t36_absent_read = refl

t36_later_read : refusal t36_later ≡ Some (type_rule_at 36 0 1 28)
unfolding table_of class_fault is_constant evaluated constant_width values_of judged type_fault
t36_later_read = refl

t36_call_read : refusal t36_call ≡ Some (type_rule_at 36 0 1 57)
unfolding table_of class_fault is_constant evaluated constant_width values_of judged type_fault
t36_call_read = refl

t36_divisor_read : refusal t36_divisor ≡ Some (type_rule_at 36 0 1 28)
unfolding table_of class_fault is_constant evaluated constant_width values_of judged type_fault
t36_divisor_read = refl

t36_zero_read : refusal t36_zero ≡ Some (type_rule_at 36 0 1 52)
unfolding table_of class_fault is_constant evaluated constant_width values_of judged type_fault
t36_zero_read = refl

t36_instance_read : refusal t36_instance ≡ Some (type_rule_at 36 0 1 32)
unfolding table_of class_fault is_constant evaluated constant_width values_of judged type_fault
t36_instance_read = refl

t36_fine_read : refusal t36_fine ≡ None
unfolding table_of class_fault is_constant evaluated constant_width values_of judged type_fault
t36_fine_read = refl

t37_static_read : refusal t37_static ≡ Some (type_rule_at 37 0 1 22)
unfolding table_of class_fault is_constant evaluated constant_width values_of judged type_fault
t37_static_read = refl

t37_type_read : refusal t37_type ≡ Some (type_rule_at 37 0 1 26)
unfolding table_of class_fault is_constant evaluated constant_width values_of judged type_fault
t37_type_read = refl

t38_requires_read : refusal t38_requires ≡ Some (type_rule_at 38 0 2 14)
unfolding table_of class_fault is_constant evaluated constant_width values_of judged type_fault
t38_requires_read = refl

t38_void_read : refusal t38_void ≡ Some (type_rule_at 38 0 2 13)
unfolding table_of class_fault is_constant evaluated constant_width values_of judged type_fault
t38_void_read = refl

t38_old_read : refusal t38_old ≡ Some (type_rule_at 38 0 2 18)
unfolding table_of class_fault is_constant evaluated constant_width values_of judged type_fault
t38_old_read = refl

t38_old_requires_read : refusal t38_old_requires ≡ Some (type_rule_at 38 0 2 14)
unfolding table_of class_fault is_constant evaluated constant_width values_of judged type_fault
t38_old_requires_read = refl

t38_fine_read : refusal t38_fine ≡ None
unfolding table_of class_fault is_constant evaluated constant_width values_of judged type_fault
t38_fine_read = refl

t39_write_read : refusal t39_write ≡ Some (type_rule_at 39 0 2 15)
unfolding table_of class_fault is_constant evaluated constant_width values_of judged type_fault
t39_write_read = refl

t39_step_read : refusal t39_step ≡ Some (type_rule_at 39 0 2 13)
unfolding table_of class_fault is_constant evaluated constant_width values_of judged type_fault
t39_step_read = refl

t39_new_read : refusal t39_new ≡ Some (type_rule_at 39 0 2 13)
unfolding table_of class_fault is_constant evaluated constant_width values_of judged type_fault
t39_new_read = refl

t39_array_read : refusal t39_array ≡ Some (type_rule_at 39 0 2 13)
unfolding table_of class_fault is_constant evaluated constant_width values_of judged type_fault
t39_array_read = refl

t40_read : refusal t40 ≡ Some (type_rule_at 40 0 2 1)
unfolding table_of class_fault is_constant evaluated constant_width values_of judged type_fault
t40_read = refl

t40_parameter_read : refusal t40_parameter ≡ None
unfolding table_of class_fault is_constant evaluated constant_width values_of judged type_fault
t40_parameter_read = refl

t_place_read : refusal t_place ≡ Some (type_rule_at 7 0 1 29)
unfolding table_of class_fault is_constant evaluated constant_width values_of judged type_fault
t_place_read = refl

t_rule_read : refusal t_rule ≡ Some (type_rule_at 16 0 1 46)
unfolding table_of class_fault is_constant evaluated constant_width values_of judged type_fault
t_rule_read = refl

t_files_read : refusal t_files ≡ Some (type_rule_at 35 1 1 15)
unfolding table_of class_fault is_constant evaluated constant_width values_of judged type_fault
t_files_read = refl

demo_read : refusal demo ≡ None
unfolding table_of class_fault is_constant evaluated constant_width values_of judged type_fault
demo_read = refl

c5_argument_read : refusal c5_argument ≡ Some (class_rule_at 5 0 1 59)
unfolding table_of class_fault is_constant evaluated constant_width values_of judged type_fault
c5_argument_read = refl

c5_head_read : refusal c5_head ≡ Some (class_rule_at 5 0 1 59)
unfolding table_of class_fault is_constant evaluated constant_width values_of judged type_fault
c5_head_read = refl

c5_spelled_read : refusal c5_spelled ≡ Some (class_rule_at 5 0 1 56)
unfolding table_of class_fault is_constant evaluated constant_width values_of judged type_fault
c5_spelled_read = refl

c7_fine_unknown_read : refusal c7_fine_unknown ≡ Some (type_rule_at 1 0 1 11)
unfolding table_of class_fault is_constant evaluated constant_width values_of judged type_fault
c7_fine_unknown_read = refl

t36_cast_read : refusal t36_cast ≡ Some (type_rule_at 36 0 1 32)
unfolding table_of class_fault is_constant evaluated constant_width values_of judged type_fault
t36_cast_read = refl

each_operator_read : type_faults each_operator ≡ fault_at 7 0 2 5 ∷ fault_at 7 0 3 5 ∷ fault_at 7 0 4 5 ∷ fault_at 7 0 5 5 ∷ fault_at 7 0 6 5 ∷ fault_at 8 0 7 5 ∷ fault_at 8 0 8 5 ∷ fault_at 8 0 9 5 ∷ fault_at 9 0 10 5 ∷ fault_at 9 0 11 5 ∷ fault_at 9 0 12 5 ∷ fault_at 9 0 13 5 ∷ fault_at 10 0 14 5 ∷ fault_at 10 0 15 5 ∷ fault_at 11 0 16 5 ∷ fault_at 11 0 17 5 ∷ fault_at 11 0 18 5 ∷ fault_at 12 0 19 5 ∷ fault_at 12 0 20 5 ∷ fault_at 13 0 21 5 ∷ fault_at 14 0 22 5 ∷ fault_at 14 0 23 5 ∷ fault_at 14 0 24 5 ∷ []
unfolding table_of class_fault is_constant evaluated constant_width values_of judged type_fault
each_operator_read = refl

each_result_read : type_faults each_result ≡ fault_at 16 0 2 1 ∷ fault_at 16 0 3 1 ∷ fault_at 16 0 4 1 ∷ fault_at 16 0 5 1 ∷ fault_at 16 0 6 1 ∷ fault_at 16 0 7 1 ∷ fault_at 16 0 8 1 ∷ fault_at 16 0 9 1 ∷ fault_at 16 0 10 1 ∷ fault_at 16 0 11 1 ∷ fault_at 16 0 12 1 ∷ fault_at 16 0 13 1 ∷ fault_at 16 0 14 1 ∷ fault_at 16 0 15 1 ∷ fault_at 16 0 16 1 ∷ fault_at 16 0 17 1 ∷ fault_at 16 0 18 1 ∷ fault_at 16 0 19 1 ∷ fault_at 16 0 20 1 ∷ fault_at 16 0 21 1 ∷ fault_at 16 0 22 1 ∷ fault_at 16 0 23 1 ∷ fault_at 16 0 24 1 ∷ fault_at 16 0 25 1 ∷ fault_at 16 0 27 1 ∷ fault_at 16 0 28 1 ∷ fault_at 16 0 29 1 ∷ fault_at 16 0 30 1 ∷ []
unfolding table_of class_fault is_constant evaluated constant_width values_of judged type_fault
each_result_read = refl

each_compound_read : type_faults each_compound ≡ fault_at 17 0 2 1 ∷ fault_at 17 0 3 1 ∷ fault_at 17 0 4 1 ∷ fault_at 17 0 5 1 ∷ fault_at 17 0 6 1 ∷ fault_at 17 0 7 1 ∷ fault_at 17 0 8 1 ∷ fault_at 17 0 9 1 ∷ fault_at 17 0 10 1 ∷ fault_at 17 0 11 1 ∷ fault_at 17 0 12 1 ∷ []
unfolding table_of class_fault is_constant evaluated constant_width values_of judged type_fault
each_compound_read = refl

each_step_read : type_faults each_step ≡ fault_at 18 0 2 1 ∷ fault_at 18 0 3 1 ∷ fault_at 19 0 4 1 ∷ fault_at 19 0 5 1 ∷ fault_at 19 0 6 1 ∷ fault_at 32 0 11 3 ∷ []
unfolding table_of class_fault is_constant evaluated constant_width values_of judged type_fault
each_step_read = refl

each_type_read : type_faults each_type ≡ fault_at 1 0 2 1 ∷ fault_at 1 0 6 1 ∷ fault_at 1 0 7 1 ∷ fault_at 1 0 8 1 ∷ fault_at 1 0 9 1 ∷ fault_at 1 0 10 1 ∷ fault_at 1 0 11 1 ∷ fault_at 1 0 12 1 ∷ fault_at 1 0 13 1 ∷ fault_at 1 0 14 9 ∷ fault_at 1 0 16 1 ∷ fault_at 1 0 17 1 ∷ []
unfolding table_of class_fault is_constant evaluated constant_width values_of judged type_fault
each_type_read = refl

each_cast_read : type_faults each_cast ≡ fault_at 20 0 4 5 ∷ fault_at 20 0 5 5 ∷ fault_at 20 0 6 5 ∷ fault_at 20 0 7 5 ∷ fault_at 20 0 8 5 ∷ fault_at 20 0 9 5 ∷ fault_at 20 0 10 5 ∷ fault_at 20 0 11 5 ∷ fault_at 20 0 13 5 ∷ fault_at 21 0 16 5 ∷ fault_at 21 0 17 5 ∷ fault_at 21 0 18 5 ∷ fault_at 21 0 20 5 ∷ fault_at 21 0 22 5 ∷ []
unfolding table_of class_fault is_constant evaluated constant_width values_of judged type_fault
each_cast_read = refl

each_call_read : type_faults each_call ≡ fault_at 25 0 4 1 ∷ fault_at 25 0 5 1 ∷ fault_at 25 0 6 1 ∷ fault_at 25 0 8 1 ∷ fault_at 25 0 10 1 ∷ fault_at 25 0 13 1 ∷ fault_at 25 0 15 1 ∷ fault_at 25 0 16 1 ∷ fault_at 25 0 17 1 ∷ fault_at 16 0 23 1 ∷ fault_at 16 0 24 1 ∷ fault_at 25 0 25 1 ∷ fault_at 24 0 26 1 ∷ fault_at 24 0 27 1 ∷ []
unfolding table_of class_fault is_constant evaluated constant_width values_of judged type_fault
each_call_read = refl

each_loop_read : type_faults each_loop ≡ fault_at 31 0 2 1 ∷ fault_at 31 0 4 1 ∷ fault_at 31 0 6 1 ∷ fault_at 31 0 8 1 ∷ fault_at 31 0 10 1 ∷ fault_at 28 0 11 1 ∷ fault_at 28 0 12 1 ∷ fault_at 28 0 13 1 ∷ fault_at 28 0 14 1 ∷ fault_at 28 0 15 1 ∷ []
unfolding table_of class_fault is_constant evaluated constant_width values_of judged type_fault
each_loop_read = refl

each_contract_read : type_faults each_contract ≡ fault_at 38 0 2 14 ∷ fault_at 28 0 3 1 ∷ fault_at 28 0 4 1 ∷ fault_at 38 0 5 14 ∷ fault_at 38 0 7 18 ∷ fault_at 38 0 8 18 ∷ fault_at 39 0 10 13 ∷ fault_at 39 0 11 15 ∷ fault_at 39 0 12 15 ∷ fault_at 39 0 13 14 ∷ fault_at 39 0 14 14 ∷ fault_at 39 0 15 14 ∷ fault_at 40 0 17 1 ∷ fault_at 5 0 18 13 ∷ fault_at 38 0 19 13 ∷ fault_at 3 0 21 24 ∷ []
unfolding table_of class_fault is_constant evaluated constant_width values_of judged type_fault
each_contract_read = refl

each_constant_read : type_faults each_constant ≡ fault_at 36 0 3 18 ∷ fault_at 37 0 4 12 ∷ fault_at 37 0 5 16 ∷ fault_at 36 0 6 18 ∷ fault_at 35 0 8 18 ∷ fault_at 36 0 10 18 ∷ fault_at 36 0 12 22 ∷ fault_at 36 0 14 18 ∷ fault_at 36 0 15 22 ∷ fault_at 36 0 17 18 ∷ fault_at 37 0 18 18 ∷ fault_at 36 0 19 12 ∷ fault_at 1 0 20 14 ∷ []
unfolding table_of class_fault is_constant evaluated constant_width values_of judged type_fault
each_constant_read = refl

each_return_read : type_faults each_return ≡ fault_at 30 0 3 1 ∷ fault_at 30 0 6 1 ∷ fault_at 30 0 7 1 ∷ fault_at 30 0 10 1 ∷ fault_at 30 0 14 1 ∷ fault_at 30 0 16 1 ∷ []
unfolding table_of class_fault is_constant evaluated constant_width values_of judged type_fault
each_return_read = refl

each_static_read : type_faults each_static ≡ fault_at 5 0 2 9 ∷ fault_at 5 0 3 5 ∷ fault_at 5 0 4 5 ∷ fault_at 24 0 7 5 ∷ fault_at 22 0 10 5 ∷ fault_at 22 0 12 5 ∷ fault_at 33 0 15 5 ∷ fault_at 33 0 16 5 ∷ fault_at 3 0 19 8 ∷ fault_at 5 0 20 8 ∷ []
unfolding table_of class_fault is_constant evaluated constant_width values_of judged type_fault
each_static_read = refl

each_nested_read : type_faults each_nested ≡ fault_at 3 0 13 8 ∷ []
unfolding table_of class_fault is_constant evaluated constant_width values_of judged type_fault
each_nested_read = refl

each_local_read : type_faults each_local ≡ fault_at 4 0 2 5 ∷ fault_at 4 0 3 16 ∷ fault_at 4 0 4 7 ∷ fault_at 4 0 6 34 ∷ fault_at 29 0 7 27 ∷ fault_at 4 0 8 24 ∷ fault_at 4 0 9 41 ∷ fault_at 29 0 10 36 ∷ fault_at 29 0 11 3 ∷ fault_at 29 0 12 33 ∷ fault_at 29 0 12 55 ∷ fault_at 1 0 13 1 ∷ []
unfolding table_of class_fault is_constant evaluated constant_width values_of judged type_fault
each_local_read = refl

family_read : refusal family ≡ None
unfolding table_of class_fault is_constant evaluated constant_width values_of judged type_fault
family_read = refl

operator_values_read : map (λ k. k.value) (values_of (table_of operator_values)) ≡ Whole (negsuc 20) ∷ Whole (negsuc 2) ∷ Whole (negsuc 0) ∷ Whole (negsuc 2147483647) ∷ Whole (pos 2147483647) ∷ Whole (pos 2) ∷ Whole (negsuc 2) ∷ Whole (pos 2147483645) ∷ Whole (pos 8) ∷ Whole (pos 6) ∷ Whole (pos 15) ∷ Whole (negsuc 2147483647) ∷ Whole (pos 0) ∷ Whole (pos 0) ∷ Whole (negsuc 10) ∷ Whole (negsuc 8) ∷ Whole (negsuc 2147483647) ∷ Whole (pos 2) ∷ Whole (pos 2) ∷ Whole (pos 65536) ∷ Whole (negsuc 2) ∷ Whole (pos 1) ∷ Whole (negsuc 5) ∷ Whole (pos 0) ∷ Whole (negsuc 4) ∷ Whole (pos 5) ∷ []
unfolding table_of class_fault is_constant evaluated constant_width values_of judged type_fault
operator_values_read = refl

boolean_values_read : map (λ k. k.value) (values_of (table_of boolean_values)) ≡ Holds true ∷ Holds false ∷ Holds false ∷ Holds true ∷ Holds true ∷ Holds false ∷ Holds true ∷ Holds false ∷ Holds true ∷ Holds false ∷ Holds false ∷ Holds true ∷ Holds true ∷ Holds false ∷ Holds false ∷ Holds true ∷ Holds false ∷ Holds true ∷ Holds false ∷ Holds true ∷ Holds true ∷ Holds false ∷ Holds false ∷ Holds true ∷ Holds true ∷ Holds false ∷ Holds false ∷ Holds true ∷ Holds true ∷ Holds false ∷ Holds true ∷ Holds true ∷ Holds true ∷ Holds false ∷ Holds true ∷ Whole (pos 1) ∷ Whole (pos 2) ∷ Whole (pos 3) ∷ Holds true ∷ Holds true ∷ []
unfolding table_of class_fault is_constant evaluated constant_width values_of judged type_fault
boolean_values_read = refl

ordered_values_read : map (λ k. k.value) (values_of (table_of ordered_values)) ≡ Whole (pos 1) ∷ Whole (pos 2) ∷ Whole (pos 3) ∷ Whole (pos 31) ∷ []
unfolding table_of class_fault is_constant evaluated constant_width values_of judged type_fault
ordered_values_read = refl

c3_fine_deep_read : refusal c3_fine_deep ≡ None
unfolding table_of class_fault is_constant evaluated constant_width values_of judged type_fault
c3_fine_deep_read = refl

c1_case_read : refusal c1_case ≡ None
unfolding table_of class_fault is_constant evaluated constant_width values_of judged type_fault
c1_case_read = refl

each_role_read : type_faults each_role ≡ fault_at 32 0 4 5 ∷ fault_at 32 0 5 1 ∷ fault_at 32 0 6 7 ∷ fault_at 32 0 7 5 ∷ fault_at 32 0 8 1 ∷ fault_at 32 0 9 3 ∷ fault_at 32 0 10 7 ∷ fault_at 32 0 11 13 ∷ fault_at 32 0 12 6 ∷ fault_at 32 0 13 1 ∷ fault_at 32 0 14 5 ∷ fault_at 32 0 15 9 ∷ fault_at 32 0 16 9 ∷ fault_at 32 0 17 5 ∷ fault_at 32 0 18 6 ∷ fault_at 32 0 19 5 ∷ fault_at 32 0 20 8 ∷ fault_at 32 0 21 16 ∷ fault_at 32 0 22 11 ∷ fault_at 32 0 24 9 ∷ fault_at 6 0 26 11 ∷ fault_at 6 0 27 8 ∷ fault_at 6 0 28 8 ∷ fault_at 6 0 29 11 ∷ fault_at 6 0 31 6 ∷ fault_at 6 0 32 12 ∷ fault_at 32 0 33 8 ∷ []
unfolding table_of class_fault is_constant evaluated constant_width values_of judged type_fault
each_role_read = refl

shifted_values_read : map (λ k. k.value) (values_of (table_of shifted_values)) ≡ Whole (negsuc 2147483647) ∷ Whole (pos 1) ∷ Whole (pos 1) ∷ Whole (pos 16) ∷ Whole (pos 1) ∷ Whole (pos 1) ∷ Whole (negsuc 1) ∷ Whole (pos 0) ∷ Whole (pos 2147483647) ∷ Whole (pos 0) ∷ Whole (pos 0) ∷ Whole (negsuc 67153018) ∷ []
unfolding table_of class_fault is_constant evaluated constant_width values_of judged type_fault
shifted_values_read = refl

each_minus_read : type_faults each_minus ≡ fault_at 6 0 2 7 ∷ fault_at 6 0 3 7 ∷ fault_at 6 0 4 15 ∷ fault_at 6 0 5 7 ∷ fault_at 6 0 6 14 ∷ fault_at 6 0 7 10 ∷ fault_at 6 0 8 7 ∷ fault_at 6 0 9 14 ∷ fault_at 6 0 10 12 ∷ fault_at 6 0 11 11 ∷ fault_at 6 0 12 12 ∷ fault_at 6 0 13 7 ∷ fault_at 6 0 14 7 ∷ fault_at 6 0 15 7 ∷ fault_at 6 0 17 7 ∷ []
unfolding table_of class_fault is_constant evaluated constant_width values_of judged type_fault
each_minus_read = refl

each_void_read : type_faults each_void ≡ fault_at 32 0 2 9 ∷ fault_at 32 0 3 5 ∷ fault_at 32 0 4 3 ∷ fault_at 32 0 5 7 ∷ fault_at 32 0 6 1 ∷ fault_at 32 0 7 5 ∷ fault_at 32 0 8 1 ∷ fault_at 32 0 9 1 ∷ fault_at 32 0 10 3 ∷ fault_at 32 0 11 6 ∷ fault_at 32 0 12 7 ∷ fault_at 32 0 14 9 ∷ fault_at 32 0 16 5 ∷ fault_at 32 0 17 5 ∷ fault_at 32 0 18 10 ∷ fault_at 32 0 18 22 ∷ fault_at 32 0 18 29 ∷ []
unfolding table_of class_fault is_constant evaluated constant_width values_of judged type_fault
each_void_read = refl

t34_void_read : refusal t34_void ≡ Some (type_rule_at 32 0 1 71)
unfolding table_of class_fault is_constant evaluated constant_width values_of judged type_fault
t34_void_read = refl

t28_void_read : refusal t28_void ≡ Some (type_rule_at 32 0 2 14)
unfolding table_of class_fault is_constant evaluated constant_width values_of judged type_fault
t28_void_read = refl

c5_second_read : refusal c5_second ≡ Some (class_rule_at 5 0 1 63)
unfolding table_of class_fault is_constant evaluated constant_width values_of judged type_fault
c5_second_read = refl

t6_condition_read : refusal t6_condition ≡ Some (type_rule_at 6 0 1 30)
unfolding table_of class_fault is_constant evaluated constant_width values_of judged type_fault
t6_condition_read = refl

each_typed_read : type_faults each_typed ≡ []
unfolding table_of class_fault is_constant evaluated constant_width values_of judged type_fault
each_typed_read = refl

each_missing_read : type_faults each_missing ≡ fault_at 22 0 2 1 ∷ fault_at 24 0 3 1 ∷ fault_at 24 0 4 1 ∷ fault_at 24 0 5 1 ∷ fault_at 22 0 6 1 ∷ fault_at 22 0 7 1 ∷ fault_at 3 0 8 1 ∷ fault_at 24 0 9 1 ∷ fault_at 24 0 10 1 ∷ fault_at 24 0 11 1 ∷ fault_at 24 0 12 1 ∷ fault_at 24 0 15 1 ∷ fault_at 24 0 16 1 ∷ fault_at 22 0 17 1 ∷ fault_at 22 0 18 1 ∷ fault_at 22 0 19 8 ∷ fault_at 22 0 19 19 ∷ []
unfolding table_of class_fault is_constant evaluated constant_width values_of judged type_fault
each_missing_read = refl

t1_diamond_read : refusal t1_diamond ≡ Some (type_rule_at 1 0 1 26)
unfolding table_of class_fault is_constant evaluated constant_width values_of judged type_fault
t1_diamond_read = refl

t35_long_read : refusal t35_long ≡ Some (type_rule_at 35 0 1 15)
unfolding table_of class_fault is_constant evaluated constant_width values_of judged type_fault
t35_long_read = refl

t35_long_fine_read : refusal t35_long_fine ≡ None
unfolding table_of class_fault is_constant evaluated constant_width values_of judged type_fault
t35_long_fine_read = refl

t17_long_fine_read : refusal t17_long_fine ≡ None
unfolding table_of class_fault is_constant evaluated constant_width values_of judged type_fault
t17_long_fine_read = refl

each_long_read : type_faults each_long ≡ fault_at 16 0 2 1 ∷ fault_at 16 0 3 1 ∷ fault_at 16 0 4 1 ∷ fault_at 16 0 5 1 ∷ fault_at 16 0 6 1 ∷ fault_at 23 0 7 5 ∷ fault_at 27 0 8 5 ∷ fault_at 24 0 9 5 ∷ fault_at 29 0 10 5 ∷ fault_at 6 0 11 5 ∷ fault_at 6 0 12 5 ∷ fault_at 11 0 13 5 ∷ []
unfolding table_of class_fault is_constant evaluated constant_width values_of judged type_fault
each_long_read = refl

pub worked : Worked
worked = record {
  c1_two_read = c1_two_read;
  c1_nested_read = c1_nested_read;
  c1_collection_read = c1_collection_read;
  c1_fine_read = c1_fine_read;
  c2_unknown_read = c2_unknown_read;
  c2_qualified_read = c2_qualified_read;
  c2_fine_read = c2_fine_read;
  c3_self_read = c3_self_read;
  c3_round_read = c3_round_read;
  c3_fine_read = c3_fine_read;
  c4_two_read = c4_two_read;
  c4_inherited_read = c4_inherited_read;
  c4_constant_read = c4_constant_read;
  c4_constructors_read = c4_constructors_read;
  c4_fine_read = c4_fine_read;
  c5_two_read = c5_two_read;
  c5_inherited_read = c5_inherited_read;
  c5_number_read = c5_number_read;
  c5_fine_read = c5_fine_read;
  c6_object_read = c6_object_read;
  c6_fine_read = c6_fine_read;
  c7_static_read = c7_static_read;
  c7_result_read = c7_result_read;
  c7_above_read = c7_above_read;
  c7_fine_read = c7_fine_read;
  c8_fields_read = c8_fields_read;
  c8_fine_read = c8_fine_read;
  c_order_read = c_order_read;
  t1_unknown_read = t1_unknown_read;
  t1_argument_read = t1_argument_read;
  t1_raw_read = t1_raw_read;
  t1_class_read = t1_class_read;
  t1_deep_read = t1_deep_read;
  t1_new_read = t1_new_read;
  t1_new_raw_read = t1_new_raw_read;
  t1_qualified_read = t1_qualified_read;
  t1_fine_read = t1_fine_read;
  t1_untyped_read = t1_untyped_read;
  t3_name_read = t3_name_read;
  t3_class_read = t3_class_read;
  t3_ended_read = t3_ended_read;
  t3_own_read = t3_own_read;
  t3_outer_read = t3_outer_read;
  t3_fine_read = t3_fine_read;
  t4_two_read = t4_two_read;
  t4_inner_read = t4_inner_read;
  t4_parameters_read = t4_parameters_read;
  t4_for_read = t4_for_read;
  t4_fine_read = t4_fine_read;
  t5_this_read = t5_this_read;
  t5_field_read = t5_field_read;
  t5_method_read = t5_method_read;
  t5_super_read = t5_super_read;
  t5_constant_read = t5_constant_read;
  t5_fine_read = t5_fine_read;
  t6_alone_read = t6_alone_read;
  t6_plus_read = t6_plus_read;
  t6_fine_read = t6_fine_read;
  t7_read = t7_read;
  t8_read = t8_read;
  t9_read = t9_read;
  t10_read = t10_read;
  t10_unrelated_read = t10_unrelated_read;
  t10_fine_read = t10_fine_read;
  t11_read = t11_read;
  t11_fine_read = t11_fine_read;
  t12_read = t12_read;
  t13_read = t13_read;
  t14_read = t14_read;
  t15_read = t15_read;
  t15_arms_read = t15_arms_read;
  t15_fine_read = t15_fine_read;
  t16_read = t16_read;
  t16_below_read = t16_below_read;
  t17_read = t17_read;
  t17_fine_read = t17_fine_read;
  t18_read = t18_read;
  t19_constant_read = t19_constant_read;
  t19_length_read = t19_length_read;
  t19_call_read = t19_call_read;
  t19_fine_read = t19_fine_read;
  t20_read = t20_read;
  t20_unrelated_read = t20_unrelated_read;
  t20_collection_read = t20_collection_read;
  t20_fine_read = t20_fine_read;
  t21_read = t21_read;
  t21_unrelated_read = t21_unrelated_read;
  t21_fine_read = t21_fine_read;
  t22_read = t22_read;
  t22_constant_read = t22_constant_read;
  t22_static_read = t22_static_read;
  t22_outer_read = t22_outer_read;
  t22_int_read = t22_int_read;
  t22_fine_read = t22_fine_read;
  t23_read = t23_read;
  t23_no_array_read = t23_no_array_read;
  t24_unknown_read = t24_unknown_read;
  t24_number_read = t24_number_read;
  t24_type_read = t24_type_read;
  t24_static_read = t24_static_read;
  t24_int_read = t24_int_read;
  t24_fine_read = t24_fine_read;
  t25_add_read = t25_add_read;
  t25_first_read = t25_first_read;
  t25_contains_read = t25_contains_read;
  t25_clear_read = t25_clear_read;
  t25_diamond_read = t25_diamond_read;
  t25_fine_read = t25_fine_read;
  t26_number_read = t26_number_read;
  t26_type_read = t26_type_read;
  t26_collection_read = t26_collection_read;
  t26_diamond_read = t26_diamond_read;
  t26_fine_read = t26_fine_read;
  t27_read = t27_read;
  t28_while_read = t28_while_read;
  t28_if_read = t28_if_read;
  t28_do_read = t28_do_read;
  t28_for_read = t28_for_read;
  t28_contract_read = t28_contract_read;
  t28_fine_read = t28_fine_read;
  t29_read = t29_read;
  t29_fine_read = t29_fine_read;
  t30_void_read = t30_void_read;
  t30_none_read = t30_none_read;
  t30_type_read = t30_type_read;
  t30_constructor_read = t30_constructor_read;
  t30_fine_read = t30_fine_read;
  t31_read = t31_read;
  t31_continue_read = t31_continue_read;
  t32_read = t32_read;
  t32_argument_read = t32_argument_read;
  t32_initial_read = t32_initial_read;
  t32_fine_read = t32_fine_read;
  t33_read = t33_read;
  t33_static_read = t33_static_read;
  t33_fine_read = t33_fine_read;
  t34_class_read = t34_class_read;
  t34_absent_read = t34_absent_read;
  t34_type_read = t34_type_read;
  t34_none_read = t34_none_read;
  t34_fine_read = t34_fine_read;
  t35_read = t35_read;
  t35_constant_read = t35_constant_read;
  t35_fine_read = t35_fine_read;
  t36_absent_read = t36_absent_read;
  t36_later_read = t36_later_read;
  t36_call_read = t36_call_read;
  t36_divisor_read = t36_divisor_read;
  t36_zero_read = t36_zero_read;
  t36_instance_read = t36_instance_read;
  t36_fine_read = t36_fine_read;
  t37_static_read = t37_static_read;
  t37_type_read = t37_type_read;
  t38_requires_read = t38_requires_read;
  t38_void_read = t38_void_read;
  t38_old_read = t38_old_read;
  t38_old_requires_read = t38_old_requires_read;
  t38_fine_read = t38_fine_read;
  t39_write_read = t39_write_read;
  t39_step_read = t39_step_read;
  t39_new_read = t39_new_read;
  t39_array_read = t39_array_read;
  t40_read = t40_read;
  t40_parameter_read = t40_parameter_read;
  t_place_read = t_place_read;
  t_rule_read = t_rule_read;
  t_files_read = t_files_read;
  demo_read = demo_read;
  c5_argument_read = c5_argument_read;
  c5_head_read = c5_head_read;
  c5_spelled_read = c5_spelled_read;
  c7_fine_unknown_read = c7_fine_unknown_read;
  t36_cast_read = t36_cast_read;
  each_operator_read = each_operator_read;
  each_result_read = each_result_read;
  each_compound_read = each_compound_read;
  each_step_read = each_step_read;
  each_type_read = each_type_read;
  each_cast_read = each_cast_read;
  each_call_read = each_call_read;
  each_loop_read = each_loop_read;
  each_contract_read = each_contract_read;
  each_constant_read = each_constant_read;
  each_return_read = each_return_read;
  each_static_read = each_static_read;
  each_nested_read = each_nested_read;
  each_local_read = each_local_read;
  family_read = family_read;
  operator_values_read = operator_values_read;
  boolean_values_read = boolean_values_read;
  ordered_values_read = ordered_values_read;
  c3_fine_deep_read = c3_fine_deep_read;
  c1_case_read = c1_case_read;
  each_role_read = each_role_read;
  shifted_values_read = shifted_values_read;
  each_minus_read = each_minus_read;
  each_void_read = each_void_read;
  t34_void_read = t34_void_read;
  t28_void_read = t28_void_read;
  c5_second_read = c5_second_read;
  t6_condition_read = t6_condition_read;
  each_typed_read = each_typed_read;
  each_missing_read = each_missing_read;
  t1_diamond_read = t1_diamond_read;
  t35_long_read = t35_long_read;
  t35_long_fine_read = t35_long_fine_read;
  t17_long_fine_read = t17_long_fine_read;
  each_long_read = each_long_read;
}
