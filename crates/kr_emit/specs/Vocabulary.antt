-- Between crates: what the contracts of this crate take from the crates below.
pub use Rattle.kr_base.specs.Cuts.{cut_text}
pub use Rattle.kr_base.specs.Told.{Writes}
pub use Rattle.kr_base.specs.declared.entry.Entry.{Entry}
pub use Rattle.kr_text.specs.Lines.{line_bytes}
pub use Rattle.kr_text.specs.Texts.{joined}
pub use Rattle.kr_ast.specs.Arena.{Arena, root, tree_in}
pub use Rattle.kr_ast.specs.Files.{file_at}
pub use Rattle.kr_classes_table.specs.Rules.{break_if, least}
pub use Rattle.kr_classes_table.specs.Table.{headings_of, own_fields, type_named}
pub use Rattle.kr_classes_names.specs.Shown.{AreHeads, heading_shown, IsHeading}
pub use Rattle.kr_classes_names.specs.Types.{count, type_at}
pub use Rattle.kr_classes_members.specs.Kept.{AreMembers}
pub use Rattle.kr_classes_members.specs.Shown.{field_shown, headings_in, IsField, table_in}
pub use Rattle.kr_classes.specs.Faults.{fault_at}
pub use Rattle.kr_fin.specs.Least.{lesser}
pub use Rattle.kr_space_layout.specs.Bounds.{bare}
pub use Rattle.kr_space_problem.specs.Posed.{IsPosed, posed}
pub use Rattle.kr_value.specs.declared.object.Spot.TheVariants.{Element, Field as FieldSpot}
pub use Rattle.kr_mean.specs.Places.{place_of}
pub use Rattle.kr_mean.specs.Problem.{ClassDomain, domain_at, slot_at, upto}
pub use Rattle.kr_mean.specs.Runs.{contains_number, root_class}
pub use Rattle.kr_mean.specs.declared.mode.Mode.TheVariants.{List as Listing}
pub use Rattle.kr_survey.specs.Takings.{Hands, is_past, Took}
pub use Rattle.kr_survey.specs.declared.taker.Room.TheVariants.{Full, More}
pub use Rattle.kr_report.specs.Endings.{EndsListing}
pub use Rattle.kr_report.specs.Texts.{field_names}
pub use Rattle.kr_report_streaming.specs.Followed.{led_by}
pub use Rattle.kr_report_streaming.specs.Lines.{entries_answer}
pub use Rattle.kr_emit_meaning.specs.Buildable.{array_elements, build_fault, construction_faults, constructor_fault, constructors_of, E1, E2, elements_fault, field_fault, is_built, is_class_below, is_counted, is_literal, is_named, is_negated, is_number, MOST_CLASSES, name_fault, number_fault, rank_of}
pub use Rattle.kr_emit_meaning.specs.Builders.{assigned_text, assignment_text, body_text, class_of_object, class_text, created_text, creation_text, declared_text, element_text, front_text, heading_at, is_long, is_long_spot, length_at, length_text, letter_text, local_text, objects_in, rest_text, set_text, spot_text, value_text, width_text}
pub use Rattle.kr_emit_meaning.specs.Emitted.{built, class_line}
