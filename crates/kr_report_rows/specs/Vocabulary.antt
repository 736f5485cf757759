-- Between crates: what the contracts of this crate take from the crates below.
pub use Rattle.kr_base.specs.Cuts.{cut_text, dotted}
pub use Rattle.kr_base.specs.Told.{Writes}
pub use Rattle.kr_classes_members.specs.Shown.{field_name, IsField, IsMethod}
pub use Rattle.kr_space_layout.specs.Bounds.{bare, problem_with}
pub use Rattle.kr_space_problem.specs.Posed.{posed}
pub use Rattle.kr_mean.specs.Heaps.{is_same_object}
pub use Rattle.kr_mean.specs.Places.{place_of}
pub use Rattle.kr_mean.specs.Problem.{all_objects, domain_at, slot_at}
pub use Rattle.kr_iso.specs.Objects.{object_of}
pub use Rattle.kr_report.specs.Joined.{are_any, closing, opening, separated}
pub use Rattle.kr_report.specs.Names.{names_of}
pub use Rattle.kr_report.specs.Texts.{in_parentheses, joined_by, no_domain_object, object_name, object_text, objects_in, objects_named, row_text, structure_text, tested_parameters, value_text, verdict_text}
