-- Between crates: what the contracts of this crate take from the crates below.
pub use Rattle.kr_space_layout.specs.Bounds.{bare, problem_with}
pub use Rattle.kr_value.specs.declared.object.Class.TheVariants.{Array}
pub use Rattle.kr_value.specs.declared.object.Spot.TheVariants.{Field}
pub use Rattle.kr_mean.specs.Heaps.{heap_of, value_at, walk}
pub use Rattle.kr_mean.specs.Places.{At, Parameter, SlotPlace as Place, place_of, This}
pub use Rattle.kr_mean.specs.Problem.{domain_at, heap_number, slots}
pub use Rattle.kr_mean.specs.Program.{Program}
pub use Rattle.kr_mean.specs.Runs.{end_on, hold_all as hold_all_step, is_accepted, order_of, parameter_values, parameters_from, slots_for, start}
pub use Rattle.kr_mean.specs.Space.{IsVector, space_of}
pub use Rattle.kr_mean.specs.WellFormed.{IsWellFormed}
pub use Rattle.kr_code.specs.Resolved.{IsCodeOf, Numbering}
pub use Rattle.kr_run_state.specs.Shown.{local_of}
pub use Rattle.kr_run_state.specs.Worlds.{state_of}
pub use Rattle.kr_iso.specs.Objects.{object_of}
