-- Between crates: what the contracts of this crate take from the crates below.
pub use Rattle.kr_space_layout.specs.Bounds.{bare, problem_with}
pub use Rattle.kr_space_problem.specs.Posed.{posed}
pub use Rattle.kr_value.specs.declared.object.Spot.TheVariants.{Element, Length}
pub use Rattle.kr_mean.specs.Heaps.{heap_of}
pub use Rattle.kr_mean.specs.Places.{At, place_of, SlotPlace, This}
pub use Rattle.kr_mean.specs.Problem.{slots}
pub use Rattle.kr_mean.specs.Program.{Program}
pub use Rattle.kr_mean.specs.Runs.{contains_number, end_on, order_of, slots_for, start}
pub use Rattle.kr_mean.specs.Space.{IsVector, space_of}
pub use Rattle.kr_mean.specs.WellFormed.{IsWellFormed}
pub use Rattle.kr_code.specs.Resolved.{Numbering}
pub use Rattle.kr_run_state.specs.Noting.{is_read}
pub use Rattle.kr_build.specs.Renewed.{IsSameBut}
pub use Rattle.kr_judge.specs.Follows.{Follow}
pub use Rattle.kr_judge.specs.Judged.{hold_at, HoldsAs}
pub use Rattle.kr_judge.specs.Predicates.{IsPredicateOf}
pub use Rattle.kr_judge.specs.Runs.{end_said}
pub use Rattle.kr_step.specs.Scans.{ending_of, RunsOn}
