-- Between crates: what the contracts of this crate take from the crates below.
pub use Rattle.kr_space_layout.specs.Bounds.{bare}
pub use Rattle.kr_space_problem.specs.Posed.{posed}
pub use Rattle.kr_mean.specs.Code.{Node}
pub use Rattle.kr_mean.specs.Heaps.{heap_of, value_at}
pub use Rattle.kr_mean.specs.Problem.{slots}
pub use Rattle.kr_mean.specs.Runs.{parameter_values, tested_method}
pub use Rattle.kr_mean.specs.Space.{IsVector, space_of}
pub use Rattle.kr_mean.specs.Steps.{plain_local}
pub use Rattle.kr_mean.specs.Verdicts.{naming, test_start, then_judged, verdict_of, verdict_with, where_holds}
pub use Rattle.kr_mean.specs.WellFormed.{IsWellFormed}
pub use Rattle.kr_mean.specs.declared.kind.Verdict.TheVariants.{CheckTrap, RepOk}
pub use Rattle.kr_code.specs.Doing.{Doing, IsMeaning}
pub use Rattle.kr_code.specs.Resolved.{Numbering}
pub use Rattle.kr_code.specs.Steps.{taken}
pub use Rattle.kr_code.specs.Tables.{is_caught_by}
pub use Rattle.kr_run_state.specs.Shown.{local_of, old_of}
pub use Rattle.kr_run_state.specs.Worlds.{state_of}
