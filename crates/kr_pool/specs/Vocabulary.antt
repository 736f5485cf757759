-- Between crates: what the contracts of this crate take from the crates below.
pub use Rattle.kr_base.specs.declared.entry.Entry.{Entry as EntryOf}
pub use Rattle.kr_survey.specs.Joins.{joined, lists}
pub use Rattle.kr_survey.specs.Listings.{listed_in, Lists}
pub use Rattle.kr_survey.specs.Scans.{rows_of}
pub use Rattle.kr_survey.specs.Takings.{is_past, Took}
pub use Rattle.kr_survey.specs.declared.taker.Halt.TheVariants.{Sink}
pub use Rattle.kr_survey.specs.declared.taker.Room.TheVariants.{Full, More}
pub use Rattle.kr_core.specs.Cutting.{cuts_for as cuts_of}
pub use Rattle.kr_core.specs.Openings.{AreInside, opening}
pub use Rattle.kr_core.specs.Rows.{drained, drains}
pub use Rattle.kr_board.specs.Boards.{IsBoardOf}
pub use Rattle.kr_board.specs.Closing.{all_closed}
pub use Rattle.kr_board.specs.Parts.{IsPart}
pub use Rattle.kr_pool_desk.specs.Draining.{rows_kept}
pub use Rattle.kr_pool_desk.specs.Leasing.{IsLeaseOf, Takes}
pub use Rattle.kr_pool_desk.specs.Limits.{begins_within, IsWanted, KeepsWindow}
pub use Rattle.kr_pool_desk.specs.Listings.{ListsFrom}
pub use Rattle.kr_pool_desk.specs.Runs.{are_shared, IsRun}
pub use Rattle.kr_pool_desk.specs.Seats.{numbers_below, numbers_of}
pub use Rattle.kr_pool_desk.specs.Short.{IsShortBound, IsShortRun}
pub use Rattle.kr_pool_desk.specs.Stops.{IsStopped}
pub use Rattle.kr_pool_desk.specs.Traces.{Finishes}
