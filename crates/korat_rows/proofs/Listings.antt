-- The entries of the small problems, as the checker computes them.
use Rattle.std.proofs.Common.{refl}
use Rattle.kr_classes_table.specs.Table.{table_of}
use Rattle.kr_classes_table.specs.Constants.{values_of, is_constant, evaluated, constant_width}
use Rattle.kr_types_meaning.specs.Typing.{judged}
use Rattle.kr_mean.specs.Steps.{bind}
use Rattle.kr_mean.specs.Thrown.{attempted}
use Rattle.kr_mean.specs.Meaning.{eval, exec, value, body_of}
use Rattle.kr_base.specs.Bounds.{less}
use Rattle.kr_mean.specs.Space.{space_of}
use Rattle.kr_mean.specs.Heaps.{heap_of, walk}
use Rattle.kr_mean.specs.Runs.{end_on, read_slots, order_of}
use Rattle.kr_mean.specs.Verdicts.{verdict_of}
use Rattle.kr_mean.specs.Entries.{mark_of, all_of, all_entries}
use Rattle.korat_rows.specs.Listings.{Listings}

pub listings : Listings
unfolding less space_of heap_of walk table_of values_of is_constant evaluated constant_width judged bind attempted eval exec value body_of verdict_of end_on read_slots order_of mark_of all_of all_entries
listings = record {
  next_of_next_listed = refl;
  next_or_caught_listed = refl;
  short_circuit_listed = refl;
  sorted_array_listed = refl;
  loops_listed = refl;
  plus_listed = refl;
  inherited_condition_listed = refl;
  overridden_condition_listed = refl;
  tree_listed = refl;
}
