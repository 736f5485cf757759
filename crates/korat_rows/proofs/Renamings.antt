-- The renamed candidate, as the checker computes it.
use Rattle.std.proofs.Common.{refl}
use Rattle.kr_classes_table.specs.Table.{table_of}
use Rattle.kr_mean.specs.Space.{space_of}
use Rattle.korat_rows.specs.Renamings.{Renamings}

pub renamings : Renamings
unfolding space_of table_of
renamings = record { owners_renamed = refl; owners_renamed_back = refl }
