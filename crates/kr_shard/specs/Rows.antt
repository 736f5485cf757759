-- To be believed: the rows of a shard that was given.
use Rattle.kr_shard.specs.ReadRows.{RowLines}
use Rattle.kr_shard.specs.declared.order.Given.{Given}

abbrev pub rows_of : Given → RowLines
rows_of given = given.shard.rows
