-- To be believed: what is reported of shards that are put together.
use Rattle.std.specs.Prelude.{ℕ, List, map, Option, Some, None}
use Rattle.std.specs.List.{sum_by}
use Rattle.kr_report.specs.Reports.{Answer}
use Rattle.kr_report.specs.Texts.{listed_text, spent_text}
use Rattle.kr_shard.specs.Merging.{spent_in, through_spent, tried_in}
use Rattle.kr_shard.specs.declared.order.Given.{Given}

abbrev pub bytes_in : Given → List ℕ
bytes_in given = given.shard.rows.bytes

abbrev pub count_in : Given → ℕ
count_in given = given.shard.rows.count

-- of these shards, with a spent key where one has it
abbrev pub joined_by : List Given → Option (List ℕ) → Answer
joined_by shards None = record { status = 0; rows = map bytes_in shards; last = listed_text (sum_by count_in shards) (sum_by tried_in shards) }
joined_by shards (Some key) = record { status = 5; rows = map bytes_in shards; last = spent_text key }

-- the rows of shards in order up to and with the first spent one's; then the sums of their counts, or that spent key
unfoldable pub joined_answer : List Given → Answer
joined_answer ordered = joined_by (through_spent ordered) (spent_in ordered)
