-- Shards together have an answer's status.
use Rattle.std.proofs.Common.{◌≡◌, ℕ, List, inl, arith}
use Rattle.std.specs.Prelude.{Option, Some, None}
use Rattle.kr_shard.specs.ReadRows.{RowLines}
use Rattle.kr_shard.specs.declared.merging.Merged.{Merged}
use Rattle.kr_shard.specs.Found.{merged_answer, merged_by}
use Rattle.korat_top.specs.Ends.{IsGiven}

low_by : (rows : List RowLines) (tried : ℕ) (key : Option (List ℕ)) → IsGiven (merged_by rows tried key).status
low_by rows tried None = inl (omega arith)
low_by rows tried (Some key) = inl (omega arith)

pub merged_low : (merged : Merged) → IsGiven (merged_answer merged).status
merged_low merged = low_by merged.rows merged.tried merged.spent

no_usage_by : (rows : List RowLines) (tried : ℕ) (key : Option (List ℕ)) → (merged_by rows tried key).status ≡ 2 → ⊥
no_usage_by rows tried None e = omega (arith, e)
no_usage_by rows tried (Some key) e = omega (arith, e)

pub merged_no_usage : (merged : Merged) → (merged_answer merged).status ≡ 2 → ⊥
merged_no_usage merged e = no_usage_by merged.rows merged.tried merged.spent e
