-- To be believed: what `shard` writes is read back.
use Rattle.std.specs.Prelude.{◌≡◌, ℕ, ◌-◌, ◌^◌, ◌≤◌, List, length, map, min, Option, Some, None, Ok}
use Rattle.kr_base.specs.Causes.{capped}
use Rattle.kr_base.specs.declared.entry.Entry.{Entry}
use Rattle.kr_base.specs.declared.span.Bound.TheVariants.{At}
use Rattle.kr_base.specs.declared.span.Span.{Span}
use Rattle.kr_base.specs.Entries.{entries_in}
use Rattle.kr_mean.specs.Problem.{Problem}
use Rattle.kr_mean.specs.declared.row.Row.{Row}
use Rattle.kr_report.specs.Reports.{lines, rows_in, spent_key}
use Rattle.kr_report.specs.Texts.{row_text}
use Rattle.kr_shard.specs.Shards.{shard_of}
use Rattle.kr_shard.specs.declared.shard.Shard.{Shard}
use Rattle.kr_shard_laws.specs.Listings.{IsListing, IsSpan, shard_text}
use Rattle.kr_shard.specs.Files.{MOST_BYTES}

-- what was tried, where no entry is spent
abbrev pub tried_by : Option (List ℕ) → ℕ → ℕ
tried_by None tried = capped tried
tried_by (Some key) tried = 0

-- The shard of these entries: the lines of their rows, how many these are, how many entries were tried, and the spent key.
pub record IsShardOf (problem : Problem) (span : Span) (es : List (Entry Row)) (shard : Shard) : Type 0 where
  pub span_is : shard.span ≡ span
  pub bytes : shard.rows.bytes ≡ lines (map (row_text problem) (rows_in es))
  pub count : shard.rows.count ≡ length (rows_in es)
  pub tried : shard.tried ≡ tried_by (spent_key es) (length es)
  pub spent : shard.spent ≡ spent_key es

-- a text of at most 16 MiB that `shard` writes of a span of a listing is read as the shard of its entries
abbrev pub BackLaw : Type 0
BackLaw = (problem : Problem) (es : List (Entry Row)) (span : Span) → IsListing problem es → IsSpan span → length (shard_text problem es span) ≤ MOST_BYTES
    → (shard : Shard) × (shard_of (shard_text problem es span) ≡ Ok shard) × IsShardOf problem span (entries_in (At span.after) span.upto es) shard
