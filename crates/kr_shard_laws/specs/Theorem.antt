-- To be believed: what `shard` writes of spans that adjoin is read back, and put together it is the one listing.
use Rattle.std.specs.Prelude.{◌≡◌, ℕ, ◌≤◌, List, length, map, None, Ok}
use Rattle.std.specs.List.{AllByRecursion}
use Rattle.kr_base.specs.declared.entry.Entry.{Entry}
use Rattle.kr_base.specs.declared.span.Bound.{Bound}
use Rattle.kr_base.specs.declared.span.Bound.TheVariants.{At}
use Rattle.kr_base.specs.declared.span.Span.{Span}
use Rattle.kr_mean.specs.Problem.{Problem}
use Rattle.kr_mean.specs.declared.row.Row.{Row}
use Rattle.kr_report.specs.Reports.{Answer, bytes_of}
use Rattle.kr_shard.specs.Shards.{shard_of}
use Rattle.kr_shard.specs.declared.shard.Shard.{Shard}
use Rattle.kr_shard.specs.Merging.{first_fault, in_order, numbered}
use Rattle.kr_shard.specs.Answers.{joined_answer}
use Rattle.kr_shard_laws.specs.Listings.{IsListing, listing_in, shard_text}
use Rattle.kr_shard.specs.Files.{MOST_BYTES}
use Rattle.kr_shard_laws.specs.Spans.{Adjoin, IsInAnyOrder}

-- Texts are read as shards, which adjoin, and give this answer.
pub record ComesTo (texts : List (List ℕ)) (answer : Answer) : Type 0 where
  pub shards : List Shard
  pub are : map shard_of texts ≡ map Ok shards
  pub adjoin : first_fault (in_order (numbered 0 shards)) ≡ None
  pub bytes : bytes_of (joined_answer (in_order (numbered 0 shards))) ≡ bytes_of answer
  pub status : (joined_answer (in_order (numbered 0 shards))).status ≡ answer.status

-- From 1 to 64 texts of at most 16 MiB that `shard` writes of spans that adjoin, in any order, give the listing of the whole.
abbrev pub ShardLaw : Type 0
ShardLaw = (problem : Problem) (es : List (Entry Row)) (spans given : List Span) (after : List ℕ) (upto : Bound) →
    IsListing problem es → 1 ≤ length spans → length spans ≤ 64 → Adjoin (At after) spans upto → IsInAnyOrder spans given →
    AllByRecursion (λ span. length (shard_text problem es span) ≤ MOST_BYTES) given →
    ComesTo (map (shard_text problem es) given) (listing_in problem es after upto)
