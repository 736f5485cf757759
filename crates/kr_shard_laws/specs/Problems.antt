-- To be believed: the theorem on shards, of every problem that is accepted for a listing.
use Rattle.std.specs.Prelude.{ℕ, ◌≤◌, List, length, map}
use Rattle.std.specs.List.{AllByRecursion}
use Rattle.kr_base.specs.declared.span.Bound.{Bound}
use Rattle.kr_base.specs.declared.span.Bound.TheVariants.{At}
use Rattle.kr_base.specs.declared.span.Span.{Span}
use Rattle.kr_mean.specs.Entries.{all_entries}
use Rattle.kr_mean.specs.Problem.{Problem}
use Rattle.kr_mean.specs.declared.mode.Mode.TheVariants.{List as Listing}
use Rattle.kr_laws_never_stuck.specs.Accepted.{IsAccepted}
use Rattle.kr_shard_laws.specs.Listings.{IsListing, listing_in, shard_text}
use Rattle.kr_shard.specs.Files.{MOST_BYTES}
use Rattle.kr_shard_laws.specs.Spans.{Adjoin, IsInAnyOrder}
use Rattle.kr_shard_laws.specs.Theorem.{ComesTo}

-- The entries of a problem that sources and the bytes of a finitization give are those of a listing.
abbrev pub ListingLaw : Type 0
ListingLaw = (sources : List (List ℕ)) (bytes : List ℕ) (problem : Problem) → IsAccepted sources bytes Listing problem → IsListing problem (all_entries problem)

-- From 1 to 64 texts of at most 16 MiB that `shard` writes of spans of such a problem that adjoin, in any order, give what `list`
-- writes of the whole.
abbrev pub AcceptedShardsLaw : Type 0
AcceptedShardsLaw = (sources : List (List ℕ)) (bytes : List ℕ) (problem : Problem) (spans given : List Span) (after : List ℕ) (upto : Bound) →
    IsAccepted sources bytes Listing problem → 1 ≤ length spans → length spans ≤ 64 → Adjoin (At after) spans upto → IsInAnyOrder spans given →
    AllByRecursion (λ span. length (shard_text problem (all_entries problem) span) ≤ MOST_BYTES) given →
    ComesTo (map (shard_text problem (all_entries problem)) given) (listing_in problem (all_entries problem) after upto)
