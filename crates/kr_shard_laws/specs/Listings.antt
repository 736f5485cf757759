-- To be believed: what `shard` writes of a span of a listing.
use Rattle.std.specs.Prelude.{◌≡◌, ℕ, ◌^◌, ◌<◌, ◌≤◌, List, ◌++◌, All, length, None, true}
use Rattle.kr_base.specs.declared.entry.Entry.{Entry}
use Rattle.kr_base.specs.declared.entry.Mark.{Mark}
use Rattle.kr_base.specs.declared.entry.Mark.TheVariants.{Valid, Invalid, Spent}
use Rattle.kr_base.specs.declared.span.Bound.{Bound}
use Rattle.kr_base.specs.declared.span.Bound.TheVariants.{At, End}
use Rattle.kr_base.specs.declared.span.Span.{Span}
use Rattle.kr_base.specs.Bounds.{less}
use Rattle.kr_base.specs.Entries.{Ascends, IsAmong, entries_in}
use Rattle.kr_mean.specs.Problem.{Problem}
use Rattle.kr_mean.specs.declared.mode.Mode.TheVariants.{List as Listing}
use Rattle.kr_mean.specs.declared.row.Row.{Row}
use Rattle.kr_report.specs.Reports.{Answer, bytes_of, listing_answer}
use Rattle.kr_report.specs.Texts.{structure_text}
use Rattle.kr_text.specs.Splitting.{IsWithout}
use Rattle.kr_shard.specs.Texts.{first_text}

-- ---- spans

-- the numbers of a cut whose text is read
pub record IsCut (numbers : List ℕ) : Type 0 where
  pub few : length numbers ≤ 4096
  pub small : All (λ n. n < 2 ^ 32) numbers

abbrev pub IsBound : Bound → Type 0
IsBound End = Unit {0}
IsBound (At cut) = IsCut cut

-- FROM is below TO
pub record IsSpan (span : Span) : Type 0 where
  pub after : IsCut span.after
  pub upto : IsBound span.upto
  pub below : less (At span.after) span.upto ≡ true

-- ---- texts

-- the most rows of a listing without a limit
abbrev pub MOST_ROWS : ℕ
MOST_ROWS = 4294967295

-- the listing of a span
abbrev pub listing_in : Problem → List (Entry Row) → List ℕ → Bound → Answer
listing_in problem es after upto = listing_answer problem MOST_ROWS (entries_in (At after) upto es)

-- what `shard` writes of it
abbrev pub shard_text : Problem → List (Entry Row) → Span → List ℕ
shard_text problem es span = first_text span ++ bytes_of (listing_in problem es span.after span.upto)

-- ---- entries whose lines are read

-- a row of a listing: of this key, without a verdict; its structure has a text, in one line
abbrev pub IsRowAt : Problem → List ℕ → Mark Row → Type 0
IsRowAt problem key (Valid row) = (row.key ≡ key) × (row.verdict ≡ None) × (0 < length (structure_text problem row.structure)) × IsWithout 10 (structure_text problem row.structure)
IsRowAt problem key Invalid = Unit {0}
IsRowAt problem key Spent = Unit {0}

-- An entry whose key is a cut's, with at least one number, and whose row is one of a listing.
pub record IsListable (problem : Problem) (e : Entry Row) : Type 0 where
  pub some : 0 < length e.key
  pub cut : IsCut e.key
  pub row : IsRowAt problem e.key e.mark

pub record IsListing (problem : Problem) (es : List (Entry Row)) : Type 0 where
  pub mode : problem.mode ≡ Listing
  pub ascends : Ascends es
  pub listable : (e : Entry Row) → IsAmong e es → IsListable problem e
