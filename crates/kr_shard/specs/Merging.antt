-- To be believed: what shards give that are put together.
use Rattle.kr_base.specs.Causes.{capped}
use Rattle.std.specs.Prelude.{◌≡◌, ℕ, ◌+◌, ◌-◌, ◌^◌, List, [], ◌∷◌, Bool, map, min, Option, Some, None, Result, Ok, Err, is_some, if◌then◌else◌}
use Rattle.std.specs.List.{sum_by}
use Rattle.kr_base.specs.declared.span.Bound.{Bound}
use Rattle.kr_base.specs.declared.span.Bound.TheVariants.{At, End}
use Rattle.kr_base.specs.Bounds.{less}
use Rattle.kr_base.specs.Cuts.{is_before}
use Rattle.kr_shard.specs.declared.shard.Shard.{Shard}
use Rattle.kr_shard.specs.Rows.{rows_of}
use Rattle.kr_shard.specs.declared.order.Given.{Given}
use Rattle.kr_shard.specs.declared.merging.Merged.{Merged}
use Rattle.kr_shard.specs.declared.merging.MergeRefusal.{MergeRefusal}
use Rattle.kr_shard.specs.declared.merging.MergeRefusal.TheVariants.{Overlap, Gap, NoMemory}

-- ---- in order of FROM

abbrev pub from_of : Given → List ℕ
from_of given = given.shard.span.after

-- in front of the first whose FROM isn't below its own
abbrev pub placed : Given → List Given → List Given
placed given [] = given ∷ []
placed given (next ∷ later) = if is_before (from_of next) (from_of given) then next ∷ placed given later else given ∷ next ∷ later

-- in ascending order of FROM; those with one FROM stay in the order in which they were given
abbrev pub in_order : List Given → List Given
in_order [] = []
in_order (given ∷ later) = placed given (in_order later)

-- each with its number, from a number on
abbrev pub numbered : ℕ → List Shard → List Given
numbered n [] = []
numbered n (shard ∷ shards) = record { index = n; shard = shard } ∷ numbered (n + 1) shards

-- ---- pairs that don't adjoin

-- the keys above a TO and not above the next FROM
abbrev pub gap_between : Bound → List ℕ → Option MergeRefusal
gap_between End from = None
gap_between (At to) from = if is_before to from then Some (Gap to from) else None

-- the next one begins before the first ends, or after it
abbrev pub fault_between : Given → Given → Option MergeRefusal
fault_between given next = if less (At (from_of next)) given.shard.span.upto then Some (Overlap next.index) else gap_between given.shard.span.upto (from_of next)

abbrev pub or_else : {A : Type 0} → Option A → Option A → Option A
or_else (Some a) other = Some a
or_else None other = other

abbrev pub fault_after : Given → List Given → Option MergeRefusal
fault_after given [] = None
fault_after given (next ∷ later) = or_else (fault_between given next) (fault_after next later)

-- of the first pair that doesn't adjoin
abbrev pub first_fault : List Given → Option MergeRefusal
first_fault [] = None
first_fault (given ∷ later) = fault_after given later

-- ---- put together

-- those up to and with the first that ends with a spent entry
abbrev pub through_spent : List Given → List Given
through_spent [] = []
through_spent (given ∷ later) = given ∷ (if is_some given.shard.spent then [] else through_spent later)

-- a spent one counts nothing
abbrev pub tried_in : Given → ℕ
tried_in given = if is_some given.shard.spent then 0 else given.shard.tried

abbrev pub spent_in : List Given → Option (List ℕ)
spent_in [] = None
spent_in (given ∷ later) = or_else given.shard.spent (spent_in later)

-- The rows up to and with the first spent one's, the sum of what they tried, and the spent key.
pub record IsMerged (ordered : List Given) (merged : Merged) : Type 0 where
  pub rows : merged.rows ≡ map rows_of (through_spent ordered)
  pub tried : merged.tried ≡ capped (sum_by tried_in (through_spent ordered))
  pub spent : merged.spent ≡ spent_in ordered

-- ---- the answer

-- the result of shards in order: the fault of the first pair that doesn't adjoin; else all together; or out of memory, which is
-- free
abbrev pub Joins : List Given → Result Merged MergeRefusal → Type 0
Joins ordered (Ok merged) = (first_fault ordered ≡ None) × IsMerged ordered merged
Joins ordered (Err (Overlap index)) = first_fault ordered ≡ Some (Overlap index)
Joins ordered (Err (Gap to from)) = first_fault ordered ≡ Some (Gap to from)
Joins ordered (Err (NoMemory _)) = Unit {0}

-- the result of shards in any order
abbrev pub Merges : List Shard → Result Merged MergeRefusal → Type 0
Merges shards r = Joins (in_order (numbered 0 shards)) r
