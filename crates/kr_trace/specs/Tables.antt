-- Between crates: keys in one buffer, and a bound among keys that ascend.
use Rattle.std.specs.Prelude.{◌≡◌, ℕ, zero, suc, ◌+◌, ◌<◌, ◌≤◌, List, [], ◌∷◌, ◌++◌, Bool, true, false, length, slice_index_or, slice_range, if◌then◌else◌}
use Rattle.kr_base.specs.declared.span.Bound.{Bound}
use Rattle.kr_base.specs.declared.span.Bound.TheVariants.{At}
use Rattle.kr_base.specs.Bounds.{less}
use Rattle.kr_trace.specs.Checked.{Rows}

-- the keys, the first of which begins at an index, and each of which ends at its own
abbrev pub pieces : List ℕ → ℕ → List ℕ → List (List ℕ)
pieces numbers from [] = []
pieces numbers from (end ∷ ends) = slice_range numbers from end ∷ pieces numbers end ends

-- the ends don't fall, and the last one is the length
abbrev pub Tiles : ℕ → List ℕ → ℕ → Type 0
Tiles from [] len = from ≡ len
Tiles from (end ∷ ends) len = (from ≤ end) × Tiles end ends len

-- where the i-th key begins
abbrev pub begin : ℕ → List ℕ → ℕ → ℕ
begin from ends zero = from
begin from ends (suc i) = slice_index_or ends i 0

pub record IsTable (numbers ends : List ℕ) (failing : ℕ) : Type 0 where
  pub tiles : Tiles 0 ends (length numbers)
  pub few : failing ≤ length ends

-- one more row
abbrev pub adds : Rows → List ℕ → Bool → Rows
adds rows key passes = record { keys = rows.keys ++ key ∷ []; failing = if passes then rows.failing else rows.failing + 1 }

-- each key is below the later ones
abbrev pub Ascend : List (List ℕ) → Type 0
Ascend keys = (i j : ℕ) → i < j → j < length keys → less (At (slice_index_or keys i [])) (At (slice_index_or keys j [])) ≡ true

-- so many keys are not above a bound, and the others are
pub record SplitsAt (bound : Bound) (keys : List (List ℕ)) (count : ℕ) : Type 0 where
  pub within : count ≤ length keys
  pub low : (i : ℕ) → i < count → less bound (At (slice_index_or keys i [])) ≡ false
  pub high : (i : ℕ) → count ≤ i → i < length keys → less bound (At (slice_index_or keys i [])) ≡ true
