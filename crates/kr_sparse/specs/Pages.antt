-- Between crates: a list in pages, of which those without another item than the usual one take no room.
use Rattle.std.specs.Prelude.{ℕ, ◌<◌, ◌^◌, ◌≡◌, Bool, true, List, ◌++◌, Option, Some, None, All, length, replicate}
use Rattle.std.specs.List.{flat_map}
use Rattle.std.proofs.Common.{Vec, Global}

-- a list whose items are mostly the usual one
pub record Mostly (T : Type 0) : Type 0 where
  pub usual : T
  pub items : List T

-- how many items a page has
unfoldable pub page_len : ℕ
page_len = 256

-- the items of a full page
abbrev pub page_items : {T : Type 0} → T → Option (Vec T Global) → List T
page_items usual None = replicate page_len usual
page_items usual (Some page) = page.items

abbrev pub all_items : {T : Type 0} → T → List (Option (Vec T Global)) → List T → List T
all_items usual pages rest = flat_map (page_items usual) pages ++ rest

abbrev pub IsFull : {T : Type 0} → Option (Vec T Global) → Type 0
IsFull None = Unit {0}
IsFull (Some page) = length page.items ≡ page_len

pub record IsSparse {T : Type 0} (usual : T) (count : ℕ) (pages : List (Option (Vec T Global))) (rest : List T) (is_usual : Bool) : Type 0 where
  pub long : count ≡ length (all_items usual pages rest)
  pub few : length (all_items usual pages rest) < 2 ^ 32
  pub full : All (λ page. IsFull page) pages
  pub same : is_usual ≡ true → All (λ x. x ≡ usual) rest
