-- Between crates: tables with their rows: the entry in each column, also past the end of a row or of the table.
use Rattle.std.specs.Prelude.{ℕ, List}
use Rattle.std.proofs.Common.{get_or}
use Rattle.std.specs.declared.vec.Vec.{Vec}
use Rattle.std.specs.declared.alloc.Global.{Global}
use Rattle.kr_code.specs.Tables.{cell}

-- this holds of what each column of the row has
abbrev pub IsRow : {A : Type 0} → A → (ℕ → A → Type 0) → List A → Type 0
IsRow none P row = (c : ℕ) → P c (get_or row c none)

-- likewise in each row
abbrev pub AreRows : {A : Type 0} → A → (ℕ → ℕ → A → Type 0) → List (Vec A Global) → Type 0
AreRows none P rows = (k c : ℕ) → P k c (cell none rows k c)
