-- Between crates: what a scan of entries gives.
use Rattle.std.specs.Prelude.{◌≡◌, ℕ, ◌<◌, List, [], ◌∷◌, Bool, true, false, ◌||◌, ◌==◌, if◌then◌else◌, take, length}
use Rattle.std.specs.List.{flat_map, list_any}
use Rattle.kr_base.specs.declared.span.Bound.{Bound}
use Rattle.kr_base.specs.declared.span.Bound.TheVariants.{At}
use Rattle.kr_base.specs.declared.entry.Mark.{Mark}
use Rattle.kr_base.specs.declared.entry.Mark.TheVariants.{Valid, Invalid, Spent}
use Rattle.kr_base.specs.declared.entry.Entry.{Entry}
use Rattle.kr_base.specs.Bounds.{less}
use Rattle.kr_base.specs.Entries.{Ascends, is_spent, within, entries_in}
use Rattle.kr_survey.specs.declared.part.Part.{Part}

abbrev pub row_of : {R : Type 0} → Mark R → List R
row_of (Valid row) = row ∷ []
row_of Invalid = []
row_of Spent = []

-- the rows of the valid entries, in their order
abbrev pub rows_of : {R : Type 0} → List (Entry R) → List R
rows_of es = flat_map (λ e. row_of e.mark) es

abbrev pub any_spent : {R : Type 0} → List (Entry R) → Bool
any_spent es = list_any (λ e. is_spent e.mark) es

-- the key of the last entry, or the bound where there is none
abbrev pub last_key : {R : Type 0} → Bound → List (Entry R) → Bound
last_key b [] = b
last_key b (e ∷ es) = last_key (At e.key) es

-- the entries walked: those of the span up to and with the first spent one, and at most so many
abbrev pub walked : {R : Type 0} → List (Entry R) → List ℕ → Bound → ℕ → List (Entry R)
walked all after upto most = take most (entries_in (At after) upto all)

-- a walk that was stopped, by a spent entry or by the number of entries, came to the last one; else it came to the end
abbrev pub reached : {R : Type 0} → Bound → ℕ → List (Entry R) → Bound
reached upto most es = if any_spent es || (length es == most) then last_key upto es else upto

-- what a scan of all entries gives: how far it came, and rows, number and flag of the entries walked
pub record IsScan {R : Type 0} (all : List (Entry R)) (after : List ℕ) (upto : Bound) (most : ℕ) (part : Part R) : Type 0 where
  pub reach : part.reach ≡ reached upto most (walked all after upto most)
  pub rows : part.rows ≡ rows_of (walked all after upto most)
  pub tried : part.tried ≡ length (walked all after upto most)
  pub spent : part.spent ≡ any_spent (walked all after upto most)

-- The entries walked are all those up to where the scan came, which is above where it began and not above its end. So a
-- scan from there on goes on.
pub record GoesOn {R : Type 0} (all : List (Entry R)) (after : List ℕ) (upto : Bound) (most : ℕ) : Type 0 where
  pub entries : walked all after upto most ≡ within (At after) (reached upto most (walked all after upto most)) all
  pub above : less (At after) (reached upto most (walked all after upto most)) ≡ true
  pub below : less upto (reached upto most (walked all after upto most)) ≡ false

abbrev pub ScanLaw : Type 0 → Type 0
ScanLaw R = (all : List (Entry R)) (after : List ℕ) (upto : Bound) (most : ℕ) → Ascends all → less (At after) upto ≡ true → 0 < most →
    GoesOn all after upto most
