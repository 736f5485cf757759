-- To be believed: how far a listing has to search.
use Rattle.std.specs.Prelude.{ℕ, zero, suc, ◌+◌, List, [], ◌∷◌, if◌then◌else◌}
use Rattle.kr_base.specs.declared.entry.Entry.{Entry}
use Rattle.kr_base.specs.Entries.{is_valid}

-- how many entries there are up to and with the n-th valid one; all where there are fewer valid ones
abbrev pub entries_to : {R : Type 0} → ℕ → List (Entry R) → ℕ
entries_to n [] = 0
entries_to zero (e ∷ es) = 0
entries_to (suc n) (e ∷ es) = 1 + (if is_valid e.mark then entries_to n es else entries_to (suc n) es)
