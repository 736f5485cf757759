-- Between crates: keys that ascend, as a test of neighbours.
use Rattle.std.specs.Prelude.{ℕ, List, [], ◌∷◌, Bool, true, ◌&&◌}
use Rattle.kr_base.specs.declared.entry.Entry.{Entry}
use Rattle.kr_base.specs.Cuts.{is_before}

-- each key is before the next one, from a key on
abbrev pub ascends_from : {R : Type 0} → List ℕ → List (Entry R) → Bool
ascends_from k [] = true
ascends_from k (e ∷ es) = is_before k e.key && ascends_from e.key es
