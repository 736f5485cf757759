-- Between crates: how far a list of entries goes.
use Rattle.std.specs.Prelude.{ℕ, zero, suc, List, [], ◌∷◌, if◌then◌else◌}
use Rattle.kr_base.specs.declared.entry.Entry.{Entry}
use Rattle.kr_base.specs.Cuts.{is_before}
use Rattle.kr_base.specs.Entries.{is_spent}

-- the entries at the front whose keys are before one
abbrev pub before_count : {R : Type 0} → List ℕ → List (Entry R) → ℕ
before_count k [] = zero
before_count k (e ∷ es) = if is_before e.key k then suc (before_count k es) else zero

-- those up to and with the first spent one
abbrev pub through_count : {R : Type 0} → List (Entry R) → ℕ
through_count [] = zero
through_count (e ∷ es) = if is_spent e.mark then suc zero else suc (through_count es)
