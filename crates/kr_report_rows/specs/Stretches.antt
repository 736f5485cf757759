-- Between crates: where the slots of an object are among all.
use Rattle.std.specs.Prelude.{◌≡◌, ℕ, ◌+◌, ◌^◌, ◌<◌, ◌≤◌, Bool, true, false}
use Rattle.kr_mean.specs.Heaps.{is_owner}
use Rattle.kr_mean.specs.Problem.{Problem, DomainObject, slot_at}
use Rattle.kr_report_rows.specs.declared.places.Stretch.{Stretch}

-- whether a slot is one of them
abbrev pub IsWithin : Stretch → ℕ → Bool → Type 0
IsWithin stretch s true = (stretch.first ≤ s) × (s < stretch.first + stretch.count)
IsWithin stretch s false = stretch.first ≤ s → s < stretch.first + stretch.count → ⊥

-- of the slots that numbers name they are the object's
abbrev pub IsStretch : Problem → DomainObject → Stretch → Type 0
IsStretch problem o stretch = (s : ℕ) (within : Bool) → s < 2 ^ 32 → IsWithin stretch s within → is_owner o (slot_at problem s).owner ≡ within
