-- Between crates: one turn of a search on its way.
use Rattle.std.specs.Prelude.{◌≡◌, ℕ, List, [], ◌∷◌, ◌++◌, Bool, true, false}
use Rattle.kr_mean.specs.Space.{Space}
use Rattle.kr_step.specs.Steps.{IsStuck, IsMoved, IsFront, indices_of}
use Rattle.kr_step.specs.declared.seeking.Lead.{Lead}
use Rattle.kr_step.specs.declared.seeking.Lead.TheVariants.{On, Past, Stuck}

-- back: the slot was raised, or it leads nowhere
abbrev pub Turned : Space → (List ℕ → List ℕ) → List ℕ → Bool → List ℕ → List (ℕ × ℕ) → Type 0
Turned S order c true w path = IsMoved S order c w path
Turned S order c false w path = IsStuck S order c w path

-- on to a cut whose next number this is: it was chosen; or a greater one was, and that is the next candidate; or none can be
abbrev pub Leads : Space → (List ℕ → List ℕ) → List ℕ → ℕ → Lead → List ℕ → List (ℕ × ℕ) → List (ℕ × ℕ) → Type 0
Leads S order c number On w old path = IsFront S order w path × (indices_of path ≡ indices_of old ++ number ∷ [])
Leads S order c number Past w old path = IsMoved S order c w path
Leads S order c number Stuck w old path = IsStuck S order c w path
