-- Between crates: what a search shows, and what it answers.
use Rattle.std.specs.Prelude.{◌≡◌, ℕ, List, [], ◌∷◌}
use Rattle.kr_base.specs.Cuts.{Before}
use Rattle.kr_base.specs.declared.entry.Entry.{Entry}
use Rattle.kr_base.specs.declared.entry.Mark.{Mark}
use Rattle.kr_mean.specs.Space.{Space}
use Rattle.kr_mean.specs.Runs.{key_along}
use Rattle.kr_mean.specs.Entries.{IsListed, IsAll, entry_of}
use Rattle.kr_step.specs.declared.candidates.Ending.{Ending}
use Rattle.kr_step.specs.declared.stage.Stage.{Stage}
use Rattle.kr_step.specs.declared.stage.Stage.TheVariants.{Behind, Moved, Ahead}
use Rattle.kr_step.specs.declared.stage.Next.{Next}
use Rattle.kr_step.specs.declared.stage.Next.TheVariants.{Found, End}
use Rattle.kr_step.specs.Steps.{IsStuck, IsMoved, IsFirst, path_of, above}

-- after the last candidate found; at the next one, not run yet; at one that was run
abbrev pub StandsAt : Space → (List ℕ → List ℕ) → (List ℕ → Ending) → Stage → List ℕ → List ℕ → List (ℕ × ℕ) → Type 0
StandsAt S order ending Behind c v path = IsStuck S order c v path
StandsAt S order ending Moved c v path = IsMoved S order c v path
StandsAt S order ending (Ahead e) c v path = IsFirst S order c v × (e ≡ ending v) × (path ≡ path_of v (order v))

-- how many runs were made ahead
abbrev pub ahead_of : Stage → ℕ
ahead_of Behind = 0
ahead_of Moved = 0
ahead_of (Ahead e) = 1

-- The candidates, the cut above which the next entry is looked for, and how many runs the search is ahead.
pub record Seen (R : Type 0) : Type 0 where
  pub candidates : R
  pub cut : List ℕ
  pub ahead : ℕ

-- From the cut c: v is the listed vector of the least key above it, its run ends so, and its key is the new cut; or no listed
-- vector has a key above the cut.
abbrev pub Answers : Space → (List ℕ → List ℕ) → (List ℕ → Ending) → List ℕ → List ℕ → List ℕ → Next → Type 0
Answers S order ending c v new (Found e) = IsFirst S order c v × (e ≡ ending v) × (new ≡ key_along v (order v))
Answers S order ending c v new End = (new ≡ c) × ((u : List ℕ) → IsListed S order u → Before c (key_along u (order u)) → ⊥)

-- how many entries an answer has
abbrev pub count_of : Next → ℕ
count_of (Found e) = 1
count_of End = 0

-- The first listed vector above a cut gives the first of all entries above it, and the others are above its key; where there
-- is none, no entry is.
pub record Lists (S : Space) {R : Type 0} (order : List ℕ → List ℕ) (mark : List ℕ → Mark R) (es : List (Entry R)) (c : List ℕ) : Type 0 where
  pub first : (v : List ℕ) → IsFirst S order c v → above c es ≡ entry_of order mark v ∷ above (key_along v (order v)) es
  pub none : ((u : List ℕ) → IsListed S order u → Before c (key_along u (order u)) → ⊥) → above c es ≡ []

abbrev pub FirstLaw : Type 0 → Type 0
FirstLaw R = (S : Space) (order : List ℕ → List ℕ) (mark : List ℕ → Mark R) (es : List (Entry R)) (c : List ℕ) → IsAll S order mark es → Lists S order mark es c
