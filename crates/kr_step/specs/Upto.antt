-- Between crates: what a search finds up to a bound.
use Rattle.std.specs.Prelude.{◌≡◌, ℕ, List, Bool, true, false}
use Rattle.kr_base.specs.declared.span.Bound.{Bound}
use Rattle.kr_base.specs.declared.span.Bound.TheVariants.{At}
use Rattle.kr_base.specs.Bounds.{less}
use Rattle.kr_base.specs.Cuts.{Before}
use Rattle.kr_mean.specs.Space.{Space}
use Rattle.kr_mean.specs.Runs.{key_along}
use Rattle.kr_mean.specs.Entries.{IsListed}
use Rattle.kr_step.specs.declared.candidates.Ending.{Ending}
use Rattle.kr_step.specs.declared.stage.Upto.{Upto}
use Rattle.kr_step.specs.declared.stage.Upto.TheVariants.{Inside, Last, Past}
use Rattle.kr_step.specs.Steps.{IsFirst}

-- each listed vector above a cut is past a bound
abbrev pub AllPast : Space → (List ℕ → List ℕ) → Bound → List ℕ → Type 0
AllPast S order b c = (u : List ℕ) → IsListed S order u → Before c (key_along u (order u)) → less b (At (key_along u (order u))) ≡ true

-- an entry of this key and ending, compared with a bound
abbrev pub Compares : Bound → List ℕ → Ending → Upto → Type 0
Compares b key ending (Inside e) = (e ≡ ending) × (less (At key) b ≡ true)
Compares b key ending (Last e) = (e ≡ ending) × (less (At key) b ≡ false) × (less b (At key) ≡ false)
Compares b key ending Past = less b (At key) ≡ true

abbrev pub is_past : Upto → Bool
is_past (Inside e) = false
is_past (Last e) = false
is_past Past = true

-- v is the listed vector of the least key above the cut c, its run ends so, and its key is the new cut
pub record Arrives (S : Space) (order : List ℕ → List ℕ) (ending : List ℕ → Ending) (c v new : List ℕ) (e : Ending) : Type 0 where
  pub first : IsFirst S order c v
  pub ends : e ≡ ending v
  pub key : new ≡ key_along v (order v)

-- From the cut c: the next entry, before the bound or at it; or none, and none up to the bound above the new cut.
abbrev pub ComesUpto : Space → (List ℕ → List ℕ) → (List ℕ → Ending) → Bound → List ℕ → List ℕ → List ℕ → Upto → Type 0
ComesUpto S order ending b c v new (Inside e) = Arrives S order ending c v new e × (less (At new) b ≡ true)
ComesUpto S order ending b c v new (Last e) = Arrives S order ending c v new e × (less (At new) b ≡ false) × (less b (At new) ≡ false)
ComesUpto S order ending b c v new Past = AllPast S order b c × AllPast S order b new

-- a cut that became a bound, or stayed
abbrev pub Rises : Bound → Bool → List ℕ → List ℕ → Type 0
Rises b true old new = b ≡ At new
Rises b false old new = new ≡ old
