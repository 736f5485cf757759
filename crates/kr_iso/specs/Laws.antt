-- Between crates: what makes a candidate the least of its class.
use Rattle.std.specs.Prelude.{ℕ, List, []}
use Rattle.kr_mean.specs.Space.{Space, IsVector}
use Rattle.kr_mean.specs.Blocks.{IsSpace}
use Rattle.kr_mean.specs.Readings.{IsReading}
use Rattle.kr_mean.specs.Isomorphism.{IsLeast}
use Rattle.kr_mean.specs.Choices.{AllowedAlong}

-- A vector is least exactly where each index along its order is allowed after those before it.
abbrev pub ChoiceLaw : Type 0 → Type 0
ChoiceLaw M = (space : Space) (order : List ℕ → List ℕ) (mark : List ℕ → M) → IsSpace space → IsReading space order mark → (v : List ℕ) → IsVector space v →
    (IsLeast space order v → AllowedAlong space v [] (order v)) × (AllowedAlong space v [] (order v) → IsLeast space order v)
