-- Between crates: the position of a search, and the next candidate above a cut.
use Rattle.std.specs.Prelude.{◌≡◌, ℕ, ◌<◌, List, [], ◌∷◌, ◌++◌, map, filter, Bool, true, false}
use Rattle.std.proofs.Common.{get_or}
use Rattle.kr_mean.specs.Space.{Space, IsVector}
use Rattle.kr_base.specs.Cuts.{Before, is_before}
use Rattle.kr_base.specs.declared.entry.Entry.{Entry}
use Rattle.kr_mean.specs.Readings.{Lacks}
use Rattle.kr_mean.specs.Runs.{key_along}
use Rattle.kr_iso.specs.Choices.{AllowedPath}
use Rattle.kr_mean.specs.Entries.{IsListed}

-- a path's slots with their indices
abbrev pub path_of : List ℕ → List ℕ → List (ℕ × ℕ)
path_of v order = map (λ s. (s, get_or v s 0)) order

abbrev pub slots_of : List (ℕ × ℕ) → List ℕ
slots_of path = map (λ p. p.0) path

abbrev pub indices_of : List (ℕ × ℕ) → List ℕ
indices_of path = map (λ p. p.1) path

abbrev pub OnPath : List ℕ → List (ℕ × ℕ) → Type 0
OnPath v [] = Unit {0}
OnPath v (p ∷ path) = (get_or v p.0 0 ≡ p.1) × OnPath v path

-- the vector of a path, 0 elsewhere
pub record IsOf (S : Space) (path : List (ℕ × ℕ)) (v : List ℕ) : Type 0 where
  pub vector : IsVector S v
  pub on : OnPath v path
  pub off : (s : ℕ) → s < S.slots → Lacks (slots_of path) s → get_or v s 0 ≡ 0

-- along an order the vector follows a path, and a slot comes next
abbrev pub NextIs : List ℕ → List (ℕ × ℕ) → ℕ → List ℕ → Type 0
NextIs u [] s [] = ⊥
NextIs u [] s (t ∷ ts) = s ≡ t
NextIs u (p ∷ path) s [] = ⊥
NextIs u (p ∷ path) s (t ∷ ts) = (p.0 ≡ t) × (get_or u t 0 ≡ p.1) × NextIs u path s ts

-- no entry above a cut goes on from a path
abbrev pub IsBeyond : Space → (List ℕ → List ℕ) → List ℕ → List (ℕ × ℕ) → Type 0
IsBeyond S order c path = (u : List ℕ) → IsListed S order u → Before c (key_along u (order u)) → OnPath u path → ⊥

-- the listed vector of the least key above a cut
pub record IsFirst (S : Space) (order : List ℕ → List ℕ) (c w : List ℕ) : Type 0 where
  pub listed : IsListed S order w
  pub later : Before c (key_along w (order w))
  pub least : (u : List ℕ) → IsListed S order u → Before c (key_along u (order u)) → Before (key_along u (order u)) (key_along w (order w)) → ⊥

-- A search is at the vector of a path that no entry above the cut goes on from.
pub record IsStuck (S : Space) (order : List ℕ → List ℕ) (c v : List ℕ) (path : List (ℕ × ℕ)) : Type 0 where
  pub of : IsOf S path v
  pub allowed : AllowedPath S [] path
  pub leads : (u : List ℕ) × IsVector S u × (rest : List (ℕ × ℕ)) × (path_of u (order u) ≡ path ++ rest)
  pub cut : (tail : List ℕ) × (c ≡ indices_of path ++ tail)
  pub beyond : IsBeyond S order c path

-- the position of a search after a step
pub record IsMoved (S : Space) (order : List ℕ → List ℕ) (c w : List ℕ) (path : List (ℕ × ℕ)) : Type 0 where
  pub of : IsOf S path w
  pub allowed : AllowedPath S [] path
  pub first : IsFirst S order c w
  pub leads : (rest : List (ℕ × ℕ)) × (path_of w (order w) ≡ path ++ rest)

-- the search moved on, or no listed vector is above the cut
abbrev pub Advanced : Space → (List ℕ → List ℕ) → List ℕ → Bool → List ℕ → List (ℕ × ℕ) → Type 0
Advanced S order c true w path = IsMoved S order c w path
Advanced S order c false w path = IsStuck S order c w path × ((u : List ℕ) → IsListed S order u → Before c (key_along u (order u)) → ⊥)

-- A vector of an allowed path, along which its order leads.
pub record IsFront (S : Space) (order : List ℕ → List ℕ) (w : List ℕ) (path : List (ℕ × ℕ)) : Type 0 where
  pub of : IsOf S path w
  pub allowed : AllowedPath S [] path
  pub leads : (rest : List ℕ) × (order w ≡ slots_of path ++ rest)

-- the entries above a cut
abbrev pub above : {R : Type 0} → List ℕ → List (Entry R) → List (Entry R)
above c es = filter (λ e. is_before c e.key) es
