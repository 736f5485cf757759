-- To be believed: which of some broken rules is named, whatever the rules are: the least rule by their order, and of one rule
-- the least item in the order of bytes.
use Rattle.std.specs.Prelude.{◌≡◌, ℕ, Bool, false, List, [], ◌∷◌, fold, Option, Some, None, All, Contains, MatchOption, if◌then◌else◌}
use Rattle.std.specs.Ordering.{nat_cmp, is_lt}
use Rattle.std.specs.Cmp.Lexicographic.{slice_cmp}
use Rattle.kr_base.specs.declared.refusal.Fault.{Fault}

-- the first fault has the lesser rule, or the same one and the lesser item
abbrev pub comes_before : {R : Type 0} → (R → ℕ) → Fault R → Fault R → Bool
comes_before rank f g = is_lt (slice_cmp nat_cmp (rank f.rule ∷ f.item) (rank g.rule ∷ g.item))

-- the lesser of the fault so far, if there is one, and one more
abbrev pub lesser : {R : Type 0} → (R → ℕ) → Option (Fault R) → Fault R → Option (Fault R)
lesser rank None g = Some g
lesser rank (Some f) g = if comes_before rank g f then Some g else Some f

-- the least of some faults, if there are any
abbrev pub least : {R : Type 0} → (R → ℕ) → List (Fault R) → Option (Fault R)
least rank faults = fold (lesser rank) None faults

-- one of the faults, and none of them comes before it
pub record IsLeast {R : Type 0} (rank : R → ℕ) (faults : List (Fault R)) (fault : Fault R) : Type 0 where
  pub is_one : Contains faults fault
  pub is_first : All (λ other. comes_before rank other fault ≡ false) faults

-- the least is there where there are faults, and is the least of them
abbrev pub LeastLaw : {R : Type 0} → (R → ℕ) → Type 0
LeastLaw {R} rank = (faults : List (Fault R)) → MatchOption (least rank faults) (faults ≡ []) (IsLeast rank faults)
