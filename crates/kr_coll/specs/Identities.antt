-- Between crates: members of sets, compared by identity as in the meaning (Java Language Specification 15.21.3).
use Rattle.std.specs.Prelude.{◌≡◌, false, List, [], ◌∷◌, ◌++◌, if◌then◌else◌}
use Rattle.kr_value.specs.declared.value.Value.{Value}
use Rattle.kr_mean.specs.Collections.{has_member}

-- the members are distinct
abbrev pub Differ : List Value → Type 0
Differ [] = Unit {0}
Differ (x ∷ xs) = (has_member x xs ≡ false) × Differ xs

-- a set's members with one more, unless it is there
abbrev pub with_member : Value → List Value → List Value
with_member m xs = if has_member m xs then xs else xs ++ m ∷ []
