-- Between crates: parts of a builder's text, and what is kept of a row.
use Rattle.std.specs.Prelude.{◌≡◌, ℕ, List, [], ◌∷◌, ◌++◌, codes, if◌then◌else◌}
use Rattle.kr_mean.specs.Problem.{Problem}
use Rattle.kr_mean.specs.Runs.{contains_number}
use Rattle.kr_mean.specs.declared.row.Row.{Row}
use Rattle.kr_value.specs.declared.value.Value.{Value}
use Rattle.kr_value.specs.declared.value.Value.TheVariants.{Int, Bool as Truth, Null, Ref as Reference}
use Rattle.kr_emit_meaning.specs.Builders.{front_text, rest_text}
use Rattle.kr_emit.specs.declared.making.Builder.{Builder}

-- `T name = new T`, with brackets after the first T
abbrev pub head_text : List ℕ → List ℕ → List ℕ → List ℕ
head_text type brackets name = codes "    " ++ type ++ brackets ++ codes " " ++ name ++ codes " = new " ++ type

-- an object is added, unless it is there
abbrev pub IsAdded : List ℕ → ℕ → List ℕ → Type 0
IsAdded old o new = new ≡ old ++ (if contains_number old o then [] else o ∷ [])

-- so is the object that a value refers to
abbrev pub HasReferred : List ℕ → Value → List ℕ → Type 0
HasReferred old (Reference o) new = IsAdded old o new
HasReferred old (Int n) new = new ≡ old
HasReferred old (Truth b) new = new ≡ old
HasReferred old Null new = new ≡ old

abbrev pub made_of : Problem → Row → Builder
made_of problem row = record { key = row.key; front = front_text problem row; rest = rest_text problem row }
