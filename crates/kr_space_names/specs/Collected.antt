-- Between crates: lists of types that grow by what isn't among them yet.
use Rattle.std.specs.Prelude.{◌≡◌, ℕ, true, ◌+◌, ◌<◌, List, [], ◌∷◌, ◌++◌, map, fold, All, if◌then◌else◌}
use Rattle.kr_classes_table.specs.Types.{JavaType, ArrayType, SetType, ListType}
use Rattle.kr_classes_table.specs.Arrays.{arrays_in, is_listed}
use Rattle.kr_classes_names.specs.Types.{TypeList, count, type_at}

abbrev pub collect : List JavaType → JavaType → List JavaType
collect done t = if is_listed t done then done else done ++ t ∷ []

-- some types, followed by those of others that aren't among them, each once
abbrev pub collected : List JavaType → List JavaType → List JavaType
collected done ts = fold collect done ts

-- with a type, the array types in it are there
abbrev pub IsClosed : List JavaType → Type 0
IsClosed ts = (t u : JavaType) → is_listed t ts ≡ true → is_listed u (arrays_in t) ≡ true → is_listed u ts ≡ true

-- the types of these numbers
abbrev pub types_shown : TypeList → List ℕ → List JavaType
types_shown l ns = map (type_at l) ns

abbrev pub AreNumbers : TypeList → List ℕ → Type 0
AreNumbers l ns = All (λ n. n < count l) ns

-- how many array types and collections a type is, one in another
abbrev pub depth : JavaType → ℕ
depth (ArrayType t) = depth t + 1
depth (SetType t) = depth t + 1
depth (ListType t) = depth t + 1
depth t = 0
