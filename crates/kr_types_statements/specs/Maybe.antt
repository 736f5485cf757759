-- Between crates: a rule on a part that may be absent.
use Rattle.std.specs.Prelude.{ℕ, Option, Some, None, option_map}
use Rattle.kr_classes_table.specs.Types.{JavaType}
use Rattle.kr_types_meaning.specs.Rules as rules
use Rattle.kr_classes_names.specs.Types.{TypeList, type_at}

-- it is looked at where the part is absent or has a type
abbrev pub with_maybe : (Option JavaType → rules.Judgement) → Option (Option JavaType) → rules.Judgement
with_maybe f (Some a) = f a
with_maybe f None = rules.fine

-- the types by their numbers
abbrev pub types_in : TypeList → Option (Option ℕ) → Option (Option JavaType)
types_in l = option_map (option_map (type_at l))
