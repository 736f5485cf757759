-- Between crates: a rule is looked at where the parts that it speaks of have types.
use Rattle.std.specs.Prelude.{List, Option, Some, None}
use Rattle.kr_classes_table.specs.Types.{JavaType}
use Rattle.kr_types_meaning.specs.Rules as rules

-- the values of a list, where all have types
abbrev pub values_in : rules.Typed → Option (List JavaType)
values_in (rules.Values ts) = Some ts
values_in x = None

abbrev pub with_list : (List JavaType → rules.Judgement) → Option (List JavaType) → rules.Judgement
with_list f (Some ts) = f ts
with_list f None = rules.fine

abbrev pub with_one_and_list : (JavaType → List JavaType → rules.Judgement) → Option JavaType → Option (List JavaType) → rules.Judgement
with_one_and_list f (Some a) (Some ts) = f a ts
with_one_and_list f a ts = rules.fine
