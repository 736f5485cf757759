-- To be believed: domains as the code has them: a range of integers is one entry.
use Rattle.std.specs.Prelude.{ℕ, zero, suc, ℤ, pos, ◌+ℤ◌, ◌-ℤ◌, List, [], ◌∷◌, map, flat_map}
use Rattle.kr_value.specs.declared.value.Value.TheVariants.{Int}
use Rattle.kr_mean.specs.Problem as problems
use Rattle.kr_mean.specs.Problem.{Domain}
use Rattle.kr_space_layout.specs.declared.item.DomainEntry.{DomainEntry}
use Rattle.kr_space_layout.specs.declared.item.DomainEntry.TheVariants.{Plain, Integers, Objects}
use Rattle.kr_fin.specs.Document.{magnitude}

-- so many integers, the first of them and on
abbrev pub integers_from : ℤ → ℕ → List ℤ
integers_from from zero = []
integers_from from (suc count) = from ∷ integers_from (from +ℤ pos 1) count

-- how many integers there are from the first to the last, both included
abbrev pub width_between : ℤ → ℤ → ℕ
width_between from to = magnitude ((to -ℤ from) +ℤ pos 1)

-- from the first to the last, both included
abbrev pub integers : ℤ → ℤ → List ℤ
integers from to = integers_from from (width_between from to)

-- the meaning of an entry in a problem
abbrev pub meant : DomainEntry → List problems.DomainItem
meant (Plain v) = problems.Plain v ∷ []
meant (Integers from to) = map (λ z. problems.Plain (Int z)) (integers from to)
meant (Objects d) = problems.Objects d ∷ []

abbrev pub domain_of : List DomainEntry → Domain
domain_of items = flat_map meant items
