-- Between crates: why a document is refused.
use Rattle.std.specs.Prelude.{◌≡◌, List, ◌++◌, Option, Some}
use Rattle.kr_mean.specs.declared.mode.Mode.{Mode}
use Rattle.kr_mean.specs.Problem.{Problem}
use Rattle.kr_space_meaning.specs.Bounds.{Setting}
use Rattle.kr_space_meaning.specs.Faults.{S2, S3_S5_S6, S4, S7, S8, S9}
use Rattle.kr_space_meaning.specs.Order.{Fault}
use Rattle.kr_base.specs.declared.refusal.RefusalOf.{RefusalOf}
use Rattle.kr_base.specs.declared.refusal.RefusalOf.TheVariants.{Broken, NoMemory}
use Rattle.kr_space_meaning.specs.declared.refusal.SpaceRule.{SpaceRule}

-- the refusal is out of memory, or the fault that is expected
abbrev pub Refuses : Option Fault → RefusalOf SpaceRule → Type 0
Refuses wanted (Broken fault) = wanted ≡ Some fault
Refuses wanted (NoMemory why) = Unit {0}

-- the faults of the rules after the first
unfoldable pub after_S1 : Problem → Setting → Mode → List Fault
after_S1 problem setting mode = S2 setting mode ++ (S3_S5_S6 problem setting ++ (S4 setting ++ (S7 setting ++ (S8 setting mode ++ S9 setting))))
