-- To be believed: the rules of a document beside a program, their codes, and the order in which broken ones are named.
use Rattle.std.specs.Prelude.{ℕ, Bool, List, [], ◌∷◌, Option, codes, if◌then◌else◌}
use Rattle.kr_base.specs.declared.refusal.Fault.{Fault as FaultOf}
use Rattle.kr_fin.specs.Least as by
use Rattle.kr_space_meaning.specs.declared.refusal.SpaceRule.{SpaceRule}
use Rattle.kr_space_meaning.specs.declared.refusal.SpaceRule.TheVariants.{UnknownName, NoDomain, EmptyDomain, UnfitValue, ValueTwice, TooMany, NoPredicate, NoMethod, NoSlot}

abbrev pub Fault : Type 0
Fault = FaultOf SpaceRule

abbrev pub rule_code : SpaceRule → List ℕ
rule_code UnknownName = codes "S1"
rule_code NoDomain = codes "S2"
rule_code EmptyDomain = codes "S3"
rule_code UnfitValue = codes "S4"
rule_code ValueTwice = codes "S5"
rule_code TooMany = codes "S6"
rule_code NoPredicate = codes "S7"
rule_code NoMethod = codes "S8"
rule_code NoSlot = codes "S9"

-- the order of the rules
abbrev pub space_rank : SpaceRule → ℕ
space_rank UnknownName = 1
space_rank NoDomain = 2
space_rank EmptyDomain = 3
space_rank UnfitValue = 4
space_rank ValueTwice = 5
space_rank TooMany = 6
space_rank NoPredicate = 7
space_rank NoMethod = 8
space_rank NoSlot = 9

-- the lesser of the fault so far, if there is one, and one more: the lesser rule, and of one rule the lesser item
abbrev pub lesser : Option Fault → Fault → Option Fault
lesser = by.lesser space_rank

-- the least of some faults, if there are any
abbrev pub least : List Fault → Option Fault
least = by.least space_rank

abbrev pub break_if : Bool → SpaceRule → List ℕ → List Fault
break_if broken rule item = if broken then record { rule = rule; item = item } ∷ [] else []
