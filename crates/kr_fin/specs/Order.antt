-- To be believed: the rules of a finitization, their codes, and the order in which broken ones are named.
use Rattle.std.specs.Prelude.{ℕ, List, [], ◌∷◌, Option, codes}
use Rattle.kr_base.specs.declared.refusal.Fault.{Fault as FaultOf}
use Rattle.kr_fin.specs.declared.refusal.FinRule.{FinRule}
use Rattle.kr_fin.specs.declared.refusal.FinRule.TheVariants.{TooLong, NotToml, UnknownKey, WrongKind, OutOfLimit, MissingKey}
use Rattle.kr_fin.specs.Least as by

abbrev pub Fault : Type 0
Fault = FaultOf FinRule

abbrev pub rule_code : FinRule → List ℕ
rule_code TooLong = codes "F6"
rule_code NotToml = codes "F1"
rule_code UnknownKey = codes "F2"
rule_code WrongKind = codes "F3"
rule_code OutOfLimit = codes "F4"
rule_code MissingKey = codes "F5"

-- the order of the rules: too long first of all
abbrev pub rank_of : FinRule → ℕ
rank_of TooLong = 0
rank_of NotToml = 1
rank_of UnknownKey = 2
rank_of WrongKind = 3
rank_of OutOfLimit = 4
rank_of MissingKey = 5

-- the lesser of the fault so far, if there is one, and one more
abbrev pub lesser : Option Fault → Fault → Option Fault
lesser = by.lesser rank_of

-- the least of some faults, if there are any
abbrev pub least : List Fault → Option Fault
least = by.least rank_of

-- the fault of a rule at an item, alone
abbrev pub broken : FinRule → List ℕ → List Fault
broken rule item = record { rule = rule; item = item } ∷ []
