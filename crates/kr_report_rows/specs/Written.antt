-- Between crates: a candidate's structure as it is written: parameters, and then the objects that are met, each slot by slot.
use Rattle.std.specs.Prelude.{◌≡◌, ℕ, ◌+◌, List, [], ◌++◌, length, map, flat_map, codes}
use Rattle.std.proofs.Common.{get_or}
use Rattle.kr_value.specs.declared.object.Class.{Class}
use Rattle.kr_mean.specs.Entries.{structure_of}
use Rattle.kr_mean.specs.WellFormed.{IsWellFormed}
use Rattle.kr_mean.specs.Heaps.{met_within, slots_in, value_at}
use Rattle.kr_mean.specs.Problem.{Problem, DomainObject, all_objects, domain_at, slot_at, upto}
use Rattle.kr_report.specs.Texts.{in_brackets, in_parentheses, joined_by, object_name, part_text, structure_text, tested_parameters, value_text}

-- what a structure has of a slot
abbrev pub part_at : Problem → List ℕ → Class → ℕ → List (List ℕ)
part_at problem v class s = part_text problem class (value_at problem v s) (slot_at problem s).place

abbrev pub parts_written : Problem → List ℕ → DomainObject → List (List ℕ)
parts_written problem v o = flat_map (part_at problem v (domain_at problem o.domain).class) (slots_in problem v o)

-- an object with its slots
abbrev pub object_written : Problem → List ℕ → DomainObject → List ℕ
object_written problem v o = object_name problem o ++ in_brackets (domain_at problem o.domain).class (joined_by (codes ",") (parts_written problem v o))

-- a parameter of the method under test
abbrev pub parameter_written : Problem → List ℕ → ℕ → List ℕ
parameter_written problem v i = get_or (tested_parameters problem) i [] ++ codes "=" ++ value_text problem (value_at problem v (i + 1))

-- the objects that are met
abbrev pub met : Problem → List ℕ → List DomainObject
met problem v = met_within problem v (length (all_objects problem))

abbrev pub written : Problem → List ℕ → List ℕ
written problem v =
    in_parentheses (map (parameter_written problem v) (upto (length problem.parameters)))
    ++ joined_by (codes " ") (map (object_written problem v) (met problem v))

-- a structure's text is what is written
abbrev pub WrittenLaw : Type 0
WrittenLaw = (problem : Problem) → IsWellFormed problem → (v : List ℕ) → structure_text problem (structure_of problem v) ≡ written problem v
