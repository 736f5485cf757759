-- Between crates: problems whose structures can be written as code.
use Rattle.std.specs.Prelude.{◌≡◌, ℕ, ◌<◌, ◌≤◌, Bool, List, [], length}
use Rattle.std.specs.List.{AllByRecursion}
use Rattle.std.proofs.Common.{get_or}
use Rattle.kr_mean.specs.Entries.{structure_of}
use Rattle.kr_mean.specs.Places.{SlotPlace, This, Parameter, At}
use Rattle.kr_classes_table.specs.Table.{Field, fields_of}
use Rattle.kr_laws_safety.specs.Domains.{HaveDomainsTypes}
use Rattle.kr_mean.specs.Problem.{Problem, choices_at, domain_at, slot_at}
use Rattle.kr_mean.specs.Program.{Program}
use Rattle.kr_mean.specs.Runs.{root_class}
use Rattle.kr_mean.specs.Space.{IsVector, no_choice, space_of}
use Rattle.kr_mean.specs.WellFormed.{IsWellFormed}
use Rattle.kr_mean.specs.declared.row.Row.{Row}
use Rattle.kr_report.specs.Texts.{field_names}
use Rattle.kr_value.specs.declared.object.Class.{Class}
use Rattle.kr_value.specs.declared.object.Class.TheVariants.{Object, Array}
use Rattle.kr_value.specs.declared.object.Spot.{Spot}
use Rattle.kr_value.specs.declared.object.Spot.TheVariants.{Field as FieldSpot, Length, Element}
use Rattle.kr_value.specs.declared.value.Value.{Value}
use Rattle.kr_value.specs.declared.value.Value.TheVariants.{Int}
use Rattle.kr_emit_meaning.specs.Buildable.{array_elements}
use Rattle.kr_emit_meaning.specs.Builders.{class_of_object, is_long_spot, objects_in}
use Rattle.kr_emit_laws.specs.TextLaws.{HasLengths}
use Rattle.kr_emit_laws.specs.Printable.{IsClassName, IsElementName, IsIdentifier, IsNumbered, IsPrintable, IsWritten}
use Rattle.kr_emit_laws.specs.Syntax.{builder_of, class_name, element_name}

-- a class has a name, and an array's elements do
abbrev pub HasTypeName : Program → Class → Type 0
HasTypeName program (Object c) = IsClassName (class_name program.table.headings c)
HasTypeName program (Array k) = IsElementName (element_name program.table.headings (array_elements program k))
HasTypeName program _ = Unit {0}

-- a field has a name, and an element a number
abbrev pub HasSpotName : Program → Class → Spot → Type 0
HasSpotName program class (FieldSpot f) = IsIdentifier (get_or (field_names program.table class) f [])
HasSpotName program class (Element i) = i ≤ 2147483648
HasSpotName program class Length = Unit {0}

abbrev pub HasName : Problem → SlotPlace → Type 0
HasName problem (At o spot) = HasSpotName problem.program (class_of_object problem o) spot
HasName problem This = Unit {0}
HasName problem (Parameter i) = Unit {0}

-- a number is one of its spot's type
abbrev pub IsWrittenValue : Bool → Value → Type 0
IsWrittenValue is_long (Int n) = IsWritten is_long n
IsWrittenValue is_long v = Unit {0}

abbrev pub IsWrittenAt : Problem → SlotPlace → Value → Type 0
IsWrittenAt problem (At o spot) v = IsWrittenValue (is_long_spot problem.program (class_of_object problem o) spot) v
IsWrittenAt problem This v = Unit {0}
IsWrittenAt problem (Parameter i) v = Unit {0}

-- the classes, fields and values of a problem can be written
pub record IsWritable (problem : Problem) : Type 0 where
  pub root : IsClassName (class_name problem.program.table.headings (root_class problem))
  pub classes : (o : ℕ) → HasTypeName problem.program (class_of_object problem o)
  pub names : (s : ℕ) → HasName problem (slot_at problem s).place
  pub values : (s i : ℕ) → IsWrittenAt problem (slot_at problem s).place (get_or (choices_at problem s) i no_choice).value

-- the builder of each row can be printed
abbrev pub PrintableLaw : Type 0
PrintableLaw = (problem : Problem) (row : Row) (vector : List ℕ) → IsWritable problem → row.structure ≡ structure_of problem vector → IsNumbered (length (objects_in row.structure)) → IsPrintable (builder_of problem row)

-- ---- of problems in general

-- the classes of a problem's objects have names, and their fields
pub record HasNames (problem : Problem) : Type 0 where
  pub classes : (d : ℕ) → d < length problem.domains → HasTypeName problem.program (domain_at problem d).class
  pub fields : (c : ℕ) → AllByRecursion (λ (f : Field). IsIdentifier f.name) (fields_of problem.program.table c)

-- so it can be written, if its domains have values of their types
abbrev pub WritableLaw : Type 0
WritableLaw = (problem : Problem) → IsWellFormed problem → HaveDomainsTypes problem → HasNames problem → IsWritable problem

-- each array of a structure has one length
abbrev pub LengthsLaw : Type 0
LengthsLaw = (problem : Problem) (vector : List ℕ) → IsWellFormed problem → IsVector (space_of problem) vector → HasLengths problem (structure_of problem vector)
