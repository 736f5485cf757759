-- To be believed: which rules a table breaks as a finitization, each with the item that breaks it: all of them, in the order of
-- the text below, which means nothing (`least` of the order names one).
use Rattle.std.specs.Prelude.{ℕ, ℤ, List, [], ◌++◌, Option, Some, None, codes, if◌then◌else◌}
use Rattle.toml.specs.Data.{Data, string, integer, float, boolean, datetime, array, table, Items, no_items, item, Members, no_members, member, get_member, as_integer, as_str, as_array, as_table}
use Rattle.kr_fin.specs.declared.refusal.FinRule.TheVariants.{UnknownKey, WrongKind, OutOfLimit, MissingKey}
use Rattle.kr_fin.specs.declared.shapes.Limits.{Limits}
use Rattle.kr_fin.specs.declared.shapes.Purpose.{Purpose}
use Rattle.kr_fin.specs.declared.shapes.Purpose.TheVariants.{Lengths, Slot}
use Rattle.kr_fin.specs.declared.shapes.Section.{Section}
use Rattle.kr_fin.specs.declared.shapes.Section.TheVariants.{Objects, Domains, Arrays, Fields, Params}
use Rattle.kr_fin.specs.declared.shapes.Shape.{Shape}
use Rattle.kr_fin.specs.declared.shapes.Shape.TheVariants.{Document, Range, Array, ObjectDomain}
use Rattle.kr_fin.specs.Order.{Fault, broken}
use Rattle.kr_fin.specs.Shapes.{knows, name_of, item_of, have, counts, fuels, versions, limits_of, is_pair, is_domain_name}
use Rattle.kr_fin.specs.Version.{objects_section}

abbrev Text : Type 0
Text = List ℕ

-- ---- Parts that are there or not

-- a part that has to be there
abbrev pub required : (Data → List Fault) → Text → Option Data → List Fault
required faults at None = broken MissingKey at
required faults at (Some d) = faults d

-- a value of one kind
abbrev pub of_kind : {X : Type 0} → (X → List Fault) → Text → Option X → List Fault
of_kind faults at None = broken WrongKind at
of_kind faults at (Some x) = faults x

-- each key is one that the table may have; `named` gives the item of another one
abbrev pub unknown_keys : Shape → (Text → Text) → Members → List Fault
unknown_keys shape named no_members = []
unknown_keys shape named (member key d rest) =
    (if knows shape key then [] else broken UnknownKey (named key)) ++ unknown_keys shape named rest

-- ---- Numbers

abbrev pub within : Limits → Text → ℤ → List Fault
within limits at number = if have limits number then [] else broken OutOfLimit at

abbrev pub number : Limits → Text → Data → List Fault
number limits at d = of_kind (within limits at) at (as_integer d)

-- ---- Texts

abbrev pub text : Text → Data → List Fault
text at d = of_kind (λ text. []) at (as_str d)

-- ---- Domains

-- a range has both its ends, and no other key
abbrev pub range : Limits → Text → Members → List Fault
range limits at ms =
    unknown_keys Range (λ key. at) ms
    ++ (required (number limits at) at (get_member (codes "from") ms)
    ++ required (number limits at) at (get_member (codes "to") ms))

-- a truth value or a name
abbrev pub plain : Purpose → Text → List Fault
plain Slot at = []
plain Lengths at = broken WrongKind at

-- lengths are integers and ranges alone; a slot may have truth values and names too
abbrev pub value : Purpose → Text → Data → List Fault
value purpose at (integer z) = within (limits_of purpose) at z
value purpose at (table ms) = range (limits_of purpose) at ms
value purpose at (boolean b) = plain purpose at
value purpose at (string s) = plain purpose at
value purpose at (float x) = broken WrongKind at
value purpose at (datetime dt) = broken WrongKind at
value purpose at (array ds) = broken WrongKind at

abbrev pub values : Purpose → Text → Items → List Fault
values purpose at no_items = []
values purpose at (item d rest) = value purpose at d ++ values purpose at rest

abbrev pub domain : Purpose → Text → Data → List Fault
domain purpose at d = of_kind (values purpose at) at (as_array d)

-- ---- a name in the tables of names

-- the class of an object domain, and how many objects it has
abbrev pub object_domain : Text → Members → List Fault
object_domain at ms =
    unknown_keys ObjectDomain (λ key. at) ms
    ++ (required (text at) at (get_member (codes "class") ms)
    ++ required (number counts at) at (get_member (codes "count") ms))

-- an object domain of a name
abbrev pub named_domain : Text → Text → Data → List Fault
named_domain key at d = (if is_domain_name key then [] else broken WrongKind at) ++ of_kind (object_domain at) at (as_table d)

-- how many arrays of a type there are, and how long they are
abbrev pub bound : Text → Members → List Fault
bound at ms =
    unknown_keys Array (λ key. at) ms
    ++ (required (number counts at) at (get_member (codes "count") ms)
    ++ required (domain Lengths at) at (get_member (codes "lengths") ms))

-- the values of a field, of elements or of a parameter: the key is a pair
abbrev pub keyed : Text → Text → Data → List Fault
keyed key at d = (if is_pair key then [] else broken WrongKind at) ++ domain Slot at d

abbrev pub entry : Section → Text → Text → Data → List Fault
entry Objects key at d = number counts at d
entry Domains key at d = named_domain key at d
entry Arrays key at d = of_kind (bound at) at (as_table d)
entry Fields key at d = keyed key at d
entry Params key at d = keyed key at d

abbrev pub entries : Section → Members → List Fault
entries section no_members = []
entries section (member key d rest) = entry section key (item_of section key) d ++ entries section rest

-- such a table may be absent
abbrev pub optional : (Data → List Fault) → Option Data → List Fault
optional faults None = []
optional faults (Some d) = faults d

abbrev pub section : Section → Members → List Fault
section s ms = optional (λ d. of_kind (entries s) (name_of s) (as_table d)) (get_member (name_of s) ms)

-- ---- The whole

abbrev pub root : Members → List Fault
root ms = required (text (codes "root")) (codes "root") (get_member (codes "root") ms)

-- 1 or 2, and it may be absent
abbrev pub version : Members → List Fault
version ms = optional (number versions (codes "version")) (get_member (codes "version") ms)

abbrev pub fuel : Members → List Fault
fuel ms = required (number fuels (codes "fuel")) (codes "fuel") (get_member (codes "fuel") ms)

unfoldable pub faults_in : Members → List Fault
faults_in ms =
    unknown_keys Document (λ key. key) ms
    ++ (version ms
    ++ (root ms
    ++ (fuel ms
    ++ (section (objects_section ms) ms
    ++ (section Arrays ms
    ++ (section Fields ms
    ++ section Params ms))))))
