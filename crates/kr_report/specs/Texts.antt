-- To be believed: the lines of a report.
use Rattle.kr_base.specs.Causes.{capped}
use Rattle.std.specs.Prelude.{ℕ, ◌-◌, ◌^◌, true, false, List, [], ◌∷◌, ◌++◌, map, flat_map, Option, Some, None, codes, decimal, min, if◌then◌else◌}
use Rattle.std.specs.Fmt.{signed_decimal}
use Rattle.std.proofs.Common.{get_or}
use Rattle.kr_base.specs.Cuts.{cut_text}
use Rattle.kr_base.specs.Places.{nowhere}
use Rattle.kr_ast.specs.Tree.{Nil}
use Rattle.kr_classes_table.specs.Table.{Table, Heading, Method, fields_of}
use Rattle.kr_mean.specs.Places.{SlotPlace, This, Parameter, At}
use Rattle.kr_mean.specs.Problem.{Problem, DomainObject, all_objects, domain_at, slot_at}
use Rattle.kr_mean.specs.Heaps.{distinct, is_same_object, is_owner}
use Rattle.kr_mean.specs.Runs.{tested_method}
use Rattle.kr_mean.specs.declared.kind.Kind.{Kind}
use Rattle.kr_mean.specs.declared.kind.Kind.TheVariants.{NullPointerException, ArithmeticException, ArrayIndexOutOfBoundsException, NegativeArraySizeException, ClassCastException, NoSuchElementException, Thrown, NoReturn, ArrayTooLong}
use Rattle.kr_mean.specs.declared.kind.Verdict.{Verdict}
use Rattle.kr_mean.specs.declared.kind.Verdict.TheVariants.{Pass, Ensures, Signals, RepOk, Trap, CheckTrap, Spent as OutOfFuel}
use Rattle.kr_mean.specs.declared.row.Row.{Row}
use Rattle.kr_value.specs.declared.object.Class.{Class}
use Rattle.kr_value.specs.declared.object.Class.TheVariants.{Object, Array}
use Rattle.kr_value.specs.declared.object.Spot.{Spot}
use Rattle.kr_value.specs.declared.object.Spot.TheVariants.{Field, Length, Element}
use Rattle.kr_value.specs.declared.value.Value.{Value}
use Rattle.kr_value.specs.declared.value.Value.TheVariants.{Int, Bool as Truth, Null, Ref as Reference}

-- texts with another between each two
abbrev pub behind : List ℕ → List (List ℕ) → List ℕ
behind between [] = []
behind between (t ∷ ts) = between ++ t ++ behind between ts

abbrev pub joined_by : List ℕ → List (List ℕ) → List ℕ
joined_by between [] = []
joined_by between (t ∷ ts) = t ++ behind between ts

-- ---- structures

abbrev pub no_domain_object : DomainObject
no_domain_object = record { domain = 0; number = 0 }

-- `Class#k`
abbrev pub object_name : Problem → DomainObject → List ℕ
object_name problem o = (domain_at problem o.domain).name ++ codes "#" ++ decimal o.number

abbrev pub value_text : Problem → Value → List ℕ
value_text problem (Int n) = signed_decimal n
value_text problem (Truth true) = codes "true"
value_text problem (Truth false) = codes "false"
value_text problem Null = codes "null"
value_text problem (Reference o) = object_name problem (get_or (all_objects problem) o no_domain_object)

-- the names of the parameters of the method under test
abbrev pub parameter_names : Option Method → List (List ℕ)
parameter_names None = []
parameter_names (Some m) = map (λ p. p.name) m.parameters

abbrev pub tested_parameters : Problem → List (List ℕ)
tested_parameters problem = parameter_names (tested_method problem problem.mode)

-- `x=value` of a parameter
abbrev pub parameter_text : Problem → Value → SlotPlace → List (List ℕ)
parameter_text problem v (Parameter i) = (get_or (tested_parameters problem) i [] ++ codes "=" ++ value_text problem v) ∷ []
parameter_text problem v This = []
parameter_text problem v (At o spot) = []

-- the names of the fields of a class's objects
abbrev pub field_names : Table → Class → List (List ℕ)
field_names table (Object c) = map (λ f. f.name) (fields_of table c)
field_names table class = []

-- of a field `f=value`, of an element the value
abbrev pub spot_text : Problem → Class → Value → Spot → List (List ℕ)
spot_text problem class v (Field f) = (get_or (field_names problem.program.table class) f [] ++ codes "=" ++ value_text problem v) ∷ []
spot_text problem class v Length = []
spot_text problem class v (Element i) = value_text problem v ∷ []

abbrev pub part_text : Problem → Class → Value → SlotPlace → List (List ℕ)
part_text problem class v This = []
part_text problem class v (Parameter i) = []
part_text problem class v (At o spot) = spot_text problem class v spot

-- what a structure has of an object
abbrev pub parts_of : Problem → List (ℕ × Value) → DomainObject → List (List ℕ)
parts_of problem structure o =
    flat_map (λ (p : ℕ × Value). if is_owner o (slot_at problem p.0).owner then part_text problem (domain_at problem o.domain).class p.1 (slot_at problem p.0).place else []) structure

abbrev pub in_brackets : Class → List ℕ → List ℕ
in_brackets (Array t) text = codes "[" ++ text ++ codes "]"
in_brackets class text = codes "{" ++ text ++ codes "}"

-- `Class#k{f=value,f=value}`, or of an array `int[]#k[value,value]`
abbrev pub object_text : Problem → List (ℕ × Value) → DomainObject → List ℕ
object_text problem structure o =
    object_name problem o ++ in_brackets (domain_at problem o.domain).class (joined_by (codes ",") (parts_of problem structure o))

abbrev pub objects_in : Problem → Value → List DomainObject
objects_in problem (Reference o) = get_or (all_objects problem) o no_domain_object ∷ []
objects_in problem (Int n) = []
objects_in problem (Truth b) = []
objects_in problem Null = []

-- the objects of a structure, in the order in which it names them
abbrev pub objects_named : Problem → List (ℕ × Value) → List DomainObject
objects_named problem structure = distinct is_same_object (flat_map (λ (p : ℕ × Value). objects_in problem p.1) structure)

abbrev pub in_parentheses : List (List ℕ) → List ℕ
in_parentheses [] = []
in_parentheses (t ∷ ts) = codes "(" ++ joined_by (codes ",") (t ∷ ts) ++ codes ") "

-- the parameters, where there are any, and the reachable objects, parted by one space
unfoldable pub structure_text : Problem → List (ℕ × Value) → List ℕ
structure_text problem structure =
    in_parentheses (flat_map (λ (p : ℕ × Value). parameter_text problem p.1 (slot_at problem p.0).place) structure)
    ++ joined_by (codes " ") (map (object_text problem structure) (objects_named problem structure))

-- ---- lines

-- in place of no class, which isn't asked for
abbrev pub throwable : Heading
throwable = record { name = codes "Throwable"; place = nowhere; outer = None; extended = Nil; members = [] }

-- the simple name of a class whose object is thrown
abbrev pub thrown_name : List Heading → ℕ → List ℕ
thrown_name classes c = (get_or classes c throwable).name

abbrev pub trap_text : List Heading → Kind → List ℕ
trap_text classes NullPointerException = codes "NullPointerException"
trap_text classes ArithmeticException = codes "ArithmeticException"
trap_text classes ArrayIndexOutOfBoundsException = codes "ArrayIndexOutOfBoundsException"
trap_text classes NegativeArraySizeException = codes "NegativeArraySizeException"
trap_text classes ClassCastException = codes "ClassCastException"
trap_text classes NoSuchElementException = codes "NoSuchElementException"
trap_text classes (Thrown c) = thrown_name classes c
trap_text classes NoReturn = codes "NoReturn"
trap_text classes ArrayTooLong = codes "ArrayTooLong"

-- a verdict and a space; nothing in a listing
abbrev pub verdict_text : List Heading → Option Verdict → List ℕ
verdict_text classes None = []
verdict_text classes (Some Pass) = codes "pass "
verdict_text classes (Some (Ensures n)) = codes "ensures " ++ decimal n ++ codes " "
verdict_text classes (Some (Signals n)) = codes "signals " ++ decimal n ++ codes " "
verdict_text classes (Some RepOk) = codes "repOk "
verdict_text classes (Some (Trap kind)) = codes "trap " ++ trap_text classes kind ++ codes " "
verdict_text classes (Some (CheckTrap kind)) = codes "check-trap " ++ trap_text classes kind ++ codes " "
verdict_text classes (Some OutOfFuel) = codes "spent "

-- `KEY STRUCTURE`, of a test `KEY VERDICT STRUCTURE`
abbrev pub row_text : Problem → Row → List ℕ
row_text problem row = cut_text row.key ++ codes " " ++ verdict_text problem.program.table.headings row.verdict ++ structure_text problem row.structure ++ codes "\n"

-- ---- the last line
abbrev pub listed_text : ℕ → ℕ → List ℕ
listed_text valid tried = codes "valid " ++ decimal (capped valid) ++ codes " tried " ++ decimal (capped tried) ++ codes "\n"

abbrev pub tested_text : ℕ → ℕ → ℕ → List ℕ
tested_text valid failing tried = codes "valid " ++ decimal (capped valid) ++ codes " failing " ++ decimal (capped failing) ++ codes " tried " ++ decimal (capped tried) ++ codes "\n"

abbrev pub more_text : List ℕ → List ℕ
more_text key = codes "more " ++ cut_text key ++ codes "\n"

abbrev pub spent_text : List ℕ → List ℕ
spent_text key = codes "spent " ++ cut_text key ++ codes "\n"

abbrev pub checked_text : ℕ → ℕ → List ℕ
checked_text classes slots = codes "ok classes " ++ decimal classes ++ codes " slots " ++ decimal slots ++ codes "\n"

-- `nodes N valid V`
abbrev pub counted_text : ℕ → ℕ → List ℕ
counted_text nodes valid = codes "nodes " ++ decimal nodes ++ codes " valid " ++ decimal valid ++ codes "\n"

abbrev pub usage_text : List ℕ
usage_text = codes "usage fault\n"

abbrev pub read_fault_text : List ℕ → List ℕ
read_fault_text name = codes "read fault " ++ name ++ codes "\n"

abbrev pub memory_text : List ℕ
memory_text = codes "out of memory\n"
