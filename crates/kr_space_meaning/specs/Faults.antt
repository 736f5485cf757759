-- To be believed: which rules a document breaks for a program and a mode, each with the item that breaks it: all of them, in no
-- order that matters. A domain is judged where it is given, whether a slot has it or not.
use Rattle.std.specs.Prelude.{ℕ, ℤ, ◌+◌, ◌==◌, Bool, true, false, not, ◌&&◌, ◌||◌, List, [], ◌∷◌, ◌++◌, length, flat_map, nat_lt, codes, Option, Some, None, is_none, if◌then◌else◌}
use Rattle.std.specs.Int.Signed.{le_z}
use Rattle.std.specs.List.{list_any}
use Rattle.kr_classes_table.specs.Numbers.{is_within}
use Rattle.kr_classes_table.specs.Types.{JavaType, NumberType, BooleanType, ClassType, is_same, is_reference}
use Rattle.kr_classes_table.specs.Predefined.{is_predefined}
use Rattle.kr_classes_table.specs.Table.{Table, Heading, Parameter, Method, fields_of, number_of, is_assignable}
use Rattle.kr_mean.specs.Collections.{is_same_value}
use Rattle.kr_mean.specs.declared.mode.Mode.{Mode}
use Rattle.kr_mean.specs.declared.mode.Mode.TheVariants.{List as Listing, Method as Testing}
use Rattle.kr_mean.specs.Problem.{Problem, Choice, slots, choices_in, domain_at}
use Rattle.kr_fin.specs.declared.document.Count.{Count}
use Rattle.kr_fin.specs.declared.document.ArrayBound.{ArrayBound}
use Rattle.kr_fin.specs.declared.document.NamedDomain.{NamedDomain}
use Rattle.kr_fin.specs.declared.document.Item.{Item}
use Rattle.kr_fin.specs.declared.document.Item.TheVariants.{Number, Range, Truth as FinTruth, Name}
use Rattle.kr_space_meaning.specs.declared.refusal.SpaceRule.TheVariants.{UnknownName, NoDomain, EmptyDomain, UnfitValue, ValueTwice, TooMany, NoPredicate, NoMethod, NoSlot}
use Rattle.kr_space_meaning.specs.Names.{Meant, NoReference, Objects, Arrays, Unknown, array_type, class_of, meant, names_domains}
use Rattle.kr_fin.specs.declared.document.FinDoc.{FinDoc}
use Rattle.kr_space_meaning.specs.Bounds.{Setting, root_of, tested_parameters, parameter_key, given, values_of, lengths_of, field_key, elements_key, greatest}
use Rattle.kr_space_meaning.specs.Keys.{is_elements, owner_part, field_type, method_at, parameter_type}
use Rattle.kr_space_meaning.specs.Order.{Fault, break_if}

abbrev Text : Type 0
Text = List ℕ

-- ---- items: a table's name with a dot, and a key of the table

abbrev pub of_fields : Text → Text
of_fields key = codes "fields." ++ key

abbrev pub of_params : Text → Text
of_params key = codes "params." ++ key

abbrev pub of_arrays : Text → Text
of_arrays name = codes "arrays." ++ name

abbrev pub of_objects : Text → Text
of_objects name = codes "objects." ++ name

-- ---- S1: names

abbrev pub is_unknown : Meant → Bool
is_unknown Unknown = true
is_unknown m = false

-- the name is a predefined class's, of which no domain has objects; in version 2 names are those of object domains
abbrev pub names_predefined : FinDoc → Text → Bool
names_predefined document name = not (names_domains document) && is_predefined name

abbrev pub names_unknown : List Heading → FinDoc → Item → Bool
names_unknown hs document (Name name) = is_unknown (meant hs document name) || names_predefined document name
names_unknown hs document item = false

-- the root is a class in version 1, and an object domain or an array type in version 2
abbrev pub root_unknown : List Heading → FinDoc → Bool
root_unknown hs document =
    is_none (class_of hs document document.root) && (not (names_domains document) || is_none (array_type hs document.root))

-- the text before the dot is no class, or before `.*` no array type
abbrev pub owner_unknown : List Heading → Text → Bool
owner_unknown hs key =
    if is_elements key then is_none (array_type hs (owner_part key)) else is_none (number_of hs (owner_part key))

-- no class of the files has the name
abbrev pub class_unknown : List Heading → Text → Bool
class_unknown hs name = is_none (number_of hs name) || is_predefined name

abbrev pub objects_unknown : List Heading → List Count → List Fault
objects_unknown hs counts = flat_map (λ c. break_if (class_unknown hs c.class) UnknownName (of_objects c.name)) counts

abbrev pub arrays_unknown : List Heading → List ArrayBound → List Fault
arrays_unknown hs bounds = flat_map (λ b. break_if (is_none (array_type hs b.name)) UnknownName (of_arrays b.name)) bounds

abbrev pub owners_unknown : List Heading → List NamedDomain → List Fault
owners_unknown hs domains = flat_map (λ d. break_if (owner_unknown hs d.key) UnknownName (of_fields d.key)) domains

-- a domain of a table that has a name that stands for nothing among its values
abbrev pub value_unknown : List Heading → FinDoc → Text → NamedDomain → List Fault
value_unknown hs document table d = break_if (list_any (names_unknown hs document) d.domain) UnknownName (table ++ d.key)

abbrev pub values_unknown : List Heading → FinDoc → Text → List NamedDomain → List Fault
values_unknown hs document table domains = flat_map (value_unknown hs document table) domains

abbrev pub S1 : Setting → List Fault
S1 setting =
    break_if (root_unknown setting.table.headings setting.document) UnknownName (codes "root")
    ++ (objects_unknown setting.table.headings setting.document.objects
    ++ (arrays_unknown setting.table.headings setting.document.arrays
    ++ (owners_unknown setting.table.headings setting.document.fields
    ++ (values_unknown setting.table.headings setting.document (codes "fields.") setting.document.fields
    ++ values_unknown setting.table.headings setting.document (codes "params.") setting.document.params))))

-- ---- S2: each slot has a domain

-- no domain is given for a key of a table
abbrev pub no_domain : Text → List NamedDomain → Text → List Fault
no_domain table domains key = break_if (is_none (given domains key)) NoDomain (table ++ key)

-- the fields of the objects of a domain
abbrev pub object_S2 : Setting → ℕ × Count → List Fault
object_S2 setting o = flat_map (λ f. no_domain (codes "fields.") setting.document.fields (field_key setting.table f)) (fields_of setting.table o.0)

-- the elements of an array type that has arrays with elements
abbrev pub array_S2 : Setting → JavaType × ArrayBound → List Fault
array_S2 setting a =
    if nat_lt 0 a.1.count && nat_lt 0 (greatest (lengths_of setting a.1.lengths))
    then no_domain (codes "fields.") setting.document.fields (elements_key a.1.name)
    else []

abbrev pub parameter_S2 : Setting → Mode → Parameter → List Fault
parameter_S2 setting mode p = no_domain (codes "params.") setting.document.params (parameter_key mode p)

abbrev pub S2 : Setting → Mode → List Fault
S2 setting mode =
    flat_map (object_S2 setting) setting.objects
    ++ (flat_map (array_S2 setting) setting.arrays
    ++ flat_map (parameter_S2 setting mode) (tested_parameters setting mode))

-- ---- S3, S5, S6: how many values, and each once

abbrev pub has_twice : List Choice → Bool
has_twice [] = false
has_twice (c ∷ cs) = list_any (λ d. is_same_value c.value d.value) cs || has_twice cs

-- S3: no value; S5: a value twice; S6: more values than a domain may have
abbrev pub number_faults : Text → List Choice → List Fault
number_faults item choices =
    break_if (length choices == 0) EmptyDomain item
    ++ (break_if (has_twice choices) ValueTwice item
    ++ break_if (nat_lt 65536 (length choices)) TooMany item)

-- of the domains of a table, whose keys require types
abbrev pub numbers_of : Problem → Setting → (Text → Option JavaType) → Text → List NamedDomain → List Fault
numbers_of problem setting asked table domains = flat_map (λ d. number_faults (table ++ d.key) (choices_in problem (values_of setting (asked d.key) d.domain))) domains

-- of lengths
abbrev pub numbers_of_lengths : Problem → Setting → List ArrayBound → List Fault
numbers_of_lengths problem setting bounds = flat_map (λ b. number_faults (of_arrays b.name) (choices_in problem (lengths_of setting b.lengths))) bounds

-- each domain that is given, the objects of the root, and the slots
abbrev pub S3_S5_S6 : Problem → Setting → List Fault
S3_S5_S6 problem setting =
    numbers_of problem setting (field_type setting.table) (codes "fields.") setting.document.fields
    ++ (numbers_of problem setting (parameter_type setting.table (root_of setting)) (codes "params.") setting.document.params
    ++ (numbers_of_lengths problem setting setting.document.arrays
    ++ (break_if ((domain_at problem problem.root).count == 0) EmptyDomain (codes "this")
    ++ break_if (nat_lt 4096 (length (slots problem))) TooMany (codes "slots"))))

-- ---- S4: values fit their types

abbrev pub meant_fits : Table → JavaType → Meant → Bool
meant_fits table t NoReference = is_reference t
meant_fits table t (Objects c) = is_assignable table (ClassType c) t
meant_fits table t (Arrays a) = is_assignable table a t
meant_fits table t Unknown = true

-- a number of the type's width
abbrev pub number_fits : JavaType → ℤ → Bool
number_fits (NumberType w) z = is_within w z
number_fits t z = false

-- a range that is empty has no value that could be unfit, and of others the ends say it; a name is judged also where it has no objects
abbrev pub fits : Table → FinDoc → JavaType → Item → Bool
fits table document t (Number z) = number_fits t z
fits table document t (Range from to) = not (le_z from to) || (number_fits t from && number_fits t to)
fits table document t (FinTruth b) = is_same t BooleanType
fits table document t (Name name) = meant_fits table t (meant table.headings document name)

abbrev pub is_unfit : Table → FinDoc → Option JavaType → List Item → Bool
is_unfit table document None items = false
is_unfit table document (Some t) items = list_any (λ i. not (fits table document t i)) items

abbrev pub fields_unfit : Table → FinDoc → List NamedDomain → List Fault
fields_unfit table document domains = flat_map (λ d. break_if (is_unfit table document (field_type table d.key) d.domain) UnfitValue (of_fields d.key)) domains

abbrev pub params_unfit : Table → FinDoc → Option ℕ → List NamedDomain → List Fault
params_unfit table document root domains = flat_map (λ d. break_if (is_unfit table document (parameter_type table root d.key) d.domain) UnfitValue (of_params d.key)) domains

abbrev pub S4 : Setting → List Fault
S4 setting =
    fields_unfit setting.table setting.document setting.document.fields
    ++ params_unfit setting.table setting.document (root_of setting) setting.document.params

-- ---- S7, S8: the predicate and the method under test

abbrev pub is_predicate : Option Method → Bool
is_predicate None = false
is_predicate (Some m) = not m.is_static && (length m.parameters == 0) && is_same m.result BooleanType

abbrev pub is_instance : Option Method → Bool
is_instance None = false
is_instance (Some m) = not m.is_static

abbrev pub S7 : Setting → List Fault
S7 setting = break_if (not (is_predicate (method_at setting.table (root_of setting) (codes "repOk")))) NoPredicate (codes "root")

abbrev pub S8 : Setting → Mode → List Fault
S8 setting Listing = []
S8 setting (Testing name) = break_if (not (is_instance (method_at setting.table (root_of setting) name))) NoMethod (codes "method")

-- ---- S9: each domain is a field's, elements' or a parameter's

abbrev pub is_no_field : Table → Text → Bool
is_no_field table key = is_none (field_type table key) && not (owner_unknown table.headings key)

abbrev pub no_fields : Table → List NamedDomain → List Fault
no_fields table domains = flat_map (λ d. break_if (is_no_field table d.key) NoSlot (of_fields d.key)) domains

abbrev pub no_params : Table → Option ℕ → List NamedDomain → List Fault
no_params table root domains = flat_map (λ d. break_if (is_none (parameter_type table root d.key)) NoSlot (of_params d.key)) domains

abbrev pub S9 : Setting → List Fault
S9 setting = no_fields setting.table setting.document.fields ++ no_params setting.table (root_of setting) setting.document.params

-- ---- the whole

unfoldable pub faults_in : Problem → Setting → Mode → List Fault
faults_in problem setting mode =
    S1 setting ++ (S2 setting mode ++ (S3_S5_S6 problem setting ++ (S4 setting
    ++ (S7 setting ++ (S8 setting mode ++ S9 setting)))))
