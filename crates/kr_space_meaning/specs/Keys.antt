-- To be believed: the keys of domains, and the types of the values that they require.
use Rattle.std.specs.Prelude.{ℕ, Bool, List, [], find, bytes_eq, codes, Option, Some, None, option_map, option_and_then, if◌then◌else◌}
use Rattle.std.specs.List.{before_first, after_first}
use Rattle.kr_classes_table.specs.Types.{JavaType, ArrayType}
use Rattle.kr_classes_table.specs.Table.{Table, Field, Parameter, Method, method_named, own_fields, number_of}
use Rattle.kr_fin.specs.Shapes.{is_dot}
use Rattle.kr_space_meaning.specs.Names.{array_type}

abbrev Text : Type 0
Text = List ℕ

-- the two parts of a domain's key
abbrev pub owner_part : Text → Text
owner_part key = before_first is_dot key

abbrev pub name_part : Text → Text
name_part key = after_first is_dot key

abbrev pub is_elements : Text → Bool
is_elements key = bytes_eq (name_part key) (codes "*")

abbrev pub element_of : Option JavaType → Option JavaType
element_of (Some (ArrayType t)) = Some t
element_of t = None

abbrev pub instance_type : Field → Option JavaType
instance_type f = if f.is_static then None else Some f.type

-- the type of the instance field of that name that a class itself declares
abbrev pub own_field_type : Table → Text → Option ℕ → Option JavaType
own_field_type table name None = None
own_field_type table name (Some c) = option_and_then instance_type (find (λ f. bytes_eq f.name name) (own_fields table c))

-- the type of the values that a key of `fields` requires, if there is such a field, or if it names an array type's elements
abbrev pub field_type : Table → Text → Option JavaType
field_type table key =
    if is_elements key then element_of (array_type table.headings (owner_part key))
    else own_field_type table (name_part key) (number_of table.headings (owner_part key))

abbrev pub method_at : Table → Option ℕ → Text → Option Method
method_at table None name = None
method_at table (Some c) name = method_named table c name

abbrev pub instance_alone : Option Method → Option Method
instance_alone None = None
instance_alone (Some m) = if m.is_static then None else Some m

abbrev pub parameters_of : Option Method → List Parameter
parameters_of None = []
parameters_of (Some m) = m.parameters

-- the type of the values that a key of `params` requires, if there is such a parameter of a method of the root
abbrev pub parameter_type : Table → Option ℕ → Text → Option JavaType
parameter_type table root key =
    option_map (λ p. p.type) (find (λ p. bytes_eq p.name (name_part key)) (parameters_of (method_at table root (owner_part key))))
