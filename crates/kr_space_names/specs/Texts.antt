-- Between crates: the types of texts.
use Rattle.std.specs.Prelude.{ℕ, List, [], ◌∷◌, Option, Some, None, option_map}
use Rattle.kr_classes_table.specs.Types.{JavaType, ArrayType, SetType, ListType}
use Rattle.kr_space_meaning.specs.Names.{Written, ArrayOf, SetOf, ListOf, of_elements}
use Rattle.kr_classes_names.specs.Types.{TypeList, IsTypeNumber}
use Rattle.kr_space_names.specs.declared.wrapping.Wrapping.{Wrapping}
use Rattle.kr_space_names.specs.declared.wrapping.Wrapping.TheVariants as wrappings

-- how a text is written that is an array type's, or a collection's, of another
abbrev pub peeled : Wrapping → List ℕ → Written
peeled wrappings.Array text = ArrayOf text
peeled wrappings.Set text = SetOf text
peeled wrappings.List text = ListOf text

-- an array type, or a collection, of a type; a collection only of one that may be in it
abbrev pub wrap : Wrapping → Option JavaType → Option JavaType
wrap wrappings.Array t = option_map ArrayType t
wrap wrappings.Set t = of_elements SetType t
wrap wrappings.List t = of_elements ListType t

-- the outermost first
abbrev pub wrapped : List Wrapping → Option JavaType → Option JavaType
wrapped [] t = t
wrapped (w ∷ ws) t = wrap w (wrapped ws t)

-- the number is that of the type, if there is one
abbrev pub Stands : TypeList → Option ℕ → Option JavaType → Type 0
Stands types None None = Unit {0}
Stands types (Some n) (Some t) = IsTypeNumber types n t
Stands types _ _ = ⊥
