-- To be believed: what the names of a finitization mean: classes by their simple names (version 1), or object domains by theirs
-- (version 2), and array types as they are written without spaces.
use Rattle.std.specs.Prelude.{ℕ, zero, suc, ◌+◌, ◌-◌, ◌==◌, Bool, ◌&&◌, List, length, take, drop, find, nat_eq, bytes_eq, codes, Option, Some, None, option_map, option_and_then, if◌then◌else◌}
use Rattle.std.specs.List.{starts_with, ends_with}
use Rattle.kr_classes_table.specs.Types.{JavaType, int_type, long_type, BooleanType, ClassType, ArrayType, SetType, ListType, is_element}
use Rattle.kr_classes_table.specs.Table.{Heading, number_of}
use Rattle.kr_fin.specs.declared.document.Count.{Count}
use Rattle.kr_fin.specs.declared.document.FinDoc.{FinDoc}

abbrev Text : Type 0
Text = List ℕ

-- the text without so many bytes at its front and at its end
abbrev pub inside : ℕ → ℕ → Text → Text
inside front end text = take (length text - (front + end)) (drop front text)

-- the type in the brackets of a collection is a class or array type
abbrev pub of_elements : (JavaType → JavaType) → Option JavaType → Option JavaType
of_elements collection None = None
of_elements collection (Some t) = if is_element t then Some (collection t) else None

abbrev pub is_of : Text → Text → Bool
is_of collection text = starts_with nat_eq text collection && ends_with nat_eq text (codes ">")

-- how a type is written: as an array type of another, as a collection, or as a word
pub data Written : Type 0 where
  ArrayOf : Text → Written
  SetOf : Text → Written
  ListOf : Text → Written
  Word : Text → Written

abbrev pub written : Text → Written
written text =
    if ends_with nat_eq text (codes "[]") then ArrayOf (inside 0 2 text)
    else if is_of (codes "HashSet<") text then SetOf (inside 8 1 text)
    else if is_of (codes "LinkedList<") text then ListOf (inside 11 1 text)
    else Word text

-- `int`, `long`, `boolean` or a class
abbrev pub word_type : List Heading → Text → Option JavaType
word_type hs text =
    if bytes_eq text (codes "int") then Some int_type
    else if bytes_eq text (codes "long") then Some long_type
    else if bytes_eq text (codes "boolean") then Some BooleanType
    else option_map ClassType (number_of hs text)

-- the type that is written so, where the types of the texts in it are given
abbrev pub type_of : List Heading → (Text → Option JavaType) → Written → Option JavaType
type_of hs inner (ArrayOf text) = option_map ArrayType (inner text)
type_of hs inner (SetOf text) = of_elements SetType (inner text)
type_of hs inner (ListOf text) = of_elements ListType (inner text)
type_of hs inner (Word text) = word_type hs text

-- the type of a text with at most n types in it; there are no more than bytes
abbrev pub type_within : ℕ → List Heading → Text → Option JavaType
type_within zero hs text = None
type_within (suc n) hs text = type_of hs (type_within n hs) (written text)

abbrev pub array_or_none : Option JavaType → Option JavaType
array_or_none (Some (ArrayType t)) = Some (ArrayType t)
array_or_none t = None

-- the array type that a text names
unfoldable pub array_type : List Heading → Text → Option JavaType
array_type hs text = array_or_none (type_within (length text) hs text)

-- names are those of object domains, else of classes
abbrev pub names_domains : FinDoc → Bool
names_domains document = document.version == 2

abbrev pub line_of : List Count → Text → Option Count
line_of counts name = find (λ c. bytes_eq c.name name) counts

-- the class of the objects that a name stands for: that of the object domain of this name, or the class of this name
unfoldable pub class_of : List Heading → FinDoc → Text → Option ℕ
class_of hs document name =
    if names_domains document then option_and_then (λ c. number_of hs c.class) (line_of document.objects name)
    else number_of hs name

-- what a name in a domain stands for: null, objects of a class, arrays of a type, or nothing
pub data Meant : Type 0 where
  NoReference : Meant
  Objects : ℕ → Meant
  Arrays : JavaType → Meant
  Unknown : Meant

abbrev pub array_meant : Option JavaType → Meant
array_meant (Some t) = Arrays t
array_meant None = Unknown

abbrev pub class_meant : List Heading → Text → Option ℕ → Meant
class_meant hs text (Some c) = Objects c
class_meant hs text None = array_meant (array_type hs text)

unfoldable pub meant : List Heading → FinDoc → Text → Meant
meant hs document text = if bytes_eq text (codes "null") then NoReference else class_meant hs text (class_of hs document text)
