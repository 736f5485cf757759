-- Between crates: resolution of nodes in terms of the typing rules, once for all later stages.
use Rattle.std.specs.Prelude.{ℕ, List, if◌then◌else◌, Option, Some, None, option_and_then}
use Rattle.kr_ast.specs.Tree as trees
use Rattle.kr_ast.specs.Tree.{Tree}
use Rattle.kr_classes_table.specs.Types.{JavaType, ClassType, SetType, ListType}
use Rattle.kr_classes_table.specs.Table.{Table, Field, Method, field_named, method_named, number_of}
use Rattle.kr_classes_table.specs.Constants.{constant_of}
use Rattle.kr_types_meaning.specs.Scopes.{Scope, Meant, LocalName, FieldName, NoName, written, meant, class_before, static_only, method_meant, super_class}
use Rattle.kr_types_meaning.specs.Typing.{type_of}

pub data Meaning : Type 0 where
  Nothing : Meaning
  -- a local or parameter, by the number of those that are declared before it
  Local : ℕ → Meaning
  -- a field that objects have, and one that none has
  Instance : Field → Meaning
  Constant : Field → Meaning
  -- a class, by a name that means nothing else
  Class : ℕ → Meaning
  -- a method: that of the object's class or this very one, a static one, that of the superclass
  Virtual : Method → Meaning
  Static : Method → Meaning
  Super : Method → Meaning
  -- a creation: of an object of a class, or of a collection
  New : ℕ → Meaning
  NewSet : Meaning
  NewList : Meaning

abbrev pub field_meaning : Option Field → Meaning
field_meaning None = Nothing
field_meaning (Some f) = if f.is_static then Constant f else Instance f

abbrev pub class_meaning : Option ℕ → Meaning
class_meaning None = Nothing
class_meaning (Some c) = Class c

abbrev pub name_meaning : Table → List ℕ → Meant → Meaning
name_meaning t n (LocalName k type) = Local k
name_meaning t n (FieldName f) = field_meaning (Some f)
name_meaning t n NoName = class_meaning (number_of t.headings n)

abbrev pub method_meaning : Option Method → Meaning
method_meaning None = Nothing
method_meaning (Some m) = if m.is_static then Static m else Virtual m

abbrev pub super_meaning : Option Method → Meaning
super_meaning None = Nothing
super_meaning (Some m) = Super m

abbrev pub creation_meaning : JavaType → Meaning
creation_meaning (ClassType c) = New c
creation_meaning (SetType t) = NewSet
creation_meaning (ListType t) = NewList
creation_meaning t = Nothing

-- the class of an object of this type
abbrev pub object_class : Option JavaType → Option ℕ
object_class (Some (ClassType c)) = Some c
object_class o = None

abbrev pub field_of : Table → List ℕ → Option ℕ → Option Field
field_of t n c = option_and_then (λ d. field_named t d n) c

abbrev pub method_of : Table → List ℕ → Option ℕ → Option Method
method_of t n c = option_and_then (λ d. method_named t d n) c

-- a field that objects have
abbrev pub instance_only : Field → Option Field
instance_only f = if f.is_static then None else Some f

-- after a dot: a constant or static method of the class before it, a field or method of the object
abbrev pub field_behind : Table → List ℕ → Option ℕ → Option ℕ → Meaning
field_behind t n (Some c) o = field_meaning (constant_of t (Some c) n)
field_behind t n None o = field_meaning (option_and_then instance_only (field_of t n o))

abbrev pub method_behind : Table → List ℕ → Option ℕ → Option ℕ → Meaning
method_behind t n (Some c) o = method_meaning (option_and_then static_only (method_named t c n))
method_behind t n None o = method_meaning (method_of t n o)

-- the meaning of a node, if the object before its dot has this type
abbrev pub meaning_by : Scope → Tree → Option JavaType → Meaning
meaning_by s (trees.Variable p n) o = name_meaning s.table n (meant s n)
meaning_by s (trees.FieldAccess p e n) o = field_behind s.table n (class_before s e) (object_class o)
meaning_by s (trees.Call p n es) o = method_meaning (method_meant s n)
meaning_by s (trees.MethodCall p e n es) o = method_behind s.table n (class_before s e) (object_class o)
meaning_by s (trees.SuperCall p n es) o = super_meaning (method_of s.table n (super_class s))
meaning_by s (trees.ObjectCreation p t es) o = creation_meaning (written s t)
meaning_by s _ o = Nothing

abbrev pub object_type : Scope → Tree → Option JavaType
object_type s (trees.FieldAccess p e n) = type_of s e
object_type s (trees.MethodCall p e n es) = type_of s e
object_type s _ = None

-- the meaning of a node in a scope
abbrev pub meaning : Scope → Tree → Meaning
meaning s t = meaning_by s t (object_type s t)

-- the class that it means, if it means one
abbrev pub class_meant : Meaning → Option ℕ
class_meant (Class c) = Some c
class_meant m = None

-- the method that is called; that of the superclass
abbrev pub method_in : Meaning → Option Method
method_in (Virtual m) = Some m
method_in (Static m) = Some m
method_in x = None

abbrev pub super_in : Meaning → Option Method
super_in (Super m) = Some m
super_in x = None

-- the field, or the constant
abbrev pub instance_in : Meaning → Option Field
instance_in (Instance f) = Some f
instance_in x = None

abbrev pub constant_in : Meaning → Option Field
constant_in (Constant f) = Some f
constant_in x = None
