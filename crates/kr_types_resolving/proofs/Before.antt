-- The class before a dot, by the meaning of the node before it.
use Rattle.std.proofs.Common.{◌≡◌, refl, ℕ, Bool, true, false, cond, List}
use Rattle.std.specs.Prelude.{Option, Some, None, option_and_then}
use Rattle.kr_ast.specs.Tree as trees
use Rattle.kr_ast.specs.Tree.{Tree}
use Rattle.kr_classes_table.specs.Types.{JavaType, ClassType, SetType, ListType}
use Rattle.kr_classes_table.specs.Table.{Table, Field, Method, method_named, number_of}
use Rattle.kr_classes_table.specs.Constants.{constant_of}
use Rattle.kr_types_meaning.specs.Scopes.{Scope, Meant, LocalName, FieldName, NoName, written, meant, class_before, class_if_none, method_meant, static_only, super_class, value}
use Rattle.kr_types_resolving.specs.Meanings.{Constant, Instance, Static, Virtual, class_meaning, class_meant, creation_meaning, field_behind, field_meaning, field_of, instance_only, meaning_by, method_behind, method_meaning, method_of, name_meaning, object_class, super_meaning}

no_field : (f : Option Field) → class_meant (field_meaning f) ≡ None
no_field None = refl
no_field (Some f) = go f.is_static
  where
    go : (b : Bool) → class_meant (cond b (Constant f) (Instance f)) ≡ None
    go true = refl
    go false = refl

no_method : (m : Option Method) → class_meant (method_meaning m) ≡ None
no_method None = refl
no_method (Some m) = go m.is_static
  where
    go : (b : Bool) → class_meant (cond b (Static m) (Virtual m)) ≡ None
    go true = refl
    go false = refl

field_no_class : (t : Table) (n : List ℕ) (b o : Option ℕ) → class_meant (field_behind t n b o) ≡ None
field_no_class t n (Some c) o = no_field (constant_of t (Some c) n)
field_no_class t n None o = no_field (option_and_then instance_only (field_of t n o))

method_no_class : (t : Table) (n : List ℕ) (b o : Option ℕ) → class_meant (method_behind t n b o) ≡ None
method_no_class t n (Some c) o = no_method (option_and_then static_only (method_named t c n))
method_no_class t n None o = no_method (method_of t n o)

no_super : (m : Option Method) → class_meant (super_meaning m) ≡ None
no_super None = refl
no_super (Some m) = refl

no_creation : (t : JavaType) → class_meant (creation_meaning t) ≡ None
no_creation (ClassType c) = refl
no_creation (SetType t) = refl
no_creation (ListType t) = refl
no_creation _ = refl

a_class : (c : Option ℕ) → class_meant (class_meaning c) ≡ c
a_class None = refl
a_class (Some c) = refl

a_name : (s : Scope) (n : List ℕ) (m : Meant) → class_meant (name_meaning s.table n m) ≡ class_if_none s n m
a_name s n (LocalName k t) = refl
a_name s n (FieldName f) = no_field (Some f)
a_name s n NoName = a_class (number_of s.table.headings n)

pub before_meant : (s : Scope) (e : Tree) (o : Option JavaType) → class_meant (meaning_by s e o) ≡ class_before s e
before_meant s (trees.Variable p n) o = a_name s n (meant s n)
before_meant s (trees.FieldAccess p e n) o = field_no_class s.table n (class_before s e) (object_class o)
before_meant s (trees.Call p n es) o = no_method (method_meant s n)
before_meant s (trees.MethodCall p e n es) o = method_no_class s.table n (class_before s e) (object_class o)
before_meant s (trees.SuperCall p n es) o = no_super (method_of s.table n (super_class s))
before_meant s (trees.ObjectCreation p t es) o = no_creation (written s t)
before_meant s _ o = refl

-- in the role of a value or not
pub before_value : (s : Scope) (e : Tree) → class_before (value s) e ≡ class_before s e
before_value s (trees.Variable p n) = refl
before_value s _ = refl
