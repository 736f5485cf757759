-- The items that a meaning refers to.
use Rattle.std.proofs.Common.{◌≡◌, refl, sym, ap, ◌∙◌, ℕ, Bool, true, false, cond, List, []}
use Rattle.std.specs.Prelude.{Option, Some, None, option_and_then}
use Rattle.kr_base.specs.declared.place.Place.{Place}
use Rattle.kr_ast.specs.Tree as trees
use Rattle.kr_ast.specs.Tree.{Tree}
use Rattle.kr_classes_table.specs.Types.{JavaType}
use Rattle.kr_classes_table.specs.Table.{Table, Field, Method, field_named, method_named, number_of}
use Rattle.kr_classes_table.specs.Constants.{constant_of, constant_only}
use Rattle.kr_types_meaning.specs.Scopes.{Scope, Meant, LocalName, FieldName, NoName, class_before, class_if_none, meant, static_only, value}
use Rattle.kr_types_meaning.specs.Rules.{name_rule}
use Rattle.kr_types_meaning.specs.Typing.{judge, judged, type_in, type_of}
use Rattle.kr_types_resolving.specs.Meanings.{Meaning, Local, Instance, Constant, Virtual, Static, class_meaning, constant_in, field_behind, field_meaning, field_of, instance_in, instance_only, meaning, method_behind, method_in, method_meaning, method_of, name_meaning, object_class, super_in, super_meaning}

-- ---- methods

pub method_law : (o : Option Method) → method_in (method_meaning o) ≡ o
method_law None = refl
method_law (Some m) = go m.is_static
  where
    go : (b : Bool) → method_in (cond b (Static m) (Virtual m)) ≡ Some m
    go true = refl
    go false = refl

pub super_law : (o : Option Method) → super_in (super_meaning o) ≡ o
super_law None = refl
super_law (Some m) = refl

-- how it is called
pub static_is : (o : Option Method) (m : Method) → Static m ≡ method_meaning o → m.is_static ≡ true
static_is None m e = absurd (cc (e))
static_is (Some k) m e = go k.is_static refl e
  where
    go : (b : Bool) → k.is_static ≡ b → Static m ≡ cond b (Static k) (Virtual k) → m.is_static ≡ true
    go true h e = let same : m ≡ k = cc in ap (λ (x : Method). x.is_static) same ∙ h
    go false h e = absurd (cc (e))

pub virtual_is : (o : Option Method) (m : Method) → Virtual m ≡ method_meaning o → m.is_static ≡ false
virtual_is None m e = absurd (cc (e))
virtual_is (Some k) m e = go k.is_static refl e
  where
    go : (b : Bool) → k.is_static ≡ b → Virtual m ≡ cond b (Static k) (Virtual k) → m.is_static ≡ false
    go true h e = absurd (cc (e))
    go false h e = let same : m ≡ k = cc in ap (λ (x : Method). x.is_static) same ∙ h

-- ---- fields and constants after a dot

pub constant_law : (o : Option Field) → constant_in (field_meaning (option_and_then constant_only o)) ≡ option_and_then constant_only o
constant_law None = refl
constant_law (Some f) = go f.is_static refl
  where
    go : (b : Bool) → f.is_static ≡ b → constant_in (field_meaning (cond b (Some f) None)) ≡ cond b (Some f) None
    go true h = ap (λ v. constant_in (cond v (Constant f) (Instance f))) h
    go false h = refl

pub instance_law : (o : Option Field) → instance_in (field_meaning (option_and_then instance_only o)) ≡ option_and_then instance_only o
instance_law None = refl
instance_law (Some f) = go f.is_static refl
  where
    go : (b : Bool) → f.is_static ≡ b → instance_in (field_meaning (cond b None (Some f))) ≡ cond b None (Some f)
    go true h = refl
    go false h = ap (λ v. instance_in (cond v (Constant f) (Instance f))) h

no_instance : (o : Option Field) → instance_in (field_meaning (option_and_then constant_only o)) ≡ None
no_instance None = refl
no_instance (Some f) = go f.is_static refl
  where
    go : (b : Bool) → f.is_static ≡ b → instance_in (field_meaning (cond b (Some f) None)) ≡ None
    go true h = ap (λ v. instance_in (cond v (Constant f) (Instance f))) h
    go false h = refl

pub constant_behind : (t : Table) (n : List ℕ) (b o : Option ℕ) (c : ℕ) → b ≡ Some c → constant_in (field_behind t n b o) ≡ constant_of t (Some c) n
constant_behind t n b o c e = ap (λ x. constant_in (field_behind t n x o)) e ∙ constant_law (field_named t c n)

pub static_behind : (t : Table) (n : List ℕ) (b o : Option ℕ) (c : ℕ) → b ≡ Some c → method_in (method_behind t n b o) ≡ option_and_then static_only (method_named t c n)
static_behind t n b o c e = ap (λ x. method_in (method_behind t n x o)) e ∙ method_law (option_and_then static_only (method_named t c n))

pub method_on_object : (t : Table) (n : List ℕ) (b o : Option ℕ) → b ≡ None → method_in (method_behind t n b o) ≡ method_of t n o
method_on_object t n b o e = ap (λ x. method_in (method_behind t n x o)) e ∙ method_law (method_of t n o)

-- a class is no value
pub class_untyped : (s : Scope) (e : Tree) (c : ℕ) → class_before s e ≡ Some c → type_of s e ≡ None
unfolding judged
class_untyped s (trees.Variable p n) c h = go (meant s n) h
  where
    go : (m : Meant) → class_if_none s n m ≡ Some c → type_in (judge p (name_rule (value s) m) []).typed ≡ None
    go (LocalName k t) h = absurd (cc (h))
    go (FieldName f) h = absurd (cc (h))
    go NoName h = refl
class_untyped s _ c h = absurd (cc (h))

-- the field after an object is the one of the object's type
pub instance_behind : (s : Scope) (p : Place) (e : Tree) (n : List ℕ) → instance_in (meaning s (trees.FieldAccess p e n)) ≡ option_and_then instance_only (field_of s.table n (object_class (type_of s e)))
instance_behind s p e n = go (class_before s e) refl
  where
    go : (b : Option ℕ) → class_before s e ≡ b → instance_in (field_behind s.table n b (object_class (type_of s e))) ≡ option_and_then instance_only (field_of s.table n (object_class (type_of s e)))
    go None h = instance_law (field_of s.table n (object_class (type_of s e)))
    go (Some c) h = no_instance (field_named s.table c n) ∙ sym (ap (λ o. option_and_then instance_only (field_of s.table n (object_class o))) (class_untyped s e c h))

-- ---- names

pub local_read : (t : Table) (n : List ℕ) (x : Meant) (k : ℕ) → Local k ≡ name_meaning t n x → (y : JavaType) × (x ≡ LocalName k y)
local_read t n (LocalName j y) k e = let same : k ≡ j = cc in (y, ap (λ i. LocalName i y) (sym same))
local_read t n (FieldName f) k e = absurd (go f.is_static e)
  where
    go : (b : Bool) → Local k ≡ cond b (Constant f) (Instance f) → ⊥
    go true e = cc (e)
    go false e = cc (e)
local_read t n NoName k e = absurd (go (number_of t.headings n) e)
  where
    go : (o : Option ℕ) → Local k ≡ class_meaning o → ⊥
    go None e = cc (e)
    go (Some c) e = cc (e)

pub constant_read : (t : Table) (n : List ℕ) (x : Meant) (f : Field) → Constant f ≡ name_meaning t n x → (x ≡ FieldName f) × (f.is_static ≡ true)
constant_read t n (LocalName j y) f e = absurd (cc (e))
constant_read t n (FieldName g) f e = go g.is_static refl e
  where
    go : (b : Bool) → g.is_static ≡ b → Constant f ≡ cond b (Constant g) (Instance g) → (FieldName g ≡ FieldName f) × (f.is_static ≡ true)
    go true h e = let same : g ≡ f = cc in (ap (λ (x : Field). FieldName x) same, sym (ap (λ (x : Field). x.is_static) same) ∙ h)
    go false h e = absurd (cc (e))
constant_read t n NoName f e = absurd (go (number_of t.headings n) e)
  where
    go : (o : Option ℕ) → Constant f ≡ class_meaning o → ⊥
    go None e = cc (e)
    go (Some c) e = cc (e)

pub instance_read : (t : Table) (n : List ℕ) (x : Meant) (f : Field) → Instance f ≡ name_meaning t n x → (x ≡ FieldName f) × (f.is_static ≡ false)
instance_read t n (LocalName j y) f e = absurd (cc (e))
instance_read t n (FieldName g) f e = go g.is_static refl e
  where
    go : (b : Bool) → g.is_static ≡ b → Instance f ≡ cond b (Constant g) (Instance g) → (FieldName g ≡ FieldName f) × (f.is_static ≡ false)
    go true h e = absurd (cc (e))
    go false h e = let same : g ≡ f = cc in (ap (λ (x : Field). FieldName x) same, sym (ap (λ (x : Field). x.is_static) same) ∙ h)
instance_read t n NoName f e = absurd (go (number_of t.headings n) e)
  where
    go : (o : Option ℕ) → Instance f ≡ class_meaning o → ⊥
    go None e = cc (e)
    go (Some c) e = cc (e)

-- no local, field or constant
abbrev pub is_unnamed : Meaning → Bool
is_unnamed (Local k) = false
is_unnamed (Instance f) = false
is_unnamed (Constant f) = false
is_unnamed m = true

pub nothing_read : (t : Table) (n : List ℕ) (x : Meant) → is_unnamed (name_meaning t n x) ≡ true → x ≡ NoName
nothing_read t n (LocalName j y) e = absurd (cc (e))
nothing_read t n (FieldName g) e = absurd (go g.is_static e)
  where
    go : (b : Bool) → is_unnamed (cond b (Constant g) (Instance g)) ≡ true → ⊥
    go true e = cc (e)
    go false e = cc (e)
nothing_read t n NoName e = refl
