-- The class of an object: how it is found, and how it is used.
use Rattle.std.proofs.Common.{◌≡◌, ℕ, ◌<◌, Bool, true, false, List, length, get_or, Option, Some, None, refl, sym, ap, ◌∙◌, subst}
use Rattle.std.specs.Prelude.{bytes_eq, codes, if◌then◌else◌}
use Rattle.kr_value.specs.declared.value.Value.{Value}
use Rattle.kr_value.specs.declared.value.Value.TheVariants.{Int, Bool as Truth, Null, Ref as Reference}
use Rattle.kr_value.specs.declared.object.Class.{Class}
use Rattle.kr_value.specs.declared.object.Class.TheVariants.{Object, Array, Set, List as ListClass}
use Rattle.kr_value.specs.declared.object.Spot.TheVariants.{Length}
use Rattle.kr_classes_table.specs.Numbers.{Bits32}
use Rattle.kr_classes_table.specs.Types.{JavaType, int_type, BooleanType, VoidType, ClassType, ArrayType, SetType, ListType, InferredType, is_same, is_reference}
use Rattle.kr_classes_table.specs.Table.{is_below, is_assignable}
use Rattle.kr_mean.specs.declared.kind.Kind.TheVariants.{NullPointerException, ClassCastException}
use Rattle.kr_mean.specs.declared.kind.Stop.TheVariants.{Trapped, Stuck}
use Rattle.kr_mean.specs.Program.{Program, is_array_of, is_of_type}
use Rattle.kr_mean.specs.Steps.{give, stop, ◌>>=◌, class_or_null, not_null, class_of, load, load_in, load_field}
use Rattle.kr_mean.specs.Meaning.{cast, instance}
use Rattle.kr_laws_safety.specs.Fits.{IsOf, type_at}
use Rattle.kr_laws_safety.specs.Triples.{Fixed, Safe, Extends, Gives}
use Rattle.kr_laws_safety.specs.Steps.{IsClassOf, IsSeen}
use Rattle.kr_laws_safety.proofs.Heaps.{same_type}
use Rattle.kr_laws_safety.proofs.Vectors.{type_same}
use Rattle.kr_laws_safety.proofs.Steps.{safe_give, safe_trap, safe_map, safe_see, safe_length}
use Rattle.kr_laws_safety.proofs.Glue.{safe_next}

-- ---- classes of types

-- an object of the class that is seen
abbrev pub IsSeenAs : Program → List JavaType → JavaType → Value → Class → Type 0
IsSeenAs program types t v class = (o : ℕ) × (v ≡ Reference o) × (o < length types) × (is_assignable program.table (type_at types o) t ≡ true) × IsClassOf program (type_at types o) class

-- of a class or one below it
pub class_below : (program : Program) (u : JavaType) (class : Class) (c : ℕ) → IsClassOf program u class → is_assignable program.table u (ClassType c) ≡ true → (d : ℕ) × (class ≡ Object d) × (u ≡ ClassType d) × (is_below program.table d c ≡ true)
class_below program (ClassType d) class c h e = (d, h, refl, e)
class_below program (ArrayType t) class c h e = absurd (cc (e))
class_below program (SetType InferredType) class c h e = absurd (cc (e))
class_below program (SetType t) class c h e = absurd (cc (e))
class_below program (ListType InferredType) class c h e = absurd (cc (e))
class_below program (ListType t) class c h e = absurd (cc (e))
class_below program _ class c h e = absurd h

pub array_class : (program : Program) (u : JavaType) (class : Class) (t : JavaType) → IsClassOf program u class → is_assignable program.table u (ArrayType t) ≡ true → is_array_of program t class ≡ true
array_class program (ClassType d) class t h e = absurd (cc (e))
array_class program (ArrayType a) class t h e = subst (λ (x : JavaType). OfArray x) (same_type (ArrayType a) (ArrayType t) e) h
  where
    OfArray : JavaType → Type 0
    OfArray (ArrayType x) = is_array_of program x class ≡ true
    OfArray x = Unit {0}
array_class program (SetType InferredType) class t h e = absurd (cc (e))
array_class program (SetType a) class t h e = absurd (cc (e))
array_class program (ListType InferredType) class t h e = absurd (cc (e))
array_class program (ListType a) class t h e = absurd (cc (e))
array_class program _ class t h e = absurd h

-- a cast that the object's class passes
pub type_passed : (program : Program) (u : JavaType) (class : Class) (to : JavaType) → IsClassOf program u class → is_of_type program to class ≡ true → is_assignable program.table u to ≡ true
type_passed program (ClassType c) class (ClassType d) h e = subst (λ (k : Class). is_of_type program (ClassType d) k ≡ true) h e
type_passed program (ClassType c) class (ArrayType a) h e = absurd (cc (subst (λ (k : Class). is_array_of program a k ≡ true) h e))
type_passed program (ArrayType a) (Array k) (ArrayType b) h e = go (same_type (get_or program.arrays k VoidType) (ArrayType a) h) (same_type (get_or program.arrays k VoidType) (ArrayType b) e)
  where
    go : get_or program.arrays k VoidType ≡ ArrayType a → get_or program.arrays k VoidType ≡ ArrayType b → is_same a b ≡ true
    go x y = sym (ap (λ (z : JavaType). is_same (ArrayType a) z) (sym x ∙ y)) ∙ type_same (ArrayType a)
type_passed program (ArrayType a) (Object c) to h e = absurd (cc (h))
type_passed program (ArrayType a) Set to h e = absurd (cc (h))
type_passed program (ArrayType a) ListClass to h e = absurd (cc (h))
type_passed program (ArrayType a) (Array k) (ClassType d) h e = absurd (cc (e))
type_passed program (SetType a) class (ClassType d) h e = absurd (cc (subst (λ (k : Class). is_of_type program (ClassType d) k ≡ true) h e))
type_passed program (SetType a) class (ArrayType b) h e = absurd (cc (subst (λ (k : Class). is_array_of program b k ≡ true) h e))
type_passed program (ListType a) class (ClassType d) h e = absurd (cc (subst (λ (k : Class). is_of_type program (ClassType d) k ≡ true) h e))
type_passed program (ListType a) class (ArrayType b) h e = absurd (cc (subst (λ (k : Class). is_array_of program b k ≡ true) h e))
type_passed program (ClassType c) class _ h e = absurd (cc (e))
type_passed program (ArrayType a) (Array k) _ h e = absurd (cc (e))
type_passed program (SetType a) class _ h e = absurd (cc (e))
type_passed program (ListType a) class _ h e = absurd (cc (e))
type_passed program _ class to h e = absurd h

module _ (program : Program) (fixed : Fixed) where
  -- null traps
  pub safe_class : (types : List JavaType) (this : Option ℕ) (ls : List JavaType) (t : JavaType) (v : Value) → is_reference t ≡ true → IsOf program.table types t v → Safe program fixed types this ls (class_of v) (λ more after class. (after ≡ ls) × IsSeenAs program more t v class)
  safe_class types this ls t v r i = safe_next program fixed types this ls (class_or_null v) not_null (λ more seen. (more ≡ types) × IsSeen program types v seen) _ (safe_map program fixed types this ls (class_or_null v) _ _ (safe_see program fixed types this ls t v r i) (λ more ms seen h. (h.0, (h.1, h.2)))) (λ more seen x h. go v i more seen h.0 h.1)
    where
      go : (v : Value) → IsOf program.table types t v → (more : List JavaType) (seen : Option Class) → more ≡ types → IsSeen program types v seen → Safe program fixed more this ls (not_null seen) (λ more after class. (after ≡ ls) × IsSeenAs program more t v class)
      go (Int z) i more seen e h = absurd h
      go (Truth b) i more seen e h = absurd h
      go Null i more None e h = safe_trap program fixed more this ls NullPointerException _
      go Null i more (Some class) e h = absurd (cc (h))
      go (Reference o) i more None e h = absurd (cc (h.1))
      go (Reference o) i more (Some class) e h = safe_give program fixed more this ls class _ (refl, subst (λ (z : List JavaType). IsSeenAs program z t (Reference o) class) (sym e) (o, refl, i.0, i.1, subst (λ (k : Class). IsClassOf program (type_at types o) k) (sym (inside h.1)) h.2))
        where
          inside : Some class ≡ Some h.0 → class ≡ h.0
          inside e = ap (λ (x : Option Class). elim x as (λ y. Class) [ Some k ↦ k | None ↦ class ]) e

  -- the length of an array by its name
  pub safe_length_named : (types : List JavaType) (this : Option ℕ) (ls : List JavaType) (t : JavaType) (n : List ℕ) (v : Value) → bytes_eq n (codes "length") ≡ true → IsOf program.table types (ArrayType t) v → Safe program fixed types this ls (load_field program n v) (Gives program ls int_type)
  safe_length_named types this ls t n v e i = safe_next program fixed types this ls (class_of v) (load_in program v n) _ _ (safe_class types this ls (ArrayType t) v refl i) (λ more class x h. go more class x (array_class program (type_at more h.0) class t h.4 h.3))
    where
      go : (more : List JavaType) (class : Class) → Extends types more → is_array_of program t class ≡ true → Safe program fixed more this ls (load_in program v n class) (Gives program ls int_type)
      go more (Array k) x h = subst (λ (b : Bool). Safe program fixed more this ls (if b then load v Length else stop Stuck) (Gives program ls int_type)) (sym e) (safe_map program fixed more this ls (load v Length) _ _ (safe_length program fixed more this ls t v (Rattle.kr_laws_safety.proofs.Heaps.value_more program.table types more (ArrayType t) v x i)) (λ others ms w h. (h.0, subst (λ (y : Value). IsOf program.table others int_type y) (sym h.2) (Bits32, refl, h.3))))
      go more (Object c) x h = absurd (cc (h))
      go more Set x h = absurd (cc (h))
      go more ListClass x h = absurd (cc (h))

  -- a cast to a type of objects
  pub safe_cast : (types : List JavaType) (this : Option ℕ) (ls : List JavaType) (u to : JavaType) (v : Value) → is_reference u ≡ true → is_reference to ≡ true → IsOf program.table types u v → Safe program fixed types this ls (class_or_null v >>= cast program to v) (Gives program ls to)
  safe_cast types this ls u to v r q i =
      safe_next program fixed types this ls (class_or_null v) (cast program to v) (λ more seen. (more ≡ types) × IsSeen program types v seen) _ (safe_map program fixed types this ls (class_or_null v) _ _ (safe_see program fixed types this ls u v r i) (λ more ms seen h. (h.0, (h.1, h.2))))
      (λ more seen x h. subst (λ (z : List JavaType). Safe program fixed z this ls (cast program to v seen) (Gives program ls to)) (sym h.0) (go v i seen h.1))
    where
      go : (v : Value) → IsOf program.table types u v → (seen : Option Class) → IsSeen program types v seen → Safe program fixed types this ls (cast program to v seen) (Gives program ls to)
      go (Int z) i seen h = absurd h
      go (Truth b) i seen h = absurd h
      go Null i None h = safe_give program fixed types this ls Null _ (refl, q)
      go Null i (Some class) h = absurd (cc (h))
      go (Reference o) i None h = absurd (cc (h.1))
      go (Reference o) i (Some class) h = passed (is_of_type program to class) refl
        where
          inside : Some class ≡ Some h.0 → class ≡ h.0
          inside e = ap (λ (x : Option Class). elim x as (λ y. Class) [ Some k ↦ k | None ↦ class ]) e

          passed : (b : Bool) → is_of_type program to class ≡ b → Safe program fixed types this ls (if b then give (Reference o) else stop (Trapped ClassCastException)) (Gives program ls to)
          passed true e = safe_give program fixed types this ls (Reference o) _ (refl, (i.0, type_passed program (type_at types o) class to (subst (λ (k : Class). IsClassOf program (type_at types o) k) (sym (inside h.1)) h.2) e))
          passed false e = safe_trap program fixed types this ls ClassCastException _

  -- a test of a class
  pub safe_instance : (types : List JavaType) (this : Option ℕ) (ls : List JavaType) (u to : JavaType) (v : Value) → is_reference u ≡ true → IsOf program.table types u v → Safe program fixed types this ls (class_or_null v >>= (λ class. give (instance program to class))) (Gives program ls BooleanType)
  safe_instance types this ls u to v r i =
      safe_next program fixed types this ls (class_or_null v) _ (λ more seen. Unit {0}) _ (safe_map program fixed types this ls (class_or_null v) _ _ (safe_see program fixed types this ls u v r i) (λ more ms seen h. (h.0, tt)))
      (λ more seen x h. go more seen)
    where
      go : (more : List JavaType) (seen : Option Class) → Safe program fixed more this ls (give (instance program to seen)) (Gives program ls BooleanType)
      go more None = safe_give program fixed more this ls (Truth false) _ (refl, refl)
      go more (Some class) = safe_give program fixed more this ls (Truth (is_of_type program to class)) _ (refl, refl)
