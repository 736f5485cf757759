-- Values, objects and heaps of types: what is looked up, changed and added.
use Rattle.std.proofs.Common.{◌≡◌, ℕ, zero, suc, ◌<◌, true, List, [], ◌∷◌, ◌++◌, length, get_or, refl, sym, ap, ◌∙◌, arith}
use Rattle.std.specs.Prelude.{map, slice_set, replicate, bytes_eq}
use Rattle.std.proofs.lemmas.List.{length-append, append_assoc}
use Rattle.std.proofs.lemmas.Bool.{eqb-true, and_parts}
use Rattle.std.proofs.lemmas.Slice.Eq.{bytes_eq-Decides}
use Rattle.kr_value.specs.declared.value.Value.{Value}
use Rattle.kr_value.specs.declared.value.Value.TheVariants.{Int, Bool as Truth, Null, Ref as Reference}
use Rattle.kr_value.specs.Heaps.{HeapObject, object_in}
use Rattle.kr_classes_table.proofs.Widths.{same_width}
use Rattle.kr_classes_table.specs.Types.{JavaType, NumberType, BooleanType, NullType, VoidType, ClassType, ArrayType, SetType, ListType, InferredType, UnknownType, AppliedType, is_same}
use Rattle.kr_classes_table.specs.Table.{Table, fields_of, is_assignable}
use Rattle.kr_mean.specs.Program.{Program}
use Rattle.kr_laws_safety.specs.Fits.{IsOf, AreOf, AreAll, IsObjectOf, AreObjects, IsHeapOf, type_at}
use Rattle.kr_laws_safety.specs.Triples.{Extends}

-- ---- more objects

pub extends_self : (types : List JavaType) → Extends types types
extends_self types = ([], sym (Rattle.std.proofs.lemmas.List.append-nil types))

pub extends_twice : (a b c : List JavaType) → Extends a b → Extends b c → Extends a c
extends_twice a b c x y = (x.0 ++ y.0, y.1 ∙ (ap (λ (z : List JavaType). z ++ y.0) x.1 ∙ append_assoc a x.0 y.0))

get_front : (xs ys : List JavaType) (o : ℕ) → o < length xs → get_or (xs ++ ys) o VoidType ≡ get_or xs o VoidType
get_front [] ys o lt = absurd (omega (arith, lt))
get_front (x ∷ xs) ys zero lt = refl
get_front (x ∷ xs) ys (suc o) lt = get_front xs ys o (omega (arith, lt))

pub value_more : (table : Table) (types more : List JavaType) (t : JavaType) (v : Value) → Extends types more → IsOf table types t v → IsOf table more t v
value_more table types more t (Int z) x h = h
value_more table types more t (Truth b) x h = h
value_more table types more t Null x h = h
value_more table types more t (Reference o) x h =
    let e : type_at more o ≡ type_at types o = ap (λ (z : List JavaType). get_or z o VoidType) x.1 ∙ get_front types x.0 o h.0 in
    (omega (arith, h.0, ap (λ (z : List JavaType). length z) x.1, length-append types x.0), ap (λ (u : JavaType). is_assignable table u t) e ∙ h.1)

pub values_more : (table : Table) (types more : List JavaType) (ts : List JavaType) (vs : List Value) → Extends types more → AreOf table types ts vs → AreOf table more ts vs
values_more table types more [] [] x h = tt
values_more table types more (t ∷ ts) (v ∷ vs) x h = (value_more table types more t v x h.0, values_more table types more ts vs x h.1)
values_more table types more [] (v ∷ vs) x h = absurd h
values_more table types more (t ∷ ts) [] x h = absurd h

pub all_more : (table : Table) (types more : List JavaType) (t : JavaType) (vs : List Value) → Extends types more → AreAll table types t vs → AreAll table more t vs
all_more table types more t [] x h = tt
all_more table types more t (v ∷ vs) x h = (value_more table types more t v x h.0, all_more table types more t vs x h.1)

object_more : (program : Program) (types more : List JavaType) (t : JavaType) (o : HeapObject) → Extends types more → IsObjectOf program types t o → IsObjectOf program more t o
object_more program types more (ClassType c) o x h = (h.0, values_more program.table types more (map (λ f. f.type) (fields_of program.table c)) o.values x h.1)
object_more program types more (ArrayType t) o x h = (h.0, all_more program.table types more t o.values x h.1, h.2)
object_more program types more (SetType t) o x h = (h.0, h.1, all_more program.table types more t o.values x h.2)
object_more program types more (ListType t) o x h = (h.0, h.1, all_more program.table types more t o.values x h.2)
object_more program types more VoidType o x h = h
object_more program types more _ o x h = absurd h

pub objects_more : (program : Program) (types more ts : List JavaType) (os : List HeapObject) → Extends types more → AreObjects program types ts os → AreObjects program more ts os
objects_more program types more [] [] x h = tt
objects_more program types more (t ∷ ts) (o ∷ os) x h = (object_more program types more t o x h.0, objects_more program types more ts os x h.1)
objects_more program types more [] (o ∷ os) x h = absurd h
objects_more program types more (t ∷ ts) [] x h = absurd h

objects_append : (program : Program) (types ts : List JavaType) (os : List HeapObject) (t : JavaType) (o : HeapObject) → AreObjects program types ts os → IsObjectOf program types t o → AreObjects program types (ts ++ t ∷ []) (os ++ o ∷ [])
objects_append program types [] [] t o h k = (k, tt)
objects_append program types (u ∷ ts) (x ∷ os) t o h k = (h.0, objects_append program types ts os t o h.1 k)
objects_append program types [] (x ∷ os) t o h k = absurd h
objects_append program types (u ∷ ts) [] t o h k = absurd h

pub one_more : (types : List JavaType) (t : JavaType) → Extends types (types ++ t ∷ [])
one_more types t = (t ∷ [], refl)

-- a new object, whose values were there before it
pub heap_append : (program : Program) (types : List JavaType) (os : List HeapObject) (t : JavaType) (o : HeapObject) → IsHeapOf program types os → IsObjectOf program types t o → IsHeapOf program (types ++ t ∷ []) (os ++ o ∷ [])
heap_append program types os t o h k =
    objects_append program (types ++ t ∷ []) types os t o (objects_more program types (types ++ t ∷ []) types os (one_more types t) h) (object_more program types (types ++ t ∷ []) t o (one_more types t) k)

pub heap_long : (program : Program) (types ts : List JavaType) (os : List HeapObject) → AreObjects program types ts os → length os ≡ length ts
heap_long program types [] [] h = refl
heap_long program types (t ∷ ts) (o ∷ os) h = ap suc (heap_long program types ts os h.1)
heap_long program types [] (o ∷ os) h = absurd h
heap_long program types (t ∷ ts) [] h = absurd h

-- the type of what is added last
pub last_type : (types : List JavaType) (t : JavaType) → type_at (types ++ t ∷ []) (length types) ≡ t
last_type [] t = refl
last_type (u ∷ types) t = last_type types t

-- ---- looked up and changed

pub object_found : (program : Program) (types ts : List JavaType) (os : List HeapObject) (o : ℕ) → AreObjects program types ts os → o < length ts → IsObjectOf program types (type_at ts o) (object_in os o)
object_found program types [] os o h lt = absurd (omega (arith, lt))
object_found program types (t ∷ ts) [] o h lt = absurd h
object_found program types (t ∷ ts) (x ∷ os) zero h lt = h.0
object_found program types (t ∷ ts) (x ∷ os) (suc o) h lt = object_found program types ts os o h.1 (omega (arith, lt))

pub object_set : (program : Program) (types ts : List JavaType) (os : List HeapObject) (o : ℕ) (x : HeapObject) → AreObjects program types ts os → IsObjectOf program types (type_at ts o) x → AreObjects program types ts (slice_set os o x)
object_set program types [] [] o x h k = tt
object_set program types (t ∷ ts) (y ∷ os) zero x h k = (k, h.1)
object_set program types (t ∷ ts) (y ∷ os) (suc o) x h k = (h.0, object_set program types ts os o x h.1 k)
object_set program types [] (y ∷ os) o x h k = absurd h
object_set program types (t ∷ ts) [] o x h k = absurd h

pub value_found : (table : Table) (types ts : List JavaType) (vs : List Value) (k : ℕ) → AreOf table types ts vs → k < length ts → IsOf table types (get_or ts k VoidType) (get_or vs k Null)
value_found table types [] vs k h lt = absurd (omega (arith, lt))
value_found table types (t ∷ ts) [] k h lt = absurd h
value_found table types (t ∷ ts) (v ∷ vs) zero h lt = h.0
value_found table types (t ∷ ts) (v ∷ vs) (suc k) h lt = value_found table types ts vs k h.1 (omega (arith, lt))

pub value_set : (table : Table) (types ts : List JavaType) (vs : List Value) (k : ℕ) (v : Value) → AreOf table types ts vs → IsOf table types (get_or ts k VoidType) v → AreOf table types ts (slice_set vs k v)
value_set table types [] [] k v h i = tt
value_set table types (t ∷ ts) (w ∷ vs) zero v h i = (i, h.1)
value_set table types (t ∷ ts) (w ∷ vs) (suc k) v h i = (h.0, value_set table types ts vs k v h.1 i)
value_set table types [] (w ∷ vs) k v h i = absurd h
value_set table types (t ∷ ts) [] k v h i = absurd h

pub values_long : (table : Table) (types ts : List JavaType) (vs : List Value) → AreOf table types ts vs → length vs ≡ length ts
values_long table types [] [] h = refl
values_long table types (t ∷ ts) (v ∷ vs) h = ap suc (values_long table types ts vs h.1)
values_long table types [] (v ∷ vs) h = absurd h
values_long table types (t ∷ ts) [] h = absurd h

pub values_front : (table : Table) (types ts us : List JavaType) (vs : List Value) → AreOf table types (ts ++ us) vs → AreOf table types ts (Rattle.std.specs.Prelude.take (length ts) vs)
values_front table types [] us vs h = tt
values_front table types (t ∷ ts) us [] h = absurd h
values_front table types (t ∷ ts) us (v ∷ vs) h = (h.0, values_front table types ts us vs h.1)

pub all_found : (table : Table) (types : List JavaType) (t : JavaType) (vs : List Value) (k : ℕ) → AreAll table types t vs → k < length vs → IsOf table types t (get_or vs k Null)
all_found table types t [] k h lt = absurd (omega (arith, lt))
all_found table types t (v ∷ vs) zero h lt = h.0
all_found table types t (v ∷ vs) (suc k) h lt = all_found table types t vs k h.1 (omega (arith, lt))

pub all_set : (table : Table) (types : List JavaType) (t : JavaType) (vs : List Value) (k : ℕ) (v : Value) → AreAll table types t vs → IsOf table types t v → AreAll table types t (slice_set vs k v)
all_set table types t [] k v h i = tt
all_set table types t (w ∷ vs) zero v h i = (i, h.1)
all_set table types t (w ∷ vs) (suc k) v h i = (h.0, all_set table types t vs k v h.1 i)

pub all_append : (table : Table) (types : List JavaType) (t : JavaType) (vs : List Value) (v : Value) → AreAll table types t vs → IsOf table types t v → AreAll table types t (vs ++ v ∷ [])
all_append table types t [] v h i = (i, tt)
all_append table types t (w ∷ vs) v h i = (h.0, all_append table types t vs v h.1 i)

pub all_replicate : (table : Table) (types : List JavaType) (t : JavaType) (n : ℕ) (v : Value) → IsOf table types t v → AreAll table types t (replicate n v)
all_replicate table types t zero v i = tt
all_replicate table types t (suc n) v i = (i, all_replicate table types t n v i)

-- ---- types

pub same_type : (s t : JavaType) → is_same s t ≡ true → s ≡ t
same_type (NumberType v) (NumberType w) e = ap NumberType (same_width v w e)
same_type BooleanType BooleanType e = refl
same_type NullType NullType e = refl
same_type VoidType VoidType e = refl
same_type (ClassType c) (ClassType d) e = ap ClassType (eqb-true c d e)
same_type (ArrayType s) (ArrayType t) e = ap ArrayType (same_type s t e)
same_type (SetType s) (SetType t) e = ap SetType (same_type s t e)
same_type (ListType s) (ListType t) e = ap ListType (same_type s t e)
same_type InferredType InferredType e = refl
same_type (UnknownType o n) (UnknownType p m) e = let r = and_parts (bytes_eq o p) (bytes_eq n m) e in ap (λ (x : List ℕ). UnknownType x n) ((bytes_eq-Decides o p).0 r.0) ∙ ap (λ (x : List ℕ). UnknownType p x) ((bytes_eq-Decides n m).0 r.1)
same_type (AppliedType h s) (AppliedType g t) e = let r = and_parts (is_same h g) (is_same s t) e in ap (λ (x : JavaType). AppliedType x s) (same_type h g r.0) ∙ ap (λ (x : JavaType). AppliedType g x) (same_type s t r.1)
same_type _ _ e = absurd (cc (e))
