-- Calls on collections, and new arrays, whose members and elements are of their type.
use Rattle.std.proofs.Common.{◌≡◌, ℕ, ◌<◌, inl, inr, Bool, true, false, List, [], ◌∷◌, ◌++◌, length, Option, Some, Result, Ok, Err, refl, sym, arith, subst}
use Rattle.std.specs.Prelude.{pos, min, codes, if◌then◌else◌}
use Rattle.std.proofs.Math.Nat.{min-le_right}
use Rattle.kr_value.specs.declared.value.Value.{Value}
use Rattle.kr_value.specs.declared.value.Value.TheVariants.{Int, Bool as Truth, Null, Ref as Reference}
use Rattle.kr_value.specs.declared.object.Class.{Class}
use Rattle.kr_value.specs.declared.object.Class.TheVariants.{List as ListClass}
use Rattle.kr_value.specs.Heaps.{object_in}
use Rattle.kr_classes_table.specs.Numbers.{Bits32}
use Rattle.kr_classes_table.specs.Types.{JavaType, int_type, BooleanType, ListType, is_element}
use Rattle.kr_mean.specs.declared.kind.Kind.{Kind as TrapKind}
use Rattle.kr_mean.specs.declared.kind.Kind.TheVariants.{NullPointerException, NoSuchElementException}
use Rattle.kr_mean.specs.Program.{Program}
use Rattle.kr_mean.specs.Collections.{Collected, is_same_value, has_member, without, added_once, is_empty, collected}
use Rattle.kr_mean.specs.Steps.{State, with_members, collected_said, collect_as, collect}
use Rattle.kr_laws_safety.specs.Fits.{IsOf, AreAll, IsObjectOf, IsHeapOf, type_at}
use Rattle.kr_laws_safety.specs.Triples.{Fixed, IsStateOf, Fine, Safe, Gives}
use Rattle.kr_laws_safety.specs.Steps.{Collection, Sets, Lists, type_with, class_with}
use Rattle.kr_laws_safety.proofs.Heaps.{extends_self, object_found, object_set, all_append}
use Rattle.kr_laws_safety.proofs.Steps.{Assigned, type_known, with_heap, set_long, fine_trap}

module _ (program : Program) (fixed : Fixed) where
  -- a collection's object
  members_of : (types : List JavaType) (s : State) (o : ℕ) (k : Collection) (t : JavaType) → IsHeapOf program types s.heap → IsOf program.table types (type_with k t) (Reference o)
      → (type_at types o ≡ type_with k t) × ((object_in s.heap o).class ≡ class_with k) × (is_element t ≡ true) × AreAll program.table types t (object_in s.heap o).values
  members_of types s o k t h i = go k (type_known program fixed types s o (type_with k t) h i) (object_found program types types s.heap o h i.0)
    where
      go : (k : Collection) → Assigned program.table (type_at types o) (type_with k t) → IsObjectOf program types (type_at types o) (object_in s.heap o)
          → (type_at types o ≡ type_with k t) × ((object_in s.heap o).class ≡ class_with k) × (is_element t ≡ true) × AreAll program.table types t (object_in s.heap o).values
      go Sets (inl e) x = let y = subst (λ (u : JavaType). IsObjectOf program types u (object_in s.heap o)) e x in (e, y.0, y.1, y.2)
      go Lists (inl e) x = let y = subst (λ (u : JavaType). IsObjectOf program types u (object_in s.heap o)) e x in (e, y.0, y.1, y.2)
      go Sets (inr r) x = absurd (cc (r.3))
      go Lists (inr r) x = absurd (cc (r.3))

  abbrev IsGiven : List JavaType → JavaType → Result Value TrapKind → Type 0
  IsGiven types u (Ok v) = IsOf program.table types u v
  IsGiven types u (Err k) = Unit {0}

  -- the members after a call, of members of a type
  record Makes (types : List JavaType) (t u : JavaType) (c : Option Collected) : Type 0 where
    collected_is : Collected
    is : c ≡ Some collected_is
    members : AreAll program.table types t collected_is.members
    given : IsGiven types u collected_is.given

  collect_by : (types : List JavaType) (this : Option ℕ) (ls : List JavaType) (k : Collection) (t u : JavaType) (n : List ℕ) (v : Value) (vs : List Value) → IsOf program.table types (type_with k t) v
      → ((ms : List Value) → AreAll program.table types t ms → Makes types t u (collected (class_with k) n vs ms)) → Safe program fixed types this ls (collect n v vs) (Gives program ls u)
  collect_by types this ls Sets t u n (Int z) vs i f = absurd (cc (i.1))
  collect_by types this ls Lists t u n (Int z) vs i f = absurd (cc (i.1))
  collect_by types this ls Sets t u n (Truth b) vs i f = absurd (cc (i))
  collect_by types this ls Lists t u n (Truth b) vs i f = absurd (cc (i))
  collect_by types this ls k t u n Null vs i f = record { by = λ s h. fine_trap program fixed types this ls NullPointerException s h }
  collect_by types this ls k t u n (Reference o) vs i f = record { by = λ s h. go s h (members_of types s o k t h.heap i) }
    where
      typed : (s : State) → type_at types o ≡ type_with k t → (object_in s.heap o).class ≡ class_with k → is_element t ≡ true → (ms : List Value) → AreAll program.table types t ms → IsObjectOf program types (type_at types o) (record { class = (object_in s.heap o).class; values = ms })
      typed s e c m ms a = subst (λ (z : JavaType). IsObjectOf program types z (record { class = (object_in s.heap o).class; values = ms })) (sym e) (of k c)
        where
          of : (k : Collection) → (object_in s.heap o).class ≡ class_with k → IsObjectOf program types (type_with k t) (record { class = (object_in s.heap o).class; values = ms })
          of Sets q = (q, m, a)
          of Lists q = (q, m, a)

      ended : (s : State) → IsStateOf program fixed types this ls s → (c : Collected) → IsObjectOf program types (type_at types o) (record { class = (object_in s.heap o).class; values = c.members }) → IsGiven types u c.given → Fine program fixed types this ls (Gives program ls u) (collect_as (Some c) o s).said (collect_as (Some c) o s).after
      ended s h c x g = by_given c.given g
        where
          new : IsStateOf program fixed types this ls (record s { heap = with_members s.heap o c.members })
          new = with_heap program fixed types types this ls s (with_members s.heap o c.members) (extends_self types) h (object_set program types types s.heap o _ h.heap x) (set_long program fixed s.heap o _ types h.heap x)

          by_given : (r : Result Value TrapKind) → IsGiven types u r → Fine program fixed types this ls (Gives program ls u) (collected_said r) (record s { heap = with_members s.heap o c.members })
          by_given (Ok v) q = (types, ls, extends_self types, new, (refl, q), extends_self ls)
          by_given (Err kind) q = fine_trap program fixed types this ls kind (record s { heap = with_members s.heap o c.members }) new

      go : (s : State) → IsStateOf program fixed types this ls s → (type_at types o ≡ type_with k t) × ((object_in s.heap o).class ≡ class_with k) × (is_element t ≡ true) × AreAll program.table types t (object_in s.heap o).values
          → Fine program fixed types this ls (Gives program ls u) (collect n (Reference o) vs s).said (collect n (Reference o) vs s).after
      go s h r =
          let c = f (object_in s.heap o).values r.3 in
          subst (λ (y : Class). Fine program fixed types this ls (Gives program ls u) (collect_as (collected y n vs (object_in s.heap o).values) o s).said (collect_as (collected y n vs (object_in s.heap o).values) o s).after) (sym r.1)
          (subst (λ (y : Option Collected). Fine program fixed types this ls (Gives program ls u) (collect_as y o s).said (collect_as y o s).after) (sym c.is) (ended s h c.collected_is (typed s r.0 r.1 r.2 c.collected_is.members c.members) c.given))

  -- ---- calls

  without_of : (types : List JavaType) (t : JavaType) (v : Value) (ms : List Value) → AreAll program.table types t ms → AreAll program.table types t (without v ms)
  without_of types t v [] h = tt
  without_of types t v (m ∷ ms) h = go (is_same_value m v) (without_of types t v ms h.1)
    where
      go : (b : Bool) → AreAll program.table types t (without v ms) → AreAll program.table types t (if b then ms else m ∷ without v ms)
      go true r = h.1
      go false r = (h.0, r)

  pub safe_add : (types : List JavaType) (this : Option ℕ) (ls : List JavaType) (k : Collection) (t : JavaType) (v x : Value) → IsOf program.table types (type_with k t) v → IsOf program.table types t x → Safe program fixed types this ls (collect (codes "add") v (x ∷ [])) (Gives program ls BooleanType)
  safe_add types this ls k t v x i j = collect_by types this ls k t BooleanType (codes "add") v (x ∷ []) i (made k)
    where
      once : (ms : List Value) → AreAll program.table types t ms → (b : Bool) → Makes types t BooleanType (added_once b x ms)
      once ms a true = record { collected_is = record { given = Ok (Truth false); members = ms }; is = refl; members = a; given = refl }
      once ms a false = record { collected_is = record { given = Ok (Truth true); members = ms ++ x ∷ [] }; is = refl; members = all_append program.table types t ms x a j; given = refl }

      made : (k : Collection) (ms : List Value) → AreAll program.table types t ms → Makes types t BooleanType (collected (class_with k) (codes "add") (x ∷ []) ms)
      made Sets ms a = once ms a (has_member x ms)
      made Lists ms a = record { collected_is = record { given = Ok (Truth true); members = ms ++ x ∷ [] }; is = refl; members = all_append program.table types t ms x a j; given = refl }

  pub safe_contains : (types : List JavaType) (this : Option ℕ) (ls : List JavaType) (k : Collection) (t : JavaType) (v x : Value) → IsOf program.table types (type_with k t) v → Safe program fixed types this ls (collect (codes "contains") v (x ∷ [])) (Gives program ls BooleanType)
  safe_contains types this ls k t v x i = collect_by types this ls k t BooleanType (codes "contains") v (x ∷ []) i (made k)
    where
      made : (k : Collection) (ms : List Value) → AreAll program.table types t ms → Makes types t BooleanType (collected (class_with k) (codes "contains") (x ∷ []) ms)
      made Sets ms a = record { collected_is = record { given = Ok (Truth (has_member x ms)); members = ms }; is = refl; members = a; given = refl }
      made Lists ms a = record { collected_is = record { given = Ok (Truth (has_member x ms)); members = ms }; is = refl; members = a; given = refl }

  pub safe_remove : (types : List JavaType) (this : Option ℕ) (ls : List JavaType) (k : Collection) (t : JavaType) (v x : Value) → IsOf program.table types (type_with k t) v → Safe program fixed types this ls (collect (codes "remove") v (x ∷ [])) (Gives program ls BooleanType)
  safe_remove types this ls k t v x i = collect_by types this ls k t BooleanType (codes "remove") v (x ∷ []) i (made k)
    where
      made : (k : Collection) (ms : List Value) → AreAll program.table types t ms → Makes types t BooleanType (collected (class_with k) (codes "remove") (x ∷ []) ms)
      made Sets ms a = record { collected_is = record { given = Ok (Truth (has_member x ms)); members = without x ms }; is = refl; members = without_of types t x ms a; given = refl }
      made Lists ms a = record { collected_is = record { given = Ok (Truth (has_member x ms)); members = without x ms }; is = refl; members = without_of types t x ms a; given = refl }

  pub safe_size : (types : List JavaType) (this : Option ℕ) (ls : List JavaType) (k : Collection) (t : JavaType) (v : Value) → IsOf program.table types (type_with k t) v → Safe program fixed types this ls (collect (codes "size") v []) (Gives program ls int_type)
  safe_size types this ls k t v i = collect_by types this ls k t int_type (codes "size") v [] i (made k)
    where
      small : (n : ℕ) → min n 2147483647 < 2147483648
      small n = omega (arith, min-le_right n 2147483647)

      made : (k : Collection) (ms : List Value) → AreAll program.table types t ms → Makes types t int_type (collected (class_with k) (codes "size") [] ms)
      made Sets ms a = record { collected_is = record { given = Ok (Int (pos (min (length ms) 2147483647))); members = ms }; is = refl; members = a; given = (Bits32, refl, small (length ms)) }
      made Lists ms a = record { collected_is = record { given = Ok (Int (pos (min (length ms) 2147483647))); members = ms }; is = refl; members = a; given = (Bits32, refl, small (length ms)) }

  pub safe_is_empty : (types : List JavaType) (this : Option ℕ) (ls : List JavaType) (k : Collection) (t : JavaType) (v : Value) → IsOf program.table types (type_with k t) v → Safe program fixed types this ls (collect (codes "isEmpty") v []) (Gives program ls BooleanType)
  safe_is_empty types this ls k t v i = collect_by types this ls k t BooleanType (codes "isEmpty") v [] i (made k)
    where
      made : (k : Collection) (ms : List Value) → AreAll program.table types t ms → Makes types t BooleanType (collected (class_with k) (codes "isEmpty") [] ms)
      made Sets ms a = record { collected_is = record { given = Ok (Truth (is_empty ms)); members = ms }; is = refl; members = a; given = refl }
      made Lists ms a = record { collected_is = record { given = Ok (Truth (is_empty ms)); members = ms }; is = refl; members = a; given = refl }

  -- the first member, or a trap where there is none
  pub safe_remove_first : (types : List JavaType) (this : Option ℕ) (ls : List JavaType) (t : JavaType) (v : Value) → IsOf program.table types (ListType t) v → Safe program fixed types this ls (collect (codes "removeFirst") v []) (Gives program ls t)
  safe_remove_first types this ls t v i = collect_by types this ls Lists t t (codes "removeFirst") v [] i made
    where
      made : (ms : List Value) → AreAll program.table types t ms → Makes types t t (collected ListClass (codes "removeFirst") [] ms)
      made [] a = record { collected_is = record { given = Err NoSuchElementException; members = [] }; is = refl; members = tt; given = tt }
      made (m ∷ ms) a = record { collected_is = record { given = Ok m; members = ms }; is = refl; members = a.1; given = a.0 }
