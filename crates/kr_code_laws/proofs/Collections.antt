-- A call on a collection, and a new collection, do what they are named for.
use Rattle.std.proofs.Common.{◌≡◌, ℕ, Bool, true, false, List, [], ◌∷◌, Option, None, refl, sym, ap, ◌∙◌}
use Rattle.std.specs.Prelude.{codes, bytes_eq, if◌then◌else◌}
use Rattle.std.proofs.lemmas.Slice.Eq.{bytes_eq-Decides}
use Rattle.kr_value.specs.declared.value.Value.{Value}
use Rattle.kr_value.specs.declared.value.Value.TheVariants.{Int, Bool as Truth, Null, Ref as Reference}
use Rattle.kr_value.specs.declared.object.Class.{Class}
use Rattle.kr_value.specs.declared.object.Class.TheVariants.{Set, List as ListClass}
use Rattle.kr_value.specs.Heaps.{object_in}
use Rattle.kr_classes_table.specs.Types.{JavaType, SetType, ListType}
use Rattle.kr_mean.specs.Program.{Program}
use Rattle.kr_mean.specs.Collections.{Collected, is_collection, called_on}
use Rattle.kr_mean.specs.Steps.{collect_as, collect}
use Rattle.kr_mean.specs.Meaning.{Parts, create}
use Rattle.kr_code.specs.declared.collections.CollectionCall.{CollectionCall}
use Rattle.kr_code.specs.declared.collections.CollectionCall.TheVariants as calls
use Rattle.kr_code.specs.Collections.{name_of, call_named, new_collection}
use Rattle.kr_code_laws.proofs.Agreeing.{Agree}

module _ (x : List ℕ) (class : Class) (vs ms : List Value) where
  -- the call does what the name does
  abbrev Means : CollectionCall → Type 0
  Means c = called_on class (name_of c) vs ms ≡ called_on class x vs ms

  -- the call of a name, if it is the one, and else another
  by_name : (n : List ℕ) (c other : CollectionCall) → name_of c ≡ n → (bytes_eq x n ≡ false → Means other) → Means (if bytes_eq x n then c else other)
  by_name n c other e f = go (bytes_eq x n) refl
    where
      go : (b : Bool) → bytes_eq x n ≡ b → Means (if b then c else other)
      go true h = ap (λ (y : List ℕ). called_on class y vs ms) (e ∙ sym ((bytes_eq-Decides x n).0 h))
      go false h = f h

  no_name : bytes_eq x (codes "add") ≡ false → bytes_eq x (codes "contains") ≡ false → bytes_eq x (codes "remove") ≡ false
      → bytes_eq x (codes "size") ≡ false → bytes_eq x (codes "isEmpty") ≡ false → bytes_eq x (codes "removeFirst") ≡ false → Means calls.Unknown
  no_name a b c d e f = go vs
    where
      go : (us : List Value) → called_on class [] us ms ≡ called_on class x us ms
      go [] = rw (d, e, f) refl
      go (v ∷ []) = rw (a, b, c) refl
      go (v ∷ w ∷ us) = refl

  means_named : Means (call_named x)
  means_named =
      by_name (codes "add") calls.Add _ refl (λ a. by_name (codes "contains") calls.Contains _ refl (λ b. by_name (codes "remove") calls.Remove _ refl (λ c.
      by_name (codes "size") calls.Size _ refl (λ d. by_name (codes "isEmpty") calls.IsEmpty _ refl (λ e. by_name (codes "removeFirst") calls.RemoveFirst _ refl (λ f. no_name a b c d e f))))))

pub collects : (x : List ℕ) (o : Value) (vs : List Value) → Agree (collect (name_of (call_named x)) o vs) (collect x o vs)
collects x (Reference o) vs s = ap (λ (c : Option Collected). collect_as (if is_collection (object_in s.heap o).class then c else None) o s) (means_named x (object_in s.heap o).class vs (object_in s.heap o).values)
collects x Null vs s = refl
collects x (Int i) vs s = refl
collects x (Truth b) vs s = refl

pub creates_set : (program : Program) (p : Parts) (t : JavaType) (vs : List Value) → Agree (new_collection Set vs) (create program p (SetType t) vs)
creates_set program p t [] s = refl
creates_set program p t (v ∷ vs) s = refl

pub creates_list : (program : Program) (p : Parts) (t : JavaType) (vs : List Value) → Agree (new_collection ListClass vs) (create program p (ListType t) vs)
creates_list program p t [] s = refl
creates_list program p t (v ∷ vs) s = refl
