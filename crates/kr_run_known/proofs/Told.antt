-- Places that were read already.
use Rattle.std.proofs.Common.{◌≡◌, ℕ, suc, Bool, true, false, List, [], ◌∷◌, length, ap, ◌∙◌}
use Rattle.std.specs.Prelude.{map, nat_eq, Option, Some, None, Ok, IfSome, option_map, slice_get, if◌then◌else◌, min, pos}
use Rattle.std.proofs.Common.{◌+◌, ◌++◌, sym, subst, rules}
use Rattle.std.proofs.lemmas.List.{set-get_or}
use Rattle.kr_value.specs.declared.value.Value.{Value}
use Rattle.kr_value.specs.declared.value.Value.TheVariants.{Bool as Truth, Int, Ref as Reference}
use Rattle.kr_value.specs.declared.object.Class.{Class}
use Rattle.kr_value.specs.declared.object.Class.TheVariants.{Object, Array, Set, List as ListClass}
use Rattle.kr_value.specs.Heaps.{Heap, object_in, no_object}
use Rattle.kr_mean.specs.Collections.{called_with, collected, gives, is_collection, is_empty}
use Rattle.kr_mean.specs.Steps as steps
use Rattle.kr_mean.specs.Steps.{collect, local_at, local_given, place_reads, read_local}
use Rattle.kr_code.specs.Collections.{name_of}
use Rattle.kr_code.specs.declared.collections.CollectionCall.TheVariants as calls
use Rattle.kr_run_state.specs.declared.world.World.{World}
use Rattle.kr_run_state.specs.declared.world.Local.{Local}
use Rattle.kr_run_state.specs.Worlds.{candidates_of}
use Rattle.kr_run_state.proofs.Calls.{collects_made}
use Rattle.kr_run_state.proofs.Locals.{local_there}
use Rattle.kr_run_known.specs.Knowing.{Shows, fuelled}
use Rattle.kr_mean.specs.Places as places
use Rattle.kr_run_state.specs.Noting.{noted_once, noting}
use Rattle.kr_run_state.specs.Shown.{local_of}

-- a local that needs no read
pub local_known : (w : World) (k : ℕ) (l : Local) → slice_get w.locals.items k ≡ Some l → noted_once w.reads (place_reads (option_map (λ i. places.Parameter i) l.parameter)) ≡ w.reads → Shows w l.value (read_local k)
local_known w k l is told = λ x a n.
    let at : local_at (map local_of w.locals.items) k ≡ Some (local_of l) = sym (local_there w.locals.items k) ∙ ap (option_map local_of) is in
    ap (λ (o : Option steps.Local). noting w.reads (local_given o (fuelled w n x))) at
    ∙ ap (λ (rs : List places.SlotPlace). record { said = Ok l.value; after = fuelled w n x; reads = rs }) told

-- ---- questions about collections that the run has made

asks : (w : World) (n : List ℕ) (o k : ℕ) (args : List Value) (v : Value) → o ≡ length w.candidates + k → collected (object_in w.made k).class n args (object_in w.made k).values ≡ gives v (object_in w.made k).values → Shows w v (collect n (Reference o) args)
asks w n o k args v at is = λ x a m.
    (collects_made (Ok v) (record w { fuel = m }) n o k args (object_in w.made k).values at is x a).1
    ∙ ap (λ (heap : Heap). record { said = Ok v; after = record (fuelled w m x) { heap = candidates_of w.candidates x ++ heap }; reads = w.reads }) (set-get_or w.made k no_object)

no_zero : (n : ℕ) → nat_eq (suc n) 0 ≡ false
no_zero n = search rules

empty_is : (ms : List Value) (b : Bool) → b ≡ nat_eq (length ms) 0 → b ≡ is_empty ms
empty_is [] b e = e
empty_is (m ∷ ms) b e = e ∙ no_zero (length ms)

asks_empty : (c : Class) (ms : List Value) (b : Bool) → is_collection c ≡ true → b ≡ is_empty ms → collected c (name_of calls.IsEmpty) [] ms ≡ gives (Truth b) ms
asks_empty (Object k) ms b is e = absurd (cc (is))
asks_empty (Array k) ms b is e = absurd (cc (is))
asks_empty Set ms b is e = ap (λ (t : Bool). gives (Truth t) ms) (sym e)
asks_empty ListClass ms b is e = ap (λ (t : Bool). gives (Truth t) ms) (sym e)

pub asked_empty : (w : World) (o k : ℕ) (b : Bool) → o ≡ length w.candidates + k → is_collection (object_in w.made k).class ≡ true → b ≡ nat_eq (length (object_in w.made k).values) 0 → Shows w (Truth b) (collect (name_of calls.IsEmpty) (Reference o) [])
asked_empty w o k b at is e = asks w (name_of calls.IsEmpty) o k [] (Truth b) at (asks_empty (object_in w.made k).class (object_in w.made k).values b is (empty_is (object_in w.made k).values b e))

asks_size : (c : Class) (ms : List Value) (v : Value) → is_collection c ≡ true → v ≡ Int (pos (min (length ms) 2147483647)) → collected c (name_of calls.Size) [] ms ≡ gives v ms
asks_size (Object k) ms v is e = absurd (cc (is))
asks_size (Array k) ms v is e = absurd (cc (is))
asks_size Set ms v is e = ap (λ (t : Value). gives t ms) (sym e)
asks_size ListClass ms v is e = ap (λ (t : Value). gives t ms) (sym e)

pub asked_size : (w : World) (o k : ℕ) (v : Value) → o ≡ length w.candidates + k → is_collection (object_in w.made k).class ≡ true → v ≡ Int (pos (min (length (object_in w.made k).values) 2147483647)) → Shows w v (collect (name_of calls.Size) (Reference o) [])
asked_size w o k v at is e = asks w (name_of calls.Size) o k [] v at (asks_size (object_in w.made k).class (object_in w.made k).values v is e)

-- with an argument
asks_with : (w : World) (n : List ℕ) (o k : ℕ) (c : Class) (arg : Value) (ms : List Value) (v : Value) → o ≡ length w.candidates + k → c ≡ (object_in w.made k).class → is_collection c ≡ true → ms ≡ (object_in w.made k).values → called_with c n arg ms ≡ gives v ms → Shows w v (collect n (Reference o) (arg ∷ []))
asks_with w n o k c arg ms v at class is members h =
    let all : collected c n (arg ∷ []) ms ≡ gives v ms = ap (λ (b : Bool). if b then called_with c n arg ms else None) is ∙ h in
    asks w n o k (arg ∷ []) v at
    (subst (λ (d : Class). collected d n (arg ∷ []) (object_in w.made k).values ≡ gives v (object_in w.made k).values) class
    (subst (λ (us : List Value). collected c n (arg ∷ []) us ≡ gives v us) members all))

pub asked_alone : (w : World) (n : List ℕ) (o k : ℕ) (c : Class) (arg : Value) (ms : List Value) (r : Option Value) → o ≡ length w.candidates + k → c ≡ (object_in w.made k).class → is_collection c ≡ true → ms ≡ (object_in w.made k).values → IfSome r (λ v. called_with c n arg ms ≡ gives v ms) → IfSome r (λ v. Shows w v (collect n (Reference o) (arg ∷ [])))
asked_alone w n o k c arg ms None at class is members h = tt
asked_alone w n o k c arg ms (Some v) at class is members h = asks_with w n o k c arg ms v at class is members h
