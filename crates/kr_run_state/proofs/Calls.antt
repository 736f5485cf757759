-- Calls on collections of a world.
use Rattle.std.proofs.Common.{◌≡◌, ℕ, ◌+◌, ◌<◌, false, List, [], ◌++◌, length, refl, sym, ap, ◌∙◌, subst}
use Rattle.std.specs.Prelude.{Option, Some, None, Result, Ok, Err}
use Rattle.std.proofs.lemmas.List.{set-get_or, get_or_append_left, length-set}
use Rattle.kr_value.specs.declared.value.Value.{Value}
use Rattle.kr_value.specs.declared.value.Value.TheVariants.{Ref as Reference}
use Rattle.kr_value.specs.declared.object.Class.{Class}
use Rattle.kr_value.specs.Heaps.{Heap, HeapObject, object_in, no_object}
use Rattle.kr_mean.specs.declared.kind.Stop.{Stop}
use Rattle.kr_mean.specs.declared.kind.Stop.TheVariants.{Trapped, Stuck, OutOfFuel}
use Rattle.kr_heap.specs.Objects.{with_values}
use Rattle.kr_mean.specs.declared.kind.Kind.{Kind}
use Rattle.kr_mean.specs.Collections.{Collected, collected}
use Rattle.kr_mean.specs.Steps.{State, Outcome, collect, collect_as, collected_said}
use Rattle.kr_run_state.specs.declared.world.World.{World}
use Rattle.kr_run_state.specs.declared.world.Halt.{Halt}
use Rattle.kr_run_state.specs.declared.world.Halt.TheVariants.{Ended, Memory}
use Rattle.kr_run_state.specs.Collecting.{Collects}
use Rattle.kr_run_state.specs.Noting.{noting}
use Rattle.kr_run_state.specs.Worlds.{Others, Agrees, Allows, Keeps, state_at, state_of, candidates_of}
use Rattle.kr_run_state.proofs.Candidates.{object_made, values_made, values_candidate}

-- a call that gives or traps
called : (n : List ℕ) (o : ℕ) (args : List Value) (r : HeapObject) (said : Result Value Kind) (new : List Value) (s : State) → object_in s.heap o ≡ r → collected r.class n args r.values ≡ Some (record { given = said; members = new }) → collect n (Reference o) args s ≡ record { said = collected_said said; after = record s { heap = with_values s.heap o new }; reads = [] }
called n o args r said new s there is =
    ap (λ (t : HeapObject). collect_as (collected t.class n args t.values) o s) there
    ∙ ap (λ (c : Option Collected). collect_as c o s) is

-- a call that isn't there
missed : (n : List ℕ) (o : ℕ) (args : List Value) (r : HeapObject) (s : State) → object_in s.heap o ≡ r → collected r.class n args r.values ≡ None → collect n (Reference o) args s ≡ collect_as None o s
missed n o args r s there is =
    ap (λ (t : HeapObject). collect_as (collected t.class n args t.values) o s) there
    ∙ ap (λ (c : Option Collected). collect_as c o s) is

-- an object with the values that it has
same_values : (heap : Heap) (o : ℕ) (vs : List Value) → vs ≡ (object_in heap o).values → with_values heap o vs ≡ heap
same_values heap o vs e = ap (λ (us : List Value). with_values heap o us) e ∙ set-get_or heap o no_object

-- by definition
pub collects_at : (r : Result Value Halt) (c c' : Class) (n : List ℕ) (args args' old old' new : List Value) → c ≡ c' → args ≡ args' → old ≡ old' → Collects r old new (collected c n args old) → Collects r old' new (collected c' n args' old')
collects_at r c c' n args args' old old' new class arguments members h =
    subst (λ (d : Class). Collects r old' new (collected d n args' old')) class
    (subst (λ (vs : List Value). Collects r old' new (collected c n vs old')) arguments
    (subst (λ (vs : List Value). Collects r vs new (collected c n args vs)) members h))

-- an object with other members
pub collects_made : (r : Result Value Halt) (w : World) (n : List ℕ) (o k : ℕ) (args new : List Value) → o ≡ length w.candidates + k → Collects r (object_in w.made k).values new (collected (object_in w.made k).class n args (object_in w.made k).values)
    → Agrees r (record w { made = with_values w.made k new }) w (λ x. collect n (Reference o) args (state_at w x))
collects_made (Ok v) w n o k args new e h = λ x a. (
  record { allowed = a; frozen_before = λ e. e; same = λ e. refl; long = refl },
  ap (λ (q : Outcome Value). noting w.reads q) (called n o args (object_in w.made k) (Ok v) new (state_at w x) (object_made w.is_frozen w.candidates w.reads w.made x o k a e) h)
      ∙ ap (λ (heap : Heap). record { said = Ok v; after = record (state_at w x) { heap = heap }; reads = w.reads }) (sym (values_made w.is_frozen w.candidates w.reads w.made x o k new a e)),
)
collects_made (Err (Ended (Trapped kind))) w n o k args new e h = λ x a. (
  record { allowed = a; frozen_before = λ e. e; same = λ e. refl; long = refl },
  ap (λ (q : Outcome Value). noting w.reads q) (called n o args (object_in w.made k) (Err kind) new (state_at w x) (object_made w.is_frozen w.candidates w.reads w.made x o k a e) h)
      ∙ ap (λ (heap : Heap). record { said = collected_said (Err kind); after = record (state_at w x) { heap = heap }; reads = w.reads }) (sym (values_made w.is_frozen w.candidates w.reads w.made x o k new a e)),
)
collects_made (Err (Ended Stuck)) w n o k args new e h = λ x a. (
  record { allowed = a; frozen_before = λ e. e; same = λ e. refl; long = refl },
  ap (λ (q : Outcome Value). noting w.reads q) (missed n o args (object_in w.made k) (state_at w x) (object_made w.is_frozen w.candidates w.reads w.made x o k a e) h.0
      ∙ ap (λ (made : Heap). collect_as None o (record (state_at w x) { heap = candidates_of w.candidates x ++ made })) (sym (same_values w.made k new h.1))),
)
collects_made (Err (Ended OutOfFuel)) w n o k args new e h = absurd h
collects_made (Err (Memory why)) w n o k args new e h = tt

-- a candidate, which is thawed, has other members
module _ (w : World) (n : List ℕ) (o : ℕ) (args new : List Value) (lt : o < length w.candidates) where
  changed : World
  changed = record w { candidates = with_values w.candidates o new; is_frozen = false }

  long : length (with_values w.candidates o new) ≡ length w.candidates
  long = length-set w.candidates o (record { class = (object_in w.candidates o).class; values = new })

  there : object_in (w.candidates ++ w.made) o ≡ object_in w.candidates o
  there = get_or_append_left w.candidates w.made no_object o lt

  told : Result Value Stop → State → Outcome Value
  told said s = record { said = said; after = s; reads = w.reads }

  after : (said : Result Value Stop) → told said (record (state_of w) { heap = with_values (w.candidates ++ w.made) o new }) ≡ told said (state_of changed)
  unfolding changed told
  after said =
      ap (λ (h : Heap). record { said = said; after = record (state_of w) { heap = h }; reads = w.reads }) (sym (values_candidate w.is_frozen w.candidates w.made o new lt))
      ∙ ap (λ (k : ℕ). record { said = said; after = record (state_of w) { heap = with_values w.candidates o new ++ w.made; candidates = k }; reads = w.reads }) (sym long)

  gives_candidate : (said : Result Value Kind) → collected (object_in w.candidates o).class n args (object_in w.candidates o).values ≡ Some (record { given = said; members = new })
      → noting w.reads (collect n (Reference o) args (state_of w)) ≡ record { said = collected_said said; after = state_of changed; reads = w.reads }
  unfolding told
  gives_candidate said h = ap (λ (q : Outcome Value). noting w.reads q) (called n o args (object_in w.candidates o) said new (state_of w) there h) ∙ after (collected_said said)

  misses_candidate : collected (object_in w.candidates o).class n args (object_in w.candidates o).values ≡ None → new ≡ (object_in w.candidates o).values
      → noting w.reads (collect n (Reference o) args (state_of w)) ≡ record { said = Err Stuck; after = state_of changed; reads = w.reads }
  unfolding changed
  misses_candidate h e =
      ap (λ (q : Outcome Value). noting w.reads q) (missed n o args (object_in w.candidates o) (state_of w) there h)
      ∙ ap (λ (own : Heap). record { said = Err Stuck; after = record (state_of w) { heap = own ++ w.made; candidates = length own }; reads = w.reads }) (sym (same_values w.candidates o new e))

  -- only with its own candidates
  own_only : (said : Result Value Stop) → noting w.reads (collect n (Reference o) args (state_of w)) ≡ record { said = said; after = state_of changed; reads = w.reads }
      → (x : Others) → Allows changed x → Keeps w changed x × (noting w.reads (collect n (Reference o) args (state_at w x)) ≡ record { said = said; after = state_at changed x; reads = w.reads })
  unfolding changed
  own_only said h None a = (record { allowed = tt; frozen_before = λ e. absurd (cc (e)); same = λ e. absurd (cc (e)); long = long }, h)
  own_only said h (Some others) a = absurd (cc (a.unwritten))

  pub collects_candidate : (r : Result Value Halt) → Collects r (object_in w.candidates o).values new (collected (object_in w.candidates o).class n args (object_in w.candidates o).values)
      → Agrees r (record w { candidates = with_values w.candidates o new; is_frozen = false }) w (λ x. collect n (Reference o) args (state_at w x))
  unfolding changed
  collects_candidate (Ok v) h = own_only (Ok v) (gives_candidate (Ok v) h)
  collects_candidate (Err (Ended (Trapped kind))) h = own_only (Err (Trapped kind)) (gives_candidate (Err kind) h)
  collects_candidate (Err (Ended Stuck)) h = own_only (Err Stuck) (misses_candidate h.0 h.1)
  collects_candidate (Err (Ended OutOfFuel)) h = absurd h
  collects_candidate (Err (Memory why)) h = tt
