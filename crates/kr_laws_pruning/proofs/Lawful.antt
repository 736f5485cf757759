-- Every pure and well formed problem is lawful.
use Rattle.std.proofs.Common.{◌≡◌, ℕ, ◌+◌, ◌<◌, inl, inr, Bool, true, false, List, [], ◌∷◌, ◌++◌, length, get_or, Option, Some, None, refl, sym, ap, ◌∙◌, arith, subst}
use Rattle.std.specs.Prelude.{map, if◌then◌else◌}
use Rattle.std.proofs.lemmas.Bool.{eq-eqb, eqb-true}
use Rattle.kr_mean.specs.Problem.{Problem, DomainObject, slot_at, choices_at, all_objects, heap_number}
use Rattle.kr_mean.specs.Space.{space_of, no_choice, IsVector, IsRenaming, IsRenamed}
use Rattle.kr_mean.specs.Blocks.{IsMoved, moved, on_index}
use Rattle.kr_mean.specs.Heaps.{value_at, walk}
use Rattle.kr_mean.specs.Runs.{End, True, False, Trap, Spent, end_on, is_accepted, is_same_number, read_slots, accepted_walk, order_of, key_along, key_of}
use Rattle.kr_mean.specs.Readings.{Forks, AllBelow, AreRenamedSlots, Differ, IsIn, AreIn}
use Rattle.kr_mean.specs.Entries.{row_of, structure_of, mark_for, mark_of}
use Rattle.kr_mean.specs.Purity.{IsPure}
use Rattle.kr_mean.specs.WellFormed.{IsWellFormed}
use Rattle.kr_laws_pruning.specs.Laws.{ended, IsLawful}
use Rattle.kr_value.specs.declared.value.Value.{Value}
use Rattle.kr_value.specs.declared.value.Value.TheVariants.{Int, Bool as Truth, Null, Ref as Reference}
use Rattle.kr_laws_pruning.proofs.Membership.{Has, has_append_right}
use Rattle.kr_iso.proofs.Moves.{moves, moved_orders, slots_apart}
use Rattle.kr_laws_pruning.proofs.Numbering.{object, count_at, parameters, first_slot, parameter_slot, object_slot, SlotCase, is_this, is_parameter, is_spot, slot_case}
use Rattle.kr_laws_pruning.proofs.Spaces.{block_of, is_space}
use Rattle.kr_laws_pruning.proofs.Places.{extent, extent_within}
use Rattle.kr_laws_pruning.proofs.Named.{on, on_this, on_parameter, on_spot, AgreeAt}
use Rattle.kr_laws_runs.proofs.Respects.{AllOf}
use Rattle.kr_laws_pruning.proofs.Goes.{KnownValue}
use Rattle.kr_laws_pruning.proofs.SlotForks.{SlotForks, slots_then, slots_map, slots_with, slots_agreed, slots_always, slots_distinct, all_map, all_from, all_has}
use Rattle.kr_laws_pruning.proofs.Verdicts.{verdicts_same}
use Rattle.kr_laws_pruning.proofs.Judged.{IsClosed, reads_fork}
use Rattle.kr_laws_pruning.proofs.Walked.{Below, walked, walk_below, walks_fork}
use Rattle.kr_laws_pruning.proofs.Reached.{apart_distinct, has_distinct, apart_differ, IsMet, this_known, parameter_known, field_known, field_walked, root_walked}

-- ---- the order of two vectors

module _ (problem : Problem) (w : IsWellFormed problem) (pure : IsPure problem) (name : ℕ → ℕ → ℕ) (n : IsRenaming (space_of problem) name) where
  abbrev Agrees : List ℕ → List ℕ → ℕ → Type 0
  Agrees v u s = AgreeAt problem w name n v u s

  abbrev move : ℕ → ℕ
  move s = on problem w name n s

  moved_apart : (x y : ℕ) → Below problem x → Below problem y → move x ≡ move y → x ≡ y
  unfolding space_of
  moved_apart x y a b e = slots_apart (space_of problem) (is_space problem w) name n x y a b e

  module _ (v u : List ℕ) (iv : IsVector (space_of problem) v) (KO : ℕ → Type 0) (closed : IsClosed problem w pure name n v u iv KO) (K : ℕ → Type 0) (below : (s : ℕ) → K s → Below problem s) (known_this : K 0) (known_parameter : (i : ℕ) → i < parameters problem → K (i + 1)) (known_slot : (d k f : ℕ) → d < length problem.domains → k < count_at problem d → f < extent problem w v d k → KO (heap_number problem (object d k)) → K (first_slot problem d k + f)) (known_walk : AllOf K (walk problem v)) where
    abbrev SameEnd : Type 0
    SameEnd = ended problem u ≡ ended problem v

    tails_fork : (b : Bool) → SameEnd → SlotForks move K (Agrees v u) SameEnd (if b then walk problem v else []) (if b then walk problem u else [])
    tails_fork true e = slots_map move (Agrees v u) K (Unit {0}) SameEnd (walk problem v) (walk problem u) (slots_with move (Agrees v u) (Below problem) K (Unit {0}) (walk problem v) (walk problem u) known_walk (walks_fork problem w name n v u)) (λ x. e)
    tails_fork false e = e

    pub orders_fork : SlotForks move K (Agrees v u) SameEnd (order_of problem v) (order_of problem u)
    unfolding order_of
    orders_fork =
        slots_distinct move (Agrees v u) K (λ x y a b e. moved_apart x y (below x a) (below y b) e) SameEnd (read_slots problem v ++ accepted_walk problem v) (read_slots problem u ++ accepted_walk problem u)
        (slots_then move (Agrees v u) K SameEnd SameEnd (read_slots problem v) (read_slots problem u) (accepted_walk problem v) (accepted_walk problem u)
        (reads_fork problem w pure name n v u iv KO closed K known_this known_parameter known_slot)
        (λ e. subst (λ (x : End). SlotForks move K (Agrees v u) SameEnd (accepted_walk problem v) (if is_accepted x then walk problem u else [])) (sym (ap (λ (x : End × ℕ). x.0) e)) (tails_fork (is_accepted (end_on problem v)) e)))

-- nothing is required of known places
trivially_known : (n : ℕ) (x : Value) → KnownValue n (λ o. (o < n) × Unit {0}) x
trivially_known n (Int i) = tt
trivially_known n (Truth b) = tt
trivially_known n Null = tt
trivially_known n (Reference o) = λ lt. (lt, tt)

module _ (problem : Problem) (w : IsWellFormed problem) (pure : IsPure problem) where
  walk_is_below : (v : List ℕ) → AllOf (Below problem) (walk problem v)
  unfolding walk
  walk_is_below v = walk_below problem w v (length (all_objects problem))

  -- orders with nothing known but that they have slots
  plain_fork : (name : ℕ → ℕ → ℕ) (n : IsRenaming (space_of problem) name) (v u : List ℕ) → IsVector (space_of problem) v → SlotForks (on problem w name n) (Below problem) (AgreeAt problem w name n v u) (ended problem u ≡ ended problem v) (order_of problem v) (order_of problem u)
  plain_fork name n v u iv =
      orders_fork problem w pure name n v u iv (λ o. Unit {0})
      (record { this = trivially_known _ _; parameter = λ i h. trivially_known _ _; slot = λ d k f a b c x. trivially_known _ _ })
      (Below problem) (λ s h. h) (omega arith) (λ i h. (parameter_slot problem i h).0) (λ d k f a b c x. (object_slot problem d k f a b (omega (arith, c, extent_within problem w v d k a b))).0) (walk_is_below v)

  -- ---- with no other names

  abbrev same_name : ℕ → ℕ → ℕ
  same_name d k = k

  no_names : IsRenaming (space_of problem) same_name
  no_names = record { within = λ d k h. h; apart = λ d j k a b e. e }

  stays : (s : ℕ) → Below problem s → on problem w same_name no_names s ≡ s
  stays s h = go (slot_case problem s h)
    where
      go : SlotCase problem s → on problem w same_name no_names s ≡ s
      go (is_this z) = rw (z, on_this problem w same_name no_names) refl
      go (is_parameter i l z) = rw (z, on_parameter problem w same_name no_names i l) refl
      go (is_spot d k j a b c z) = rw (z, on_spot problem w same_name no_names d k j a b c) refl

  index_stays : (s i : ℕ) → on_index (space_of problem) same_name s i ≡ i
  unfolding space_of
  index_stays s i = go (get_or (choices_at problem s) i no_choice).object refl
    where
      go : (x : Option DomainObject) → (get_or (choices_at problem s) i no_choice).object ≡ x → moved same_name (get_or (choices_at problem s) i no_choice).object 1 i ≡ i
      go None e = ap (λ (x : Option DomainObject). moved same_name x 1 i) e
      go (Some o) e = let b = block_of problem (slot_at problem s).domain i o e in ap (λ (x : Option DomainObject). moved same_name x 1 i) e ∙ omega (arith, b.room)

  agrees_at : (v u : List ℕ) (s : ℕ) → Below problem s → get_or v s 0 ≡ get_or u s 0 → AgreeAt problem w same_name no_names v u s
  agrees_at v u s h e = ap (λ (x : ℕ). get_or u x 0) (stays s h) ∙ (sym e ∙ sym (index_stays s (get_or v s 0)))

  all_stay : (ss : List ℕ) → AllOf (Below problem) ss → map (on problem w same_name no_names) ss ≡ ss
  all_stay [] h = refl
  all_stay (s ∷ ss) h = ap (λ (x : ℕ). x ∷ map (on problem w same_name no_names) ss) (stays s h.0) ∙ ap (λ (x : List ℕ). s ∷ x) (all_stay ss h.1)

  -- ---- orders are slots, each once, and reachable

  all_below : (ss : List ℕ) → AllOf (Below problem) ss → AllBelow (space_of problem).slots ss
  unfolding space_of
  all_below [] h = tt
  all_below (s ∷ ss) h = (h.0, all_below ss h.1)

  order_below : (v : List ℕ) → IsVector (space_of problem) v → AllOf (Below problem) (order_of problem v)
  order_below v iv = (slots_always (on problem w same_name no_names) (AgreeAt problem w same_name no_names v v) (Below problem) (ended problem v ≡ ended problem v) (order_of problem v) (order_of problem v) (λ s h. agrees_at v v s h refl) (plain_fork same_name no_names v v iv)).2

  order_once : (v : List ℕ) → Differ (order_of problem v)
  unfolding order_of
  order_once v = apart_differ (order_of problem v) (apart_distinct is_same_number (λ x. eq-eqb x x refl) (read_slots problem v ++ accepted_walk problem v))

  abbrev Walked : List ℕ → ℕ → Type 0
  Walked v s = Below problem s × Has s (walk problem v)

  walks : (v : List ℕ) (s : ℕ) → Has s (walked problem v (length (all_objects problem))) → Has s (walk problem v)
  unfolding walk
  walks v s h = h

  order_walked : (v : List ℕ) → IsVector (space_of problem) v → AllOf (Walked v) (order_of problem v)
  order_walked v iv =
      (slots_always (on problem w same_name no_names) (AgreeAt problem w same_name no_names v v) (Walked v) (ended problem v ≡ ended problem v) (order_of problem v) (order_of problem v) (λ s h. agrees_at v v s h.0 refl)
      (orders_fork problem w pure same_name no_names v v iv (IsMet problem w v)
      (record { this = this_known problem w v; parameter = parameter_known problem w v; slot = field_known problem w v })
      (Walked v) (λ s h. h.0)
      (omega arith, walks v 0 (root_walked problem w v 0 (omega arith)))
      (λ i h. ((parameter_slot problem i h).0, walks v (i + 1) (root_walked problem w v (i + 1) (omega (arith, h)))))
      (λ d k f a b c m. ((object_slot problem d k f a b (omega (arith, c, extent_within problem w v d k a b))).0, walks v (first_slot problem d k + f) (field_walked problem w v d k f a b c m)))
      (all_from (Walked v) (walk problem v) (λ s h. (all_has (Below problem) (walk problem v) (walk_is_below v) s h, h))))).2

  is_in : (s : ℕ) (ts : List ℕ) → Has s ts → IsIn s ts
  is_in s [] h = h
  is_in s (t ∷ ts) (inl e) = inl e
  is_in s (t ∷ ts) (inr h) = inr (is_in s ts h)

  are_in : (ss ts : List ℕ) → AllOf (λ s. Has s ts) ss → AreIn ss ts
  are_in [] ts h = tt
  are_in (s ∷ ss) ts h = (is_in s ts h.0, are_in ss ts h.1)

  reachable : (v : List ℕ) → IsVector (space_of problem) v → AreIn (order_of problem v) (walk problem v)
  reachable v iv = are_in (order_of problem v) (walk problem v) (all_map (Walked v) (λ s. Has s (walk problem v)) (order_of problem v) (λ s h. h.1) (order_walked v iv))

  -- ---- orders fork

  abbrev Equal : List ℕ → List ℕ → ℕ → Type 0
  Equal u v s = get_or u s 0 ≡ get_or v s 0

  forks_from : (u v : List ℕ) (X Y : Type 0) (ss ts : List ℕ) → SlotForks (on problem w same_name no_names) (Below problem) (AgreeAt problem w same_name no_names u v) X ss ts → (X → ts ≡ ss → AllOf (Equal u v) ss → Y) → Forks u v Y ss ts
  forks_from u v X Y [] [] f g = g f refl tt
  forks_from u v X Y [] (t ∷ ts) f g = absurd f
  forks_from u v X Y (s ∷ ss) [] f g = absurd f
  forks_from u v X Y (s ∷ ss) (t ∷ ts) f g =
      let e : t ≡ s = f.0 ∙ stays s f.1 in
      (sym e, λ a. forks_from u v X Y ss ts (f.2 (agrees_at u v s f.1 a)) (λ x q all. g x (ap (λ (y : ℕ). y ∷ ts) e ∙ ap (λ (l : List ℕ). s ∷ l) q) (a, all)))

  keys_same : (u v : List ℕ) (ss : List ℕ) → AllOf (Equal u v) ss → key_along u ss ≡ key_along v ss
  keys_same u v [] h = refl
  keys_same u v (s ∷ ss) h = ap (λ (x : ℕ). x ∷ key_along u ss) h.0 ∙ ap (λ (l : List ℕ). get_or v s 0 ∷ l) (keys_same u v ss h.1)

  abbrev valued : List ℕ → ℕ → ℕ × Value
  valued v s = (s, value_at problem v s)

  structures_same : (u v : List ℕ) (ss : List ℕ) → AllOf (Equal u v) ss → map (valued u) ss ≡ map (valued v) ss
  structures_same u v [] h = refl
  structures_same u v (s ∷ ss) h =
      let here : valued u s ≡ valued v s = ap (at s) h.0 in
      ap (λ (x : ℕ × Value). x ∷ map (valued u) ss) here ∙ ap (λ (l : List (ℕ × Value)). valued v s ∷ l) (structures_same u v ss h.1)
    where
      at : ℕ → ℕ → ℕ × Value
      at s x = (s, (get_or (choices_at problem s) x no_choice).value)

  -- the slots that an accepting run walks are in its order
  walk_ordered : (u : List ℕ) → end_on problem u ≡ True → (s : ℕ) → Has s (walk problem u) → Has s (order_of problem u)
  unfolding order_of
  walk_ordered u e s h =
      has_distinct is_same_number (λ x y q. eqb-true x y q) s (read_slots problem u ++ accepted_walk problem u) (has_append_right s (read_slots problem u) (accepted_walk problem u) (subst (λ (x : End). Has s (if is_accepted x then walk problem u else [])) (sym e) h))

  rows_same : (u v : List ℕ) → end_on problem u ≡ True → order_of problem v ≡ order_of problem u → AllOf (Equal u v) (order_of problem u) → row_of problem u ≡ row_of problem v
  rows_same u v e o all =
      let on_walk : AllOf (Equal u v) (walk problem u) = all_from (Equal u v) (walk problem u) (λ s h. all_has (Equal u v) (order_of problem u) all s (walk_ordered u e s h)) in
      let agreed : AllOf (AgreeAt problem w same_name no_names u v) (walk problem u) = all_from (AgreeAt problem w same_name no_names u v) (walk problem u) (λ s h. agrees_at u v s (all_has (Below problem) (walk problem u) (walk_is_below u) s h) (all_has (Equal u v) (walk problem u) on_walk s h)) in
      let r = slots_agreed (on problem w same_name no_names) (AgreeAt problem w same_name no_names u v) (Below problem) (Unit {0}) (walk problem u) (walk problem v) agreed (walks_fork problem w same_name no_names u v) in
      let walks_same : walk problem v ≡ walk problem u = r.1 ∙ all_stay (walk problem u) (walk_is_below u) in
      let key : key_of problem u ≡ key_of problem v = keys_same u v (order_of problem u) all ∙ ap (key_along v) (sym o) in
      let structure : structure_of problem u ≡ structure_of problem v = structures_same u v (walk problem u) on_walk ∙ ap (map (valued v)) (sym walks_same) in
      let verdict = verdicts_same problem w u v on_walk in
      rw (key, structure, verdict) refl

  marks_same : (u v : List ℕ) → end_on problem v ≡ end_on problem u → order_of problem v ≡ order_of problem u → AllOf (Equal u v) (order_of problem u) → mark_of problem u ≡ mark_of problem v
  unfolding mark_of
  marks_same u v e o all = go (end_on problem u) refl
    where
      both : (x : End) → end_on problem u ≡ x → mark_for x (row_of problem u) ≡ mark_for x (row_of problem v) → mark_for (end_on problem u) (row_of problem u) ≡ mark_for (end_on problem v) (row_of problem v)
      both x q m = ap (λ (y : End). mark_for y (row_of problem u)) q ∙ (m ∙ sym (ap (λ (y : End). mark_for y (row_of problem v)) (e ∙ q)))

      go : (x : End) → end_on problem u ≡ x → mark_for (end_on problem u) (row_of problem u) ≡ mark_for (end_on problem v) (row_of problem v)
      go True q = both True q (ap (mark_for True) (rows_same u v q o all))
      go False q = both False q refl
      go (Trap kind) q = both (Trap kind) q refl
      go Spent q = both Spent q refl

  all_fork : (u v : List ℕ) → IsVector (space_of problem) u → IsVector (space_of problem) v → Forks u v (mark_of problem u ≡ mark_of problem v) (order_of problem u) (order_of problem v)
  all_fork u v iu iv = forks_from u v (ended problem v ≡ ended problem u) (mark_of problem u ≡ mark_of problem v) (order_of problem u) (order_of problem v) (plain_fork same_name no_names u v iu) (λ e o all. marks_same u v (ap (λ (x : End × ℕ). x.0) e) o all)

  all_agreed : (u v : List ℕ) → IsVector (space_of problem) u → IsVector (space_of problem) v → Forks u v (ended problem u ≡ ended problem v) (order_of problem u) (order_of problem v)
  all_agreed u v iu iv = forks_from u v (ended problem v ≡ ended problem u) (ended problem u ≡ ended problem v) (order_of problem u) (order_of problem v) (plain_fork same_name no_names u v iu) (λ e o all. sym e)

  -- ---- renamed vectors

  renamed_agree : (name : ℕ → ℕ → ℕ) (v u : List ℕ) (n : IsRenaming (space_of problem) name) → IsMoved (space_of problem) name v u → (s : ℕ) → Below problem s → AgreeAt problem w name n v u s
  unfolding space_of
  renamed_agree name v u n r s h = r.values s h

  renamed_runs : (name : ℕ → ℕ → ℕ) (v u : List ℕ) (n : IsRenaming (space_of problem) name) → IsVector (space_of problem) v → IsRenamed (space_of problem) name v u → (ended problem u ≡ ended problem v) × (order_of problem u ≡ map (on problem w name n) (order_of problem v)) × AllOf (Below problem) (order_of problem v)
  renamed_runs name v u n iv r = slots_always (on problem w name n) (AgreeAt problem w name n v u) (Below problem) (ended problem u ≡ ended problem v) (order_of problem v) (order_of problem u) (renamed_agree name v u n (moves (space_of problem) (is_space problem w) name n v u iv r)) (plain_fork name n v u iv)

  pub is_lawful : IsLawful problem
  is_lawful = record {
    space = is_space problem w;
    reading = record {
      below = λ v iv. all_below (order_of problem v) (order_below v iv);
      once = λ v iv. order_once v;
      forks = all_fork;
      renames = λ name v u n iv r.
          let o = renamed_runs name v u n iv r in
          subst (AreRenamedSlots (space_of problem) name (order_of problem v)) (sym o.1) (moved_orders (space_of problem) (is_space problem w) name n (order_of problem v) (all_below (order_of problem v) (order_below v iv)));
    };
    agreed = all_agreed;
    ends = λ name v u n iv r. (renamed_runs name v u n iv r).0;
    reachable = reachable;
  }
