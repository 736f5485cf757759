-- Where a renaming takes slots and indices, and the vector that is renamed one slot after another.
use Rattle.std.proofs.Common.{◌≡◌, ℕ, ◌+◌, ◌-◌, ◌*◌, ◌<◌, ◌≤◌, ◌⊎◌, inl, inr, List, length, get_or, set, zero, suc, [], ◌∷◌, Some, None, refl, sym, ap, ◌∙◌, subst, arith}
use Rattle.std.specs.Prelude.{replicate}
use Rattle.std.proofs.lemmas.Bool.{cases_eq}
use Rattle.std.proofs.lemmas.List.{get_or-set_same, get_or-set_other}
use Rattle.kr_mean.specs.Problem.{DomainObject, slots, slot_at, choices_at, domain_at}
use Rattle.kr_mean.specs.Space.{Space, IsVector, IsRenaming, no_choice, space_of}
use Rattle.kr_mean.specs.Blocks.{width_in, IsMoved, IsSpace, IsBlock, IsPart, on_slot, on_index}
use Rattle.kr_mean.specs.WellFormed.{IsWellFormed}
use Rattle.kr_space_layout.specs.Bounds.{Bounds, bare}
use Rattle.kr_iso.proofs.Moves as moves
use Rattle.kr_laws_pruning.proofs.Spaces.{is_space, width_is}

-- ---- slots

-- the slot's object, and where the slot goes: the object has slots in steps of a width
pub record Goes (b : Bounds) (name : ℕ → ℕ → ℕ) (s d k w : ℕ) : Type 0 where
  pub room : k * w ≤ s
  pub there : s - k * w + name d k * w ≡ on_slot (space_of (bare b)) name s
  pub inside : s - k * w + name d k * w < length (slots (bare b))

module _ (b : Bounds) (well : IsWellFormed (bare b)) (name : ℕ → ℕ → ℕ) (n : IsRenaming (space_of (bare b)) name) where
  pub owned : (s : ℕ) → s < length (slots (bare b)) → (o : DomainObject) → (slot_at (bare b) s).owner ≡ Some o → o.domain < length b.domains
  unfolding space_of
  owned s h o e = ((is_space (bare b) well).parts s o h e).domain

  pub goes : (s : ℕ) → s < length (slots (bare b)) → (o : DomainObject) → (slot_at (bare b) s).owner ≡ Some o → (w : ℕ) → w ≡ length (domain_at (bare b) o.domain).spots → Goes b name s o.domain o.number w
  unfolding space_of
  goes s h o e w width =
      let part : IsPart (space_of (bare b)) s o = (is_space (bare b) well).parts s o h e in
      let m = length (domain_at (bare b) o.domain).spots in
      let wide : width_in (space_of (bare b)) o.domain ≡ m = width_is (bare b) well o.domain part.domain (let k = part.number in omega (arith, k)) in
      subst (λ (x : ℕ). Goes b name s o.domain o.number x) (wide ∙ sym width) (record {
        room = part.room;
        there = rw e refl;
        inside = part.inside (name o.domain o.number) (n.within o.domain o.number part.number);
      })

  pub stays : (s : ℕ) → (slot_at (bare b) s).owner ≡ None → s ≡ on_slot (space_of (bare b)) name s
  unfolding space_of
  stays s e = rw e refl

  -- ---- indices

  pub turns : (s i : ℕ) → s < length (slots (bare b)) → i < length (choices_at (bare b) s) → (o : DomainObject) → (get_or (choices_at (bare b) s) i no_choice).object ≡ Some o
      → (o.number ≤ i) × (i - o.number + name o.domain o.number ≡ on_index (space_of (bare b)) name s i) × (i - o.number + name o.domain o.number < length (choices_at (bare b) s))
  unfolding space_of
  turns s i h hi o e =
      let block : IsBlock (space_of (bare b)) s i o = (is_space (bare b) well).blocks s i o h hi e in
      (block.room, rw e (ap (λ (x : ℕ). x) (once i o.number (name o.domain o.number))), block.inside (name o.domain o.number) (n.within o.domain o.number block.number))
    where
      once : (x y z : ℕ) → x - y + z ≡ x - y * 1 + z * 1
      once x y z = omega arith

  pub keeps : (s i : ℕ) → (get_or (choices_at (bare b) s) i no_choice).object ≡ None → i ≡ on_index (space_of (bare b)) name s i
  unfolding space_of
  keeps s i e = rw e refl

  -- ---- both

  pub slot_room : (s : ℕ) → s < length (slots (bare b)) → on_slot (space_of (bare b)) name s < length (slots (bare b))
  unfolding space_of
  slot_room s h = (moves.lands (space_of (bare b)) (is_space (bare b) well) name n s h).inside

  pub index_room : (s i : ℕ) → s < length (slots (bare b)) → i < length (choices_at (bare b) s) → on_index (space_of (bare b)) name s i < length (choices_at (bare b) (on_slot (space_of (bare b)) name s))
  unfolding space_of
  index_room s i h hi =
      let l = moves.lands (space_of (bare b)) (is_space (bare b) well) name n s h in
      let g = moves.turns (space_of (bare b)) (is_space (bare b) well) name n s i h hi in
      subst (λ (m : ℕ). on_index (space_of (bare b)) name s i < m) (sym l.size) g.within

-- ---- one slot after another

-- the vector w has what v has, renamed, as far as the slots below a number go
pub record Renames (S : Space) (name : ℕ → ℕ → ℕ) (v w : List ℕ) (k : ℕ) : Type 0 where
  pub vector : IsVector S w
  pub values : (t : ℕ) → t < k → get_or w (on_slot S name t) 0 ≡ on_index S name t (get_or v t 0)

zeros : (m i : ℕ) → let z : ℕ = 0 in get_or (replicate m z) i z ≡ z
zeros zero i = refl
zeros (suc m) zero = refl
zeros (suc m) (suc i) = zeros m i

zeros_long : (m : ℕ) → let z : ℕ = 0 in length (replicate m z) ≡ m
zeros_long zero = refl
zeros_long (suc m) = ap suc (zeros_long m)

set_long : (xs : List ℕ) (i y : ℕ) → length (set xs i y) ≡ length xs
set_long [] i y = refl
set_long (x ∷ xs) zero y = refl
set_long (x ∷ xs) (suc i) y = ap suc (set_long xs i y)

pub vector_zero : (S : Space) → IsSpace S → (m : ℕ) → m ≡ S.slots → IsVector S (replicate m 0)
vector_zero S is m e = record { long = zeros_long m ∙ e; within = λ s h. subst (λ (x : ℕ). x < S.size s) (sym (zeros m s)) (is.filled s h) }

pub vector_set : (S : Space) (w : List ℕ) (s i : ℕ) → IsVector S w → s < S.slots → i < S.size s → IsVector S (set w s i)
vector_set S w s i is h hi = record { long = set_long w s i ∙ is.long; within = λ t ht. go t ht (cases_eq t s) }
  where
    go : (t : ℕ) → t < S.slots → (t ≡ s) ⊎ (t ≡ s → ⊥) → get_or (set w s i) t 0 < S.size t
    go t ht (inl e) = subst (λ (x : ℕ). get_or (set w s i) x 0 < S.size x) (sym e) (subst (λ (x : ℕ). x < S.size s) (sym (get_or-set_same w s i 0 (omega (arith, h, is.long)))) hi)
    go t ht (inr ne) = subst (λ (x : ℕ). x < S.size t) (sym (get_or-set_other w s t i 0 ne)) (is.within t ht)

pub starts : (S : Space) → IsSpace S → (name : ℕ → ℕ → ℕ) (v : List ℕ) (m : ℕ) → m ≡ S.slots → Renames S name v (replicate m 0) 0
starts S is name v m e = record { vector = vector_zero S is m e; values = λ t h. absurd (omega arith) }

pub renames_more : (S : Space) → IsSpace S → (name : ℕ → ℕ → ℕ) → IsRenaming S name → (v w : List ℕ) (k at i : ℕ) → Renames S name v w k → k < S.slots
    → at ≡ on_slot S name k → i ≡ on_index S name k (get_or v k 0) → at < S.slots → i < S.size at → Renames S name v (set w at i) (k + 1)
renames_more S is name n v w k at i r h ea ei hat hi = record { vector = vector_set S w at i r.vector hat hi; values = λ t ht. go t ht (cases_eq t k) }
  where
    here : get_or (set w at i) at 0 ≡ i
    here = get_or-set_same w at i 0 (let l = r.vector.long in omega (arith, hat, l))

    go : (t : ℕ) → t < k + 1 → (t ≡ k) ⊎ (t ≡ k → ⊥) → get_or (set w at i) (on_slot S name t) 0 ≡ on_index S name t (get_or v t 0)
    go t ht (inl e) = subst (λ (x : ℕ). get_or (set w at i) (on_slot S name x) 0 ≡ on_index S name x (get_or v x 0)) (sym e) (ap (λ (x : ℕ). get_or (set w at i) x 0) (sym ea) ∙ (here ∙ ei))
    go t ht (inr ne) =
        let lower : t < k = omega (arith, ht, ne) in
        get_or-set_other w at (on_slot S name t) i 0 (λ e. ne (moves.slots_apart S is name n t k (omega (arith, lower, h)) h (e ∙ ea))) ∙ r.values t lower

pub renamed_whole : (S : Space) (name : ℕ → ℕ → ℕ) (v w : List ℕ) (k : ℕ) → k ≡ S.slots → Renames S name v w k → IsMoved S name v w
renamed_whole S name v w k e r = record { vector = r.vector; values = λ s h. r.values s (omega (arith, h, e)) }
