-- One renaming after another, along an order.
use Rattle.std.proofs.Common.{◌≡◌, ℕ, ◌+◌, ◌-◌, ◌*◌, ◌<◌, List, [], ◌∷◌, refl, sym, ap, ◌∙◌, arith, get_or, Option, Some, None}
use Rattle.std.specs.Prelude.{map}
use Rattle.kr_mean.specs.Problem.{DomainObject}
use Rattle.kr_mean.specs.Space.{Space, IsVector, IsRenaming}
use Rattle.kr_mean.specs.Blocks.{width_in, IsMoved, IsSpace, IsBlock, IsPart, on_slot, on_index}
use Rattle.kr_mean.specs.Readings.{AllBelow}
use Rattle.kr_iso.proofs.Least.{renamed_along}

module _ (space : Space) (is : IsSpace space) where
  index_twice : (m f : ℕ → ℕ → ℕ) → IsRenaming space m → (s i : ℕ) → s < space.slots → i < space.size s → (x : Option DomainObject) → space.object_at s i ≡ x → on_index space f s (on_index space m s i) ≡ on_index space (λ c k. f c (m c k)) s i
  index_twice m f n s i hs hi None e = let a : on_index space m s i ≡ i = rw e refl in rw a (rw e refl)
  index_twice m f n s i hs hi (Some o) e =
      let b : IsBlock space s i o = is.blocks s i o hs hi e in
      let a : on_index space m s i ≡ i - o.number + m o.domain o.number = rw e (let r = b.room in omega arith) in
      let there : space.object_at s (i - o.number + m o.domain o.number) ≡ Some (record { domain = o.domain; number = m o.domain o.number }) = b.all (m o.domain o.number) (n.within o.domain o.number b.number) in
      let left : on_index space f s (i - o.number + m o.domain o.number) ≡ (i - o.number + m o.domain o.number) - m o.domain o.number * 1 + f o.domain (m o.domain o.number) * 1 = rw there refl in
      let right : on_index space (λ c k. f c (m c k)) s i ≡ i - o.number * 1 + f o.domain (m o.domain o.number) * 1 = rw e refl in
      ap (on_index space f s) a ∙ (left ∙ (join i o.number (m o.domain o.number) (f o.domain (m o.domain o.number)) ∙ sym right))
    where
      join : (p q r t : ℕ) → (p - q + r) - r * 1 + t * 1 ≡ p - q * 1 + t * 1
      join p q r t = omega arith

  slot_objects : (m : ℕ → ℕ → ℕ) → IsRenaming space m → (s i : ℕ) → s < space.slots → (x : Option DomainObject) → space.owner s ≡ x → space.object_at (on_slot space m s) i ≡ space.object_at s i
  slot_objects m n s i hs None e = let a : on_slot space m s ≡ s = rw e refl in rw a refl
  slot_objects m n s i hs (Some o) e =
      let p : IsPart space s o = is.parts s o hs e in
      let a : on_slot space m s ≡ s - o.number * width_in space o.domain + m o.domain o.number * width_in space o.domain = rw e refl in
      rw a (p.objects (m o.domain o.number) i (n.within o.domain o.number p.number))

  pub along_twice : (m f : ℕ → ℕ → ℕ) → IsRenaming space m → (v w : List ℕ) → IsVector space v → IsMoved space m v w → (ss : List ℕ) → AllBelow space.slots ss → renamed_along space f w (map (on_slot space m) ss) ≡ renamed_along space (λ c k. f c (m c k)) v ss
  along_twice m f n v w iv r [] b = refl
  along_twice m f n v w iv r (s ∷ ss) b =
      let i = get_or v s 0 in
      let here : on_index space f (on_slot space m s) (get_or w (on_slot space m s) 0) ≡ on_index space f (on_slot space m s) (on_index space m s i) = ap (on_index space f (on_slot space m s)) (r.values s b.0) in
      let moved : on_index space f (on_slot space m s) (on_index space m s i) ≡ on_index space f s (on_index space m s i) = rw (slot_objects m n s (on_index space m s i) b.0 (space.owner s) refl) refl in
      let one = here ∙ (moved ∙ index_twice m f n s i b.0 (iv.within s b.0) (space.object_at s i) refl) in
      ap (λ (x : ℕ). x ∷ renamed_along space f w (map (on_slot space m) ss)) one ∙ ap (λ (l : List ℕ). on_index space (λ c k. f c (m c k)) s i ∷ l) (along_twice m f n v w iv r ss b.1)
