-- Two objects of a class domain that change places.
use Rattle.std.proofs.Common.{◌≡◌, ℕ, ◌+◌, ◌-◌, ◌*◌, ◌<◌, List, Option, Some, None, refl, sym, ap, ◌∙◌, subst, get_or, arith}
use Rattle.std.specs.Prelude.{map}
use Rattle.std.specs.List.{range_with_len}
use Rattle.std.proofs.lemmas.List.FromFn.{length-map-range_with_len, get_or-map-range_with_len}
use Rattle.std.proofs.lemmas.Bool.Decides.{nat_tests}
use Rattle.kr_mean.specs.Problem.{DomainObject}
use Rattle.kr_mean.specs.Space.{Space, IsVector, IsRenaming}
use Rattle.kr_mean.specs.Blocks.{width_in, IsBlock, IsPart, IsSpace, IsMoved, on_slot, on_index}
use Rattle.kr_iso.specs.Swap.{swap}

swap_back : (c m k d j : ℕ) → swap c m k d (swap c m k d j) ≡ j
swap_back c m k d j = grind (arith, nat_tests)

pub swap_second : (c m k : ℕ) → swap c m k c k ≡ m
swap_second c m k = grind (arith, nat_tests)

pub swap_others : (c m k d j : ℕ) → (d ≡ c → j ≡ m → ⊥) → (d ≡ c → j ≡ k → ⊥) → swap c m k d j ≡ j
swap_others c m k d j p q = grind (arith, nat_tests)

swap_within : (n c m k d j : ℕ) → (d ≡ c → m < n) → (d ≡ c → k < n) → j < n → swap c m k d j < n
swap_within n c m k d j hm hk hj = grind (arith, nat_tests)

pub swap_renames : (S : Space) (c m k : ℕ) → m < S.count c → k < S.count c → IsRenaming S (swap c m k)
swap_renames S c m k hm hk = record {
  within = λ d j hj. swap_within (S.count d) c m k d j (λ e. rw e hm) (λ e. rw e hk) hj;
  apart = λ d i j hi hj e. sym (swap_back c m k d i) ∙ ap (swap c m k d) e ∙ swap_back c m k d j;
}

-- a renaming that is its own inverse
module _ (S : Space) (is : IsSpace S) (name : ℕ → ℕ → ℕ) (n : IsRenaming S name) (back : (d j : ℕ) → name d (name d j) ≡ j) where
  record Goes (s : ℕ) : Type 0 where
    within : on_slot S name s < S.slots
    again : on_slot S name (on_slot S name s) ≡ s
    size : S.size (on_slot S name s) ≡ S.size s

  goes : (s : ℕ) → s < S.slots → (x : Option DomainObject) → S.owner s ≡ x → Goes s
  goes s h None e = let same : on_slot S name s ≡ s = rw e refl in record {
    within = rw same h;
    again = rw same same;
    size = rw same refl;
  }
  goes s h (Some o) e = record {
    within = rw there (part.inside (name o.domain o.number) in_range);
    again = rw there twice;
    size = rw there (part.sizes (name o.domain o.number) in_range);
  }
    where
      part : IsPart S s o
      part = is.parts s o h e

      in_range : name o.domain o.number < S.count o.domain
      in_range = n.within o.domain o.number part.number

      there : on_slot S name s ≡ s - o.number * width_in S o.domain + name o.domain o.number * width_in S o.domain
      there = rw e refl

      twice : on_slot S name (s - o.number * width_in S o.domain + name o.domain o.number * width_in S o.domain) ≡ s
      twice = rw (part.all (name o.domain o.number) in_range) (rw (back o.domain o.number) (let r = part.room in omega arith))

  goes_index : (s i : ℕ) → s < S.slots → i < S.size s → (x : Option DomainObject) → S.object_at s i ≡ x → on_index S name s i < S.size s
  goes_index s i hs hi None e = rw e hi
  goes_index s i hs hi (Some o) e =
      let b : IsBlock S s i o = is.blocks s i o hs hi e in
      let h = b.inside (name o.domain o.number) (n.within o.domain o.number b.number) in
      rw e (omega arith)

  abbrev pub renamed_at : List ℕ → ℕ → ℕ
  renamed_at v t = on_index S name (on_slot S name t) (get_or v (on_slot S name t) 0)

  abbrev pub renamed : List ℕ → List ℕ
  renamed v = map (renamed_at v) (range_with_len 0 S.slots)

  fits : (v : List ℕ) → IsVector S v → (t : ℕ) → t < S.slots → renamed_at v t < S.size t
  fits v iv t h =
      let g = goes t h (S.owner t) refl in
      subst (λ (x : ℕ). renamed_at v t < x) g.size (goes_index (on_slot S name t) (get_or v (on_slot S name t) 0) g.within (iv.within (on_slot S name t) g.within) (S.object_at (on_slot S name t) (get_or v (on_slot S name t) 0)) refl)

  pub renamed_is : (v : List ℕ) → IsVector S v → IsMoved S name v (renamed v)
  renamed_is v iv = record {
    vector = record {
      long = length-map-range_with_len (renamed_at v) 0 S.slots;
      within = λ t h. rw (get_or-map-range_with_len (renamed_at v) 0 S.slots t t 0 h (omega arith)) (fits v iv t h);
    };
    values = λ s h. (get_or-map-range_with_len (renamed_at v) 0 S.slots (on_slot S name s) (on_slot S name s) 0 (goes s h (S.owner s) refl).within (omega arith)) ∙ ap (λ (x : ℕ). on_index S name x (get_or v x 0)) (goes s h (S.owner s) refl).again;
  }

pub swapped : Space → ℕ → ℕ → ℕ → List ℕ → List ℕ
swapped S c m k v = map (λ t. on_index S (swap c m k) (on_slot S (swap c m k) t) (get_or v (on_slot S (swap c m k) t) 0)) (range_with_len 0 S.slots)

pub swapped_is : (S : Space) → IsSpace S → (c m k : ℕ) → m < S.count c → k < S.count c → (v : List ℕ) → IsVector S v → IsMoved S (swap c m k) v (swapped S c m k v)
unfolding swapped
swapped_is S is c m k hm hk v iv = renamed_is S is (swap c m k) (swap_renames S c m k hm hk) (swap_back c m k) v iv
