-- A vector has one renamed vector.
use Rattle.std.proofs.Common.{◌≡◌, ℕ, zero, suc, ◌<◌, List, [], ◌∷◌, length, Option, Some, None, refl, sym, ap, ◌∙◌, subst, get_or, arith}
use Rattle.kr_mean.specs.Problem.{DomainObject}
use Rattle.kr_mean.specs.Space.{Space, IsVector, IsRenaming, IsRenamed, IsRenamedSlot, renamed_owner}
use Rattle.kr_mean.specs.Blocks.{IsSpace, IsMoved, on_slot}
use Rattle.kr_iso.proofs.Moves.{lands, moves, one_target, same_back}
use Rattle.kr_laws_pruning.proofs.Renamed.{renamed_is_renamed}
use Rattle.kr_laws_pruning.proofs.Spaces.{is_space}
use Rattle.kr_laws_pruning.proofs.Inverses.{back, back_renames, back_again}
use Rattle.kr_laws_pruning.specs.Laws.{RenamedLaw}

same_lists : (n : ℕ) (xs ys : List ℕ) → length xs ≡ n → length ys ≡ n → ((i : ℕ) → i < n → get_or xs i 0 ≡ get_or ys i 0) → xs ≡ ys
same_lists n [] [] l m f = refl
same_lists n [] (y ∷ ys) l m f = absurd (omega (arith, l, m))
same_lists n (x ∷ xs) [] l m f = absurd (omega (arith, l, m))
same_lists zero (x ∷ xs) (y ∷ ys) l m f = absurd (omega (arith, l))
same_lists (suc n) (x ∷ xs) (y ∷ ys) l m f =
    ap (λ (z : ℕ). z ∷ xs) (f 0 (omega arith)) ∙ ap (λ (zs : List ℕ). y ∷ zs) (same_lists n xs ys (omega (arith, l)) (omega (arith, m)) (λ i h. f (suc i) (omega (arith, h))))

module _ (space : Space) (is : IsSpace space) (name : ℕ → ℕ → ℕ) (n : IsRenaming space name) where
  abbrev undone : ℕ → ℕ → ℕ
  undone = back space.count name

  undoes : IsRenaming space undone
  undoes = back_renames space name n

  done_again : (d k : ℕ) → k < space.count d → name d (undone d k) ≡ k
  done_again d k h = undoes.apart d (name d (undone d k)) k (n.within d (undone d k) (undoes.within d k h)) h (back_again space name n d (undone d k) (undoes.within d k h))

  owner_again : (t : ℕ) → t < space.slots → (x : Option DomainObject) → space.owner t ≡ x → renamed_owner name (renamed_owner undone x) ≡ x
  owner_again t h None e = refl
  owner_again t h (Some o) e = ap (λ (k : ℕ). Some (record { domain = o.domain; number = k })) (done_again o.domain o.number (is.parts t o h e).number)

  -- the slot that a slot comes from
  abbrev from_slot : ℕ → ℕ
  from_slot t = on_slot space undone t

  comes_from : (t : ℕ) → t < space.slots → t ≡ on_slot space name (from_slot t)
  comes_from t h =
      let l = lands space is undone undoes t h in
      let a : IsRenamedSlot space name (from_slot t) t = record {
        owner = sym (ap (renamed_owner name) l.slot.owner ∙ owner_again t h (space.owner t) refl);
        spot = same_back (space.place t) (space.place (from_slot t)) l.slot.spot;
      } in
      one_target space is name n (from_slot t) t l.inside h a

  same_moved : (v u w : List ℕ) → IsMoved space name v u → IsMoved space name v w → (t : ℕ) → t < space.slots → get_or w t 0 ≡ get_or u t 0
  same_moved v u w a b t h =
      let l = lands space is undone undoes t h in
      subst (λ (x : ℕ). get_or w x 0 ≡ get_or u x 0) (sym (comes_from t h)) (b.values (from_slot t) l.inside ∙ sym (a.values (from_slot t) l.inside))

  pub only_renamed : (v u w : List ℕ) → IsVector space v → IsRenamed space name v u → IsRenamed space name v w → w ≡ u
  only_renamed v u w iv a b = same_lists space.slots w u b.vector.long a.vector.long (same_moved v u w (moves space is name n v u iv a) (moves space is name n v w iv b))

pub one_renamed : RenamedLaw
one_renamed problem well name n v iv =
    let is = is_space problem well in
    let r = renamed_is_renamed _ is name n v iv in
    record { is = r; only = λ w a. only_renamed _ is name n v _ w iv r a }
