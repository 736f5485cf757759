-- Each vector has a least renaming, which settles to a listed vector.
use Rattle.std.proofs.Common.{◌≡◌, ℕ, ◌<◌, inl, inr, List, [], ◌∷◌, refl, sym, ap, ◌∙◌, subst, arith, get_or, Bool, true, false}
use Rattle.std.specs.Prelude.{map, if◌then◌else◌}
use Rattle.std.proofs.lemmas.List.FromFn.{length-map-range_with_len, get_or-map-range_with_len}
use Rattle.kr_base.specs.declared.entry.Mark.{Mark}
use Rattle.kr_base.specs.Cuts.{Before}
use Rattle.kr_mean.specs.Problem.{upto}
use Rattle.kr_mean.specs.Space.{Space, IsVector, IsRenaming, IsRenamed}
use Rattle.kr_mean.specs.Blocks.{IsSpace, on_index}
use Rattle.kr_mean.specs.Readings.{AllBelow, Lacks, IsReading}
use Rattle.kr_mean.specs.Runs.{key_along, contains_number}
use Rattle.kr_mean.specs.Isomorphism.{AgreeOn, IsLeast}
use Rattle.kr_mean.specs.Entries.{IsListed, renamings, name_in, renamed}
use Rattle.kr_laws_pruning.proofs.CutOrder.{before_trans, before_not_self, tested}
use Rattle.kr_laws_pruning.proofs.Forks.{forks_agree, forks_equal}
use Rattle.kr_laws_pruning.proofs.Membership.{Has}
use Rattle.kr_laws_pruning.proofs.Numbers.{has_number, lacks_number, has_not}
use Rattle.kr_laws_pruning.proofs.Renamings.{row_of, names_have, names_same, names_rename}
use Rattle.kr_iso.proofs.Least.{renamed_along}
use Rattle.kr_iso.proofs.Moves.{moves, reading_moves}
use Rattle.kr_laws_pruning.proofs.Renamed.{renamed_is_renamed, along_same}
use Rattle.kr_laws_pruning.proofs.Inverses.{back, back_renames, back_again, after_renames}
use Rattle.kr_laws_pruning.proofs.Compositions.{along_twice}
use Rattle.kr_laws_pruning.proofs.Listed.{renamed_key}

-- an element of the least key
least_of : {A : Type 0} (key : A → List ℕ) (x : A) (xs : List A) → (m : A) × Has m (x ∷ xs) × ((y : A) → Has y (x ∷ xs) → Before (key y) (key m) → ⊥)
least_of {A} key x [] = (x, inl refl, λ y h b. elim h [ inl e ↦ before_not_self (key x) (subst (λ (z : A). Before (key z) (key x)) (sym e) b) | inr k ↦ k ])
least_of {A} key x (z ∷ xs) = go (least_of key z xs)
  where
    go : ((m : A) × Has m (z ∷ xs) × ((y : A) → Has y (z ∷ xs) → Before (key y) (key m) → ⊥)) → (m : A) × Has m (x ∷ z ∷ xs) × ((y : A) → Has y (x ∷ z ∷ xs) → Before (key y) (key m) → ⊥)
    go r = elim (tested (key x) (key r.0)) [
      | inl t ↦ (x, inl refl, λ y h b. elim h [ inl e ↦ before_not_self (key x) (subst (λ (q : A). Before (key q) (key x)) (sym e) b) | inr k ↦ r.2 y k (before_trans (key y) (key x) (key r.0) b t.0) ])
      | inr t ↦ (r.0, inr r.1, λ y h b. elim h [ inl e ↦ t.0 (subst (λ (q : A). Before (key q) (key r.0)) (sym e) b) | inr k ↦ r.2 y k b ])
    ]

least_in : {A : Type 0} (key : A → List ℕ) (x : A) (xs : List A) → Has x xs → (m : A) × Has m xs × ((y : A) → Has y xs → Before (key y) (key m) → ⊥)
least_in key x [] h = absurd h
least_in key x (z ∷ xs) h = least_of key z xs

-- vectors with one key along an order have one key along it under other names
same_renamed : (space : Space) (name : ℕ → ℕ → ℕ) (ss u w : List ℕ) → key_along u ss ≡ key_along w ss → renamed_along space name u ss ≡ renamed_along space name w ss
same_renamed space name [] u w e = refl
same_renamed space name (s ∷ ss) u w e =
    let first : get_or u s 0 ≡ get_or w s 0 = cc in
    let rest : key_along u ss ≡ key_along w ss = cc in
    ap (λ (x : ℕ). on_index space name s x ∷ renamed_along space name u ss) first ∙ ap (λ (l : List ℕ). on_index space name s (get_or w s 0) ∷ l) (same_renamed space name ss u w rest)

agree_key : (ss u w : List ℕ) → AgreeOn ss u w → key_along u ss ≡ key_along w ss
agree_key [] u w a = refl
agree_key (s ∷ ss) u w a = ap (λ (x : ℕ). x ∷ key_along u ss) a.0 ∙ ap (λ (l : List ℕ). get_or w s 0 ∷ l) (agree_key ss u w a.1)

module _ (space : Space) {R : Type 0} (order : List ℕ → List ℕ) (mark : List ℕ → Mark R) (is : IsSpace space) (reading : IsReading space order mark) where
  -- a renaming of the vector, with the least key of all
  pub record LeastRenaming (v : List ℕ) : Type 0 where
    pub name : ℕ → ℕ → ℕ
    pub other : List ℕ
    pub renaming : IsRenaming space name
    pub is_renamed : IsRenamed space name v other
    pub lowest : (f : ℕ → ℕ → ℕ) → IsRenaming space f → Before (renamed_along space f v (order v)) (key_along other (order other)) → ⊥

  pub least_renaming : (v : List ℕ) → IsVector space v → LeastRenaming v
  least_renaming v iv =
      let along : List (List ℕ) → List ℕ = λ m. renamed_along space (name_in m) v (order v) in
      let plain : IsRenaming space (λ c k. k) = record { within = λ c k h. h; apart = λ c j k hj hk e. e } in
      let r = least_in along (map (row_of (λ c k. k) space.count) (upto space.domains)) (renamings space) (names_have space (λ c k. k) plain) in
      let n : IsRenaming space (name_in r.0) = names_rename space r.0 r.1 in
      let w = renamed space (name_in r.0) v in
      let rw' : IsRenamed space (name_in r.0) v w = renamed_is_renamed space is (name_in r.0) n v iv in
      let kw : key_along w (order w) ≡ along r.0 = renamed_key space order mark is reading v w iv (name_in r.0) n rw' in
      record {
        name = name_in r.0;
        other = w;
        renaming = n;
        is_renamed = rw';
        lowest = λ f nf b.
            let names : List (List ℕ) = map (row_of f space.count) (upto space.domains) in
            let kn : along names ≡ renamed_along space f v (order v) = along_same space is (name_in names) f (λ c k hc hk. names_same space f c k hc hk) v iv (order v) (reading.below v iv) in
            r.2 names (names_have space f nf) (subst (λ (k : List ℕ). Before k (along r.0)) (sym kn) (subst (λ (k : List ℕ). Before (renamed_along space f v (order v)) k) kw b));
      }

  -- the key of a renaming's renaming
  key_twice : (f h : ℕ → ℕ → ℕ) (v w : List ℕ) → IsRenaming space f → IsVector space v → IsRenamed space f v w → renamed_along space h w (order w) ≡ renamed_along space (λ c k. h c (f c k)) v (order v)
  key_twice f h v w n iv r = ap (renamed_along space h w) (reading_moves space is f n order mark reading v w iv r) ∙ along_twice space is f h n v w iv (moves space is f n v w iv r) (order v) (reading.below v iv)

  pub lowest_is_least : (v : List ℕ) → IsVector space v → (m : LeastRenaming v) → IsLeast space order m.other
  lowest_is_least v iv m f x nf rx b =
      let kx : key_along x (order x) ≡ renamed_along space f m.other (order m.other) = renamed_key space order mark is reading m.other x m.is_renamed.vector f nf rx in
      let ko : renamed_along space f m.other (order m.other) ≡ renamed_along space (λ c k. f c (m.name c k)) v (order v) = key_twice m.name f v m.other m.renaming iv m.is_renamed in
      m.lowest (λ c k. f c (m.name c k)) (after_renames space m.name f m.renaming nf) (subst (λ (k : List ℕ). Before k (key_along m.other (order m.other))) (kx ∙ ko) b)

  -- a least vector with the key of a vector's renaming has no greater key than any other renaming of that vector
  pub least_of_all : (v w l : List ℕ) (f : ℕ → ℕ → ℕ) → IsVector space v → IsVector space l → IsRenaming space f → IsRenamed space f v w → key_along l (order l) ≡ key_along w (order w) → IsLeast space order l
      → (g : ℕ → ℕ → ℕ) → IsRenaming space g → Before (renamed_along space g v (order v)) (key_along l (order l)) → ⊥
  least_of_all v w l f iv il nf r e least g ng b = least h x nh rx (subst (λ (k : List ℕ). Before k (key_along l (order l))) (sym all) b)
    where
      h : ℕ → ℕ → ℕ
      h = λ c k. g c (back space.count f c k)

      nh : IsRenaming space h
      nh = after_renames space (back space.count f) g (back_renames space f nf) ng

      x : List ℕ
      x = renamed space h l

      rx : IsRenamed space h l x
      rx = renamed_is_renamed space is h nh l il

      orders : order l ≡ order w
      orders = (forks_equal l w (mark l ≡ mark w) (order l) (order w) (reading.forks l w il r.vector) e).0

      like : renamed_along space h l (order l) ≡ renamed_along space h w (order w)
      like = ap (renamed_along space h l) orders ∙ same_renamed space h (order w) l w (sym (ap (key_along l) orders) ∙ e)

      undone : renamed_along space (λ c k. h c (f c k)) v (order v) ≡ renamed_along space g v (order v)
      undone = along_same space is (λ c k. h c (f c k)) g (λ c k hc hk. ap (g c) (back_again space f nf c k hk)) v iv (order v) (reading.below v iv)

      all : key_along x (order x) ≡ renamed_along space g v (order v)
      all = renamed_key space order mark is reading l x il h nh rx ∙ (like ∙ (key_twice f h v w nf iv r ∙ undone))

  -- 0 at all slots that the order doesn't reach
  pub settle_at : List ℕ → ℕ → ℕ
  settle_at w s = if contains_number (order w) s then get_or w s 0 else 0

  pub settled : List ℕ → List ℕ
  settled w = map (settle_at w) (upto space.slots)

  settled_get : (w : List ℕ) (s : ℕ) → s < space.slots → get_or (settled w) s 0 ≡ (if contains_number (order w) s then get_or w s 0 else 0)
  unfolding settled settle_at
  settled_get w s h = get_or-map-range_with_len (settle_at w) 0 space.slots s s 0 h (omega arith)

  settled_vector : (w : List ℕ) → IsVector space w → IsVector space (settled w)
  unfolding settled
  settled_vector w iw = record {
    long = length-map-range_with_len (settle_at w) 0 space.slots;
    within = λ s h. subst (λ (x : ℕ). x < space.size s) (sym (settled_get w s h)) (either (contains_number (order w) s) s (iw.within s h) (is.filled s h));
  }
    where
      either : (b : Bool) (s : ℕ) → get_or w s 0 < space.size s → 0 < space.size s → (if b then get_or w s 0 else 0) < space.size s
      either true s p q = p
      either false s p q = q

  settled_along : (w : List ℕ) (ss : List ℕ) → AllBelow space.slots ss → ((s : ℕ) → Has s ss → Has s (order w)) → AgreeOn ss (settled w) w
  settled_along w [] b h = tt
  settled_along w (s ∷ ss) b h =
      (settled_get w s b.0 ∙ (let e : contains_number (order w) s ≡ true = has_number (order w) s (h s (inl refl)) in rw e refl), settled_along w ss b.1 (λ t k. h t (inr k)))

  pub record Settles (w : List ℕ) : Type 0 where
    pub listed : IsListed space order (settled w)
    pub same_key : key_along (settled w) (order (settled w)) ≡ key_along w (order w)
    pub same_mark : mark (settled w) ≡ mark w

  pub settles : (w : List ℕ) → IsVector space w → IsLeast space order w → Settles w
  settles w iw least =
      let u = settled w in
      let iu : IsVector space u = settled_vector w iw in
      let a : AgreeOn (order w) u w = settled_along w (order w) (reading.below w iw) (λ s h. h) in
      let along : key_along u (order w) ≡ key_along w (order w) = agree_key (order w) u w a in
      let q = forks_agree w u (mark w ≡ mark u) (order w) (order u) (reading.forks w u iw iu) along in
      let o : order u ≡ order w = sym q.0 in
      let ku : key_along u (order u) ≡ key_along w (order w) = ap (key_along u) o ∙ along in
      record {
        listed = record {
          vector = iu;
          least = λ f x nf rx b.
              let x' = renamed space f w in
              let rx' : IsRenamed space f w x' = renamed_is_renamed space is f nf w iw in
              let kx : key_along x (order x) ≡ renamed_along space f u (order u) = renamed_key space order mark is reading u x iu f nf rx in
              let kx' : key_along x' (order x') ≡ renamed_along space f w (order w) = renamed_key space order mark is reading w x' iw f nf rx' in
              let e : key_along x (order x) ≡ key_along x' (order x') = kx ∙ (ap (renamed_along space f u) o ∙ (same_renamed space f (order w) u w along ∙ sym kx')) in
              least f x' nf rx' (subst (λ (k : List ℕ). Before k (key_along w (order w))) e (subst (λ (k : List ℕ). Before (key_along x (order x)) k) ku b));
          settled = λ s h l. settled_get w s h ∙ (let no : contains_number (order w) s ≡ false = lacks_number (order w) s (has_not (order w) s (subst (λ (z : List ℕ). Lacks z s) o l)) in rw no refl);
        };
        same_key = ku;
        same_mark = sym q.1;
      }
