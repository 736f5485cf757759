-- The vectors that the plain function keeps are the listed ones.
use Rattle.std.proofs.Common.{◌≡◌, ℕ, ◌+◌, ◌<◌, ◌⊎◌, inl, inr, List, [], ◌∷◌, refl, sym, ap, ◌∙◌, subst, arith, get_or, Bool, true, false}
use Rattle.std.specs.Prelude.{map, filter, ◌==◌, ◌&&◌, ◌||◌, not}
use Rattle.std.proofs.lemmas.Bool.Decides.{nat_tests}
use Rattle.std.proofs.lemmas.Bool.{cases_Bool}
use Rattle.kr_base.specs.declared.entry.Mark.{Mark}
use Rattle.kr_base.specs.declared.entry.Entry.{Entry}
use Rattle.kr_base.specs.Cuts.{Before, is_before}
use Rattle.kr_mean.specs.Problem.{upto}
use Rattle.kr_mean.specs.Space.{Space, IsVector, IsRenaming, IsRenamed}
use Rattle.kr_mean.specs.Blocks.{IsSpace}
use Rattle.kr_mean.specs.Readings.{Lacks, IsReading}
use Rattle.kr_mean.specs.Runs.{key_along, contains_number}
use Rattle.kr_mean.specs.Isomorphism.{IsLeast}
use Rattle.kr_mean.specs.Entries.{entry_of, IsListed, all_pass, vectors, renamings, name_in, renamed, key_by, is_least, is_settled}
use Rattle.kr_laws_pruning.proofs.CutOrder.{is_before_yes, is_before_no}
use Rattle.kr_laws_pruning.proofs.Forks.{forks_equal}
use Rattle.kr_laws_pruning.proofs.Membership.{Has, has_map, has_map_from, has_filter, has_filter_from, has_range, range_has, fits_has, has_fits, fits_ranges, ranges_fit}
use Rattle.kr_laws_pruning.proofs.Numbers.{lacks_number, has_not, no_lacks, has_number}
use Rattle.kr_laws_pruning.proofs.Renamings.{row_of, names_have, names_same, names_rename}
use Rattle.kr_iso.proofs.Least.{renamed_along, key_renamed}
use Rattle.kr_iso.proofs.Moves.{moves, reading_moves}
use Rattle.kr_laws_pruning.proofs.Renamed.{renamed_is_renamed, along_same}

pub vectors_have : (space : Space) (v : List ℕ) → IsVector space v → Has v (vectors space)
vectors_have space v iv = fits_has v (map (λ s. upto (space.size s)) (upto space.slots)) (fits_ranges space.size 0 space.slots v iv.long (λ k l. let e : 0 + k ≡ k = omega arith in rw e (iv.within k l)))

pub vectors_are : (space : Space) (v : List ℕ) → Has v (vectors space) → IsVector space v
vectors_are space v h =
    let r = ranges_fit space.size 0 space.slots v (has_fits v (map (λ s. upto (space.size s)) (upto space.slots)) h) in
    record { long = r.0; within = λ s l. let e : 0 + s ≡ s = omega arith in subst (λ (x : ℕ). get_or v s 0 < space.size x) e (r.1 s l) }

pass_at : {A : Type 0} (p : A → Bool) (xs : List A) (x : A) → all_pass p xs ≡ true → Has x xs → p x ≡ true
pass_at p [] x t h = absurd h
pass_at {A} p (y ∷ ys) x t h = go (cases_Bool (p y)) (pass_at p ys x) h
  where
    go : (p y ≡ true) ⊎ (p y ≡ false) → (all_pass p ys ≡ true → Has x ys → p x ≡ true) → (y ≡ x) ⊎ Has x ys → p x ≡ true
    go (inl e) r (inl q) = ap p (sym q) ∙ e
    go (inl e) r (inr q) = r (subst (λ (b : Bool). b && all_pass p ys ≡ true) e t) q
    go (inr e) r q = absurd (let z : false && all_pass p ys ≡ true = subst (λ (b : Bool). b && all_pass p ys ≡ true) e t in cc)

pass_all : {A : Type 0} (p : A → Bool) (xs : List A) → ((x : A) → Has x xs → p x ≡ true) → all_pass p xs ≡ true
pass_all p [] h = refl
pass_all p (y ∷ ys) h = rw (h y (inl refl)) (pass_all p ys (λ x q. h x (inr q)))

module _ (space : Space) {R : Type 0} (order : List ℕ → List ℕ) (mark : List ℕ → Mark R) (is : IsSpace space) (reading : IsReading space order mark) where
  pub renamed_key : (v w : List ℕ) → IsVector space v → (f : ℕ → ℕ → ℕ) → IsRenaming space f → IsRenamed space f v w → key_along w (order w) ≡ renamed_along space f v (order v)
  renamed_key v w iv f n r = ap (key_along w) (reading_moves space is f n order mark reading v w iv r) ∙ key_renamed space f v w (order v) (reading.below v iv) (moves space is f n v w iv r)

  pub least_yes : (v : List ℕ) → IsVector space v → is_least space order v ≡ true → IsLeast space order v
  least_yes v iv t f w n r b =
      let names = map (row_of f space.count) (upto space.domains) in
      let has : Has names (renamings space) = names_have space f n in
      let n' : IsRenaming space (name_in names) = names_rename space names has in
      let u = renamed space (name_in names) v in
      let ku : key_along u (order u) ≡ renamed_along space (name_in names) v (order v) = renamed_key v u iv (name_in names) n' (renamed_is_renamed space is (name_in names) n' v iv) in
      let kw : key_along w (order w) ≡ renamed_along space f v (order v) = renamed_key v w iv f n r in
      let same : key_along w (order w) ≡ key_along u (order u) = kw ∙ (sym (along_same space is (name_in names) f (λ c k hc hk. names_same space f c k hc hk) v iv (order v) (reading.below v iv)) ∙ sym ku) in
      let test : not (is_before (key_by order u) (key_by order v)) ≡ true = pass_at (λ (m : List (List ℕ)). not (is_before (key_by order (renamed space (name_in m) v)) (key_by order v))) (renamings space) names t has in
      let yes : is_before (key_along u (order u)) (key_along v (order v)) ≡ true = is_before_yes (key_along u (order u)) (key_along v (order v)) (subst (λ (k : List ℕ). Before k (key_along v (order v))) same b) in
      clash (is_before (key_along u (order u)) (key_along v (order v))) yes test
    where
      clash : (b : Bool) → b ≡ true → not b ≡ true → ⊥
      clash true e t' = cc
      clash false e t' = cc

  pub yes_least : (v : List ℕ) → IsVector space v → IsLeast space order v → is_least space order v ≡ true
  yes_least v iv least = pass_all (λ (m : List (List ℕ)). not (is_before (key_by order (renamed space (name_in m) v)) (key_by order v))) (renamings space) (λ m h.
      let n' : IsRenaming space (name_in m) = names_rename space m h in
      let no : is_before (key_by order (renamed space (name_in m) v)) (key_by order v) ≡ false = is_before_no (key_by order (renamed space (name_in m) v)) (key_by order v) (least (name_in m) (renamed space (name_in m) v) n' (renamed_is_renamed space is (name_in m) n' v iv)) in
      rw no refl)

  settled_yes : (v : List ℕ) → is_settled space order v ≡ true → (s : ℕ) → s < space.slots → Lacks (order v) s → get_or v s 0 ≡ 0
  settled_yes v t s h l =
      let p : contains_number (order v) s || (get_or v s 0 == 0) ≡ true = pass_at (λ x. contains_number (order v) x || (get_or v x 0 == 0)) (upto space.slots) s t (has_range 0 space.slots s (omega arith) (omega arith)) in
      let no : contains_number (order v) s ≡ false = lacks_number (order v) s (has_not (order v) s l) in
      let q : (get_or v s 0 == 0) ≡ true = subst (λ (b : Bool). b || (get_or v s 0 == 0) ≡ true) no p in
      grind (arith, nat_tests)

  yes_settled : (v : List ℕ) → ((s : ℕ) → s < space.slots → Lacks (order v) s → get_or v s 0 ≡ 0) → is_settled space order v ≡ true
  yes_settled v off = pass_all (λ x. contains_number (order v) x || (get_or v x 0 == 0)) (upto space.slots) (λ s h. go s (let r = (range_has 0 space.slots s h).1 in omega arith) (cases_Bool (contains_number (order v) s)))
    where
      go : (s : ℕ) → s < space.slots → (contains_number (order v) s ≡ true) ⊎ (contains_number (order v) s ≡ false) → contains_number (order v) s || (get_or v s 0 == 0) ≡ true
      go s h (inl e) = rw e refl
      go s h (inr e) =
          let z : get_or v s 0 ≡ 0 = off s h (no_lacks (order v) s (λ q. let y = has_number (order v) s q in cc)) in
          rw (e, z) refl

  both_true : (a b : Bool) → a && b ≡ true → (a ≡ true) × (b ≡ true)
  both_true true true e = (refl, refl)
  both_true true false e = absurd (cc)
  both_true false b e = absurd (cc)

  pub listed_has : (v : List ℕ) → IsListed space order v → Has (entry_of order mark v) (map (entry_of order mark) (filter (λ x. is_least space order x && is_settled space order x) (vectors space)))
  listed_has v l = has_map (entry_of order mark) v (filter (λ x. is_least space order x && is_settled space order x) (vectors space)) (has_filter (λ x. is_least space order x && is_settled space order x) v (vectors space) (vectors_have space v l.vector) (rw (yes_least v l.vector l.least, yes_settled v l.settled) refl))

  pub has_listed : (e : Entry R) → Has e (map (entry_of order mark) (filter (λ x. is_least space order x && is_settled space order x) (vectors space))) → (v : List ℕ) × IsListed space order v × (entry_of order mark v ≡ e)
  has_listed e h =
      let m = has_map_from (entry_of order mark) e (filter (λ x. is_least space order x && is_settled space order x) (vectors space)) h in
      let f = has_filter_from (λ x. is_least space order x && is_settled space order x) m.0 (vectors space) m.1 in
      let iv : IsVector space m.0 = vectors_are space m.0 f.0 in
      let b = both_true (is_least space order m.0) (is_settled space order m.0) f.1 in
      (m.0, record { vector = iv; least = least_yes m.0 iv b.0; settled = settled_yes m.0 b.1 }, m.2)

  pub one_entry : (u v : List ℕ) → IsVector space u → IsVector space v → key_along u (order u) ≡ key_along v (order v) → entry_of order mark u ≡ entry_of order mark v
  one_entry u v iu iv e = let q = (forks_equal u v (mark u ≡ mark v) (order u) (order v) (reading.forks u v iu iv) e).1 in ap (λ (k : List ℕ). record { key = k; mark = mark u }) e ∙ ap (λ (m : Mark R). record { key = key_along v (order v); mark = m }) q
