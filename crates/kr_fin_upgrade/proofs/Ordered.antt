-- Keys that ascend are put one after another.
use Rattle.std.proofs.Common.{◌≡◌, ℕ, List, [], ◌∷◌, ◌++◌, append_assoc, append-nil, fold, map, Ordering, Less, Greater, nat_cmp, refl, sym, ap, ◌∙◌, subst}
use Rattle.std.specs.List.{AllByRecursion}
use Rattle.std.specs.List.Sorted.{IsStrictlySortedBy}
use Rattle.std.specs.Ordering.{match_ordering, ordering_reverse}
use Rattle.std.specs.Cmp.Lexicographic.{slice_cmp}
use Rattle.std.proofs.lemmas.Cmp.{nat_list_cmp_total}
use Rattle.toml.specs.Data.{Data, Members, no_members, member}
use Rattle.kr_fin.specs.Ascending.{AreAscending}
use Rattle.kr_fin_upgrade.specs.Tables.{put}

turned : (a b : List ℕ) → slice_cmp nat_cmp a b ≡ Less → slice_cmp nat_cmp b a ≡ Greater
turned a b e = nat_list_cmp_total.antisymm b a ∙ ap ordering_reverse e

module _ {X : Type 0} (key : X → List ℕ) (value : X → Data) where
  abbrev pub as_members : List X → Members
  as_members [] = no_members
  as_members (x ∷ xs) = member (key x) (value x) (as_members xs)

  put_last : (done : List X) (x : X) → AllByRecursion (λ y. slice_cmp nat_cmp (key x) (key y) ≡ Greater) done → put (as_members done) (key x) (value x) ≡ as_members (done ++ x ∷ [])
  put_last [] x h = refl
  put_last (y ∷ ys) x h =
      ap (λ (o : Ordering). match_ordering o (member (key x) (value x) (as_members (y ∷ ys))) (member (key y) (value x) (as_members ys)) (member (key y) (value y) (put (as_members ys) (key x) (value x)))) h.0
      ∙ ap (member (key y) (value y)) (put_last ys x h.1)

  -- all that were put are before the next
  pub all_before : (done : List X) (x : X) (rest : List X) → AreAscending (map key (done ++ x ∷ rest)) → AllByRecursion (λ y. slice_cmp nat_cmp (key x) (key y) ≡ Greater) done
  unfolding IsStrictlySortedBy
  all_before [] x rest h = tt
  all_before (y ∷ ys) x rest h = (turned (key y) (key x) (one ys h.0), all_before ys x rest h.1)
    where
      one : (ys : List X) → AllByRecursion (λ l. slice_cmp nat_cmp (key y) l ≡ Less) (map key (ys ++ x ∷ rest)) → slice_cmp nat_cmp (key y) (key x) ≡ Less
      one [] h = h.0
      one (z ∷ zs) h = one zs h.1

  in_turn : (done rest : List X) → AreAscending (map key (done ++ rest)) → fold (λ ms x. put ms (key x) (value x)) (as_members done) rest ≡ as_members (done ++ rest)
  in_turn done [] h = ap as_members (sym (append-nil done))
  in_turn done (x ∷ rest) h =
      let all : (done ++ x ∷ []) ++ rest ≡ done ++ x ∷ rest = append_assoc done (x ∷ []) rest in
      ap (λ (ms : Members). fold (λ ms x. put ms (key x) (value x)) ms rest) (put_last done x (all_before done x rest h))
      ∙ (in_turn (done ++ x ∷ []) rest (subst (λ (xs : List X). AreAscending (map key xs)) (sym all) h) ∙ ap as_members all)

  pub in_order : (xs : List X) → AreAscending (map key xs) → fold (λ ms x. put ms (key x) (value x)) no_members xs ≡ as_members xs
  in_order xs h = in_turn [] xs h
