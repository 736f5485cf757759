use Rattle.std.proofs.Common.{◌≡◌, ◌⊎◌, ◌++◌, ◌+◌, ◌-◌, ◌∷◌, length, ◌∙◌, inl, inr, zero, suc, zero-add, [], List, ℕ, ap, arith, drop, refl, subst, sym, take}
use Rattle.std.specs.Prelude.{map}
use Rattle.std.proofs.lemmas.List.{map-append, take-map, take_all, take_rest}
use Rattle.kr_mean.specs.Places.{SlotPlace}
use Rattle.kr_mean.specs.Places.{place_of}
use Rattle.kr_value.specs.declared.place.SlotPlace.{SlotPlace as Place}
use Rattle.kr_judge.specs.Follows.{place_in}
use Rattle.kr_judge.specs.declared.accesses.Access.{Access}
use Rattle.kr_judge.proofs.accesses.alike.Goals as goal

take_both : {X : Type 0} (xs : List X) (m n : ℕ) → take (m + n) xs ≡ take m xs ++ take n (drop m xs)
take_both xs zero n = ap (λ k. take k xs) (zero-add n)
take_both [] (suc m) n = take_all (suc m + n) [] (omega arith) ∙ sym (take_all n [] (omega arith))
take_both (x ∷ xs) (suc m) n = let e : suc m + n ≡ suc (m + n) = omega arith in ap (λ k. take k (x ∷ xs)) e ∙ ap (λ ys. x ∷ ys) (take_both xs m n)

front : (ps : List Access) (rs : List Place) (shared n : ℕ) → (n ≡ shared) ⊎ (n ≡ 0) → take shared (map place_in ps) ≡ take shared (map place_of rs) → map place_in (take n ps) ≡ map place_of (take n rs)
front ps rs shared n (inl e) h = sym (take-map place_in n ps) ∙ (subst (λ (k : ℕ). take k (map place_in ps) ≡ take k (map place_of rs)) (sym e) h ∙ take-map place_of n rs)
front ps rs shared n (inr e) h = subst (λ (k : ℕ). map place_in (take k ps) ≡ map place_of (take k rs)) (sym e) refl

joined : (ps : List Access) (rs : List Place) (from more : ℕ) → map place_in (take from ps) ≡ map place_of (take from rs) → map place_in (take more (drop from ps)) ≡ map place_of (take more (drop from rs)) → map place_in (take (from + more) ps) ≡ map place_of (take (from + more) rs)
joined ps rs from more a b =
    ap (λ (l : List Access). map place_in l) (take_both ps from more)
    ∙ (map-append place_in (take from ps) (take more (drop from ps))
    ∙ (ap (λ (l : List SlotPlace). l ++ map place_in (take more (drop from ps))) a
    ∙ (ap (λ (l : List SlotPlace). map place_of (take from rs) ++ l) b
    ∙ (sym (map-append place_of (take from rs) (take more (drop from rs))) ∙ ap (λ (l : List Place). map place_of l) (sym (take_both rs from more))))))

pub returns-clause-same : goal.returns-clause-same
returns-clause-same c = λ h.
    let ps = c.args.places.now in
    let rs = c.args.reads.now in
    let from = c.within-from.result in
    let more = c.common-more.result in
    let both = subst (λ (l : List Access). map place_in (take more l) ≡ map place_of (take more (drop from rs))) (take_rest ps from)
    (subst (λ (l : List Place). map place_in (take more (take (length ps - from) (drop from ps))) ≡ map place_of (take more l)) (take_rest rs from) c.common-more.ensures.same) in
    joined ps rs from more (front ps rs c.args.shared from c.within-from.ensures.is h) both
