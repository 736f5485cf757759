-- Values of `\old`s by the places at their positions.
use Rattle.std.proofs.Common.{◌≡◌, ◌⊎◌, inl, inr, ◌≤◌, ◌<◌, ◌+◌, ℕ, zero, suc, List, [], ◌∷◌, ◌++◌, get_or, length, refl, sym, ap, ◌∙◌, arith, append_assoc}
use Rattle.std.specs.Prelude.{map, take}
use Rattle.std.proofs.lemmas.List.{map-append}
use Rattle.kr_base.specs.declared.place.Place.{Place}
use Rattle.kr_value.specs.declared.value.Value.{Value}
use Rattle.kr_mean.specs.Steps.{Old}
use Rattle.kr_run_state.specs.declared.world.Old.{Old as OldValue}
use Rattle.kr_run_state.specs.Shown.{old_of}
use Rattle.kr_run_method.specs.Evaluated.{with_places}

next : (k : ℕ) → suc k ≡ k + 1
next k = omega arith

-- one more
one_more : (ps : List Place) (vs : List Value) (k : ℕ) (p : Place) (v : Value) → k < length ps → k < length vs → with_places (take (suc k) ps) (take (suc k) vs) ≡ with_places (take k ps) (take k vs) ++ record { place = get_or ps k p; value = get_or vs k v } ∷ []
one_more [] vs k p v a b = absurd (omega (arith, a))
one_more (q ∷ ps) [] k p v a b = absurd (omega (arith, b))
one_more (q ∷ ps) (u ∷ vs) zero p v a b = refl
one_more (q ∷ ps) (u ∷ vs) (suc k) p v a b = ap (λ (os : List Old). record { place = q; value = u } ∷ os) (one_more ps vs k p v (omega (arith, a)) (omega (arith, b)))

pub olds_more : (ps : List Place) (vs : List Value) (k : ℕ) (p : Place) (v : Value) (old items new : List OldValue) → k < length ps → k < length vs → map old_of items ≡ map old_of old ++ with_places (take k ps) (take k vs)
    → new ≡ items ++ record { place = get_or ps k p; value = get_or vs k v } ∷ [] → map old_of new ≡ map old_of old ++ with_places (take (k + 1) ps) (take (k + 1) vs)
olds_more ps vs k p v old items new a b so is =
    let x : OldValue = record { place = get_or ps k p; value = get_or vs k v } in
    ap (λ (os : List OldValue). map old_of os) is
    ∙ (map-append old_of items (x ∷ [])
    ∙ (ap (λ (os : List Old). os ++ old_of x ∷ []) so
    ∙ (append_assoc (map old_of old) (with_places (take k ps) (take k vs)) (old_of x ∷ [])
    ∙ ap (λ (os : List Old). map old_of old ++ os) (sym (one_more ps vs k p v a b) ∙ ap (λ (n : ℕ). with_places (take n ps) (take n vs)) (next k)))))

-- all that have a value
pub all_there : (ps : List Place) (vs : List Value) (k : ℕ) → (length ps ≤ k) ⊎ (length vs ≤ k) → with_places (take k ps) (take k vs) ≡ with_places ps vs
all_there [] vs zero h = refl
all_there [] vs (suc k) h = refl
all_there (p ∷ ps) [] zero h = refl
all_there (p ∷ ps) [] (suc k) h = refl
all_there (p ∷ ps) (v ∷ vs) zero (inl h) = absurd (omega (arith, h))
all_there (p ∷ ps) (v ∷ vs) zero (inr h) = absurd (omega (arith, h))
all_there (p ∷ ps) (v ∷ vs) (suc k) (inl h) = ap (λ (os : List Old). record { place = p; value = v } ∷ os) (all_there ps vs k (inl (omega (arith, h))))
all_there (p ∷ ps) (v ∷ vs) (suc k) (inr h) = ap (λ (os : List Old). record { place = p; value = v } ∷ os) (all_there ps vs k (inr (omega (arith, h))))

pub ended_at : (m n count k : ℕ) → (count ≡ m) ⊎ (count ≡ n) → count ≤ k → (m ≤ k) ⊎ (n ≤ k)
ended_at m n count k (inl e) h = inl (omega (arith, e, h))
ended_at m n count k (inr e) h = inr (omega (arith, e, h))
