-- What is made of each element of a list, in the order of the elements.
use Rattle.std.proofs.Common.{◌≡◌, ◌⊎◌, inl, inr, true, false, List, [], ◌∷◌, ◌++◌, refl, sym, ap, ◌∙◌, subst}
use Rattle.std.specs.Prelude.{flat_map, if◌then◌else◌}
use Rattle.std.proofs.lemmas.Bool.{cases_Bool}
use Rattle.std.proofs.lemmas.List.{append-nil}
use Rattle.std.proofs.lemmas.List.Concat.{flat_map-append}
use Rattle.kr_mean.specs.Heaps.{is_same_object}
use Rattle.kr_mean.specs.Problem.{DomainObject}
use Rattle.kr_laws_runs.proofs.Respects.{AllOf}
use Rattle.kr_laws_pruning.proofs.Membership.{Has}
use Rattle.kr_laws_pruning.proofs.Places.{same_object, same_objects}
use Rattle.kr_laws_pruning.proofs.Reached.{Apart}

pub flat_none : {A B : Type 0} (f : A → List B) (P : A → Type 0) (xs : List A) → ((x : A) → P x → f x ≡ []) → AllOf P xs → flat_map f xs ≡ []
flat_none f P [] h a = refl
flat_none f P (x ∷ xs) h a = rw (h x a.0) (flat_none f P xs h a.1)

pub flat_same : {A B : Type 0} (f g : A → List B) (P : A → Type 0) (xs : List A) → ((x : A) → P x → f x ≡ g x) → AllOf P xs → flat_map f xs ≡ flat_map g xs
flat_same f g P [] h a = refl
flat_same f g P (x ∷ xs) h a = ap (λ y. y ++ flat_map f xs) (h x a.0) ∙ ap (λ ys. g x ++ ys) (flat_same f g P xs h a.1)

pub flat_flat : {A B C : Type 0} (f : B → List C) (g : A → List B) (xs : List A) → flat_map f (flat_map g xs) ≡ flat_map (λ x. flat_map f (g x)) xs
flat_flat f g [] = refl
flat_flat f g (x ∷ xs) = flat_map-append f (g x) (flat_map g xs) ∙ ap (λ ys. flat_map f (g x) ++ ys) (flat_flat f g xs)

-- of a list whose objects are apart, one object's part
others : {B : Type 0} (f : DomainObject → List B) (o : DomainObject) (ns : List DomainObject) → (Has o ns → ⊥) → flat_map (λ n. if is_same_object o n then f n else []) ns ≡ []
others f o [] h = refl
others f o (n ∷ ns) h = go (cases_Bool (is_same_object o n)) (λ k. others f o ns k)
  where
    go : (is_same_object o n ≡ true) ⊎ (is_same_object o n ≡ false) → ((Has o ns → ⊥) → flat_map (λ n. if is_same_object o n then f n else []) ns ≡ []) → flat_map (λ n. if is_same_object o n then f n else []) (n ∷ ns) ≡ []
    go (inl q) r = absurd (h (inl (sym (same_objects o n q))))
    go (inr q) r = rw q (r (λ i. h (inr i)))

pub only_one : {B : Type 0} (f : DomainObject → List B) (o : DomainObject) (os : List DomainObject) → Apart os → Has o os → flat_map (λ m. if is_same_object o m then f m else []) os ≡ f o
only_one f o [] a h = absurd h
only_one {B} f o (m ∷ os) a (inl e) =
    let yes : is_same_object o m ≡ true = ap (λ (x : DomainObject). is_same_object o x) e ∙ same_object o in
    let none : flat_map (λ n. if is_same_object o n then f n else []) os ≡ [] = others f o os (subst (λ (x : DomainObject). Has x os → ⊥) e a.0) in
    rw (yes, none) (append-nil (f m) ∙ ap f e)
only_one f o (m ∷ os) a (inr h) = go (cases_Bool (is_same_object o m)) (only_one f o os a.1 h)
  where
    go : (is_same_object o m ≡ true) ⊎ (is_same_object o m ≡ false) → flat_map (λ n. if is_same_object o n then f n else []) os ≡ f o → flat_map (λ n. if is_same_object o n then f n else []) (m ∷ os) ≡ f o
    go (inl q) r = absurd (a.0 (subst (λ (x : DomainObject). Has x os) (same_objects o m q) h))
    go (inr q) r = rw q r
