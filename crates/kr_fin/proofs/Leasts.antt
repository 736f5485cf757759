-- The least of some faults.
use Rattle.std.proofs.Common.{◌≡◌, ◌⊎◌, inl, inr, ℕ, Bool, true, false, cond, List, [], ◌∷◌, fold, Option, Some, None, MatchOption, All, Contains, refl, sym, ◌∙◌, subst}
use Rattle.std.proofs.lemmas.Bool.{cases_Bool, false≢true}
use Rattle.std.proofs.lemmas.List.Elements.{All-cons, All-nil, Contains-append_left, Contains-append_right, Contains-push}
use Rattle.kr_base.proofs.Orders.{test_irreflexive, test_transitive, test_connected}
use Rattle.kr_base.specs.Cuts.{is_before}
use Rattle.kr_base.specs.declared.refusal.Fault.{Fault}
use Rattle.kr_fin.specs.Least.{LeastLaw, IsLeast, comes_before, lesser}

abbrev key : {R : Type 0} → (R → ℕ) → Fault R → List ℕ
key rank f = rank f.rule ∷ f.item

-- from first to last, what isn't above the middle isn't above the last
not_before : (a b c : List ℕ) → is_before a b ≡ false → is_before b c ≡ false → is_before a c ≡ false
not_before a b c p q = elim (cases_Bool (is_before a c)) [
  | inr apart ↦ apart
  | inl under ↦ elim (cases_Bool (is_before c b)) [
    | inl back ↦ absurd (false≢true (sym p ∙ test_transitive a c b under back))
    | inr level ↦ absurd (false≢true (sym p ∙ subst (λ (x : List ℕ). is_before a x ≡ true) (sym (test_connected b c q level)) under))
  ]
]

not_behind : (a b c : List ℕ) → is_before a b ≡ true → is_before a c ≡ false → is_before b c ≡ false
not_behind a b c p q = elim (cases_Bool (is_before b c)) [
  | inr apart ↦ apart
  | inl under ↦ absurd (false≢true (sym q ∙ test_transitive a b c p under))
]

here : {R : Type 0} (f : Fault R) (fs : List (Fault R)) → Contains (f ∷ fs) f
here f fs = Contains-append_left (f ∷ []) fs f (Contains-push [] f)

there : {R : Type 0} (f g : Fault R) (fs : List (Fault R)) → Contains fs g → Contains (f ∷ fs) g
there f g fs h = Contains-append_right (f ∷ []) fs g h

-- the least of a first fault and more
record Chosen {R : Type 0} (rank : R → ℕ) (f : Fault R) (fs : List (Fault R)) (g : Fault R) : Type 0 where
  is_one : (f ≡ g) ⊎ Contains fs g
  first : comes_before rank f g ≡ false
  others : All (λ o. comes_before rank o g ≡ false) fs

one_of : {R : Type 0} (f g : Fault R) (fs : List (Fault R)) → (f ≡ g) ⊎ Contains fs g → Contains (f ∷ fs) g
one_of {R} f g fs (inl same) = subst (λ (x : Fault R). Contains (f ∷ fs) x) same (here f fs)
one_of f g fs (inr later) = there f g fs later

one_past : {R : Type 0} (f h g : Fault R) (fs : List (Fault R)) → (f ≡ g) ⊎ Contains fs g → (f ≡ g) ⊎ Contains (h ∷ fs) g
one_past f h g fs (inl same) = inl same
one_past f h g fs (inr later) = inr (there h g fs later)

-- one more fault after the first: it is kept, or the first is
chosen_step : {R : Type 0} (rank : R → ℕ) (f h : Fault R) (fs : List (Fault R)) (g : Fault R) (b : Bool) → comes_before rank h f ≡ b
    → fold (lesser rank) (cond b (Some h) (Some f)) fs ≡ Some g
    → (fold (lesser rank) (Some h) fs ≡ Some g → Chosen rank h fs g) → (fold (lesser rank) (Some f) fs ≡ Some g → Chosen rank f fs g)
    → Chosen rank f (h ∷ fs) g
chosen_step rank f h fs g true under e from_later from_first =
    let rest = from_later e in
    record {
      is_one = inr (one_of h g fs rest.is_one);
      first = not_behind (key rank h) (key rank f) (key rank g) under rest.first;
      others = All-cons (λ o. comes_before rank o g ≡ false) h fs rest.first rest.others;
    }
chosen_step rank f h fs g false above e from_later from_first =
    let rest = from_first e in
    record {
      is_one = one_past f h g fs rest.is_one;
      first = rest.first;
      others = All-cons (λ o. comes_before rank o g ≡ false) h fs (not_before (key rank h) (key rank f) (key rank g) above rest.first) rest.others;
    }

chosen : {R : Type 0} (rank : R → ℕ) (f : Fault R) (fs : List (Fault R)) (g : Fault R) → fold (lesser rank) (Some f) fs ≡ Some g → Chosen rank f fs g
chosen {R} rank f [] g e =
    let same : f ≡ g = cc in
    record {
      is_one = inl same;
      first = subst (λ (x : Fault R). comes_before rank f x ≡ false) same (test_irreflexive (key rank f));
      others = All-nil (λ o. comes_before rank o g ≡ false);
    }
chosen rank f (h ∷ fs) g e =
    chosen_step rank f h fs g (comes_before rank h f) refl e (λ later. chosen rank h fs g later) (λ first. chosen rank f fs g first)

-- where there is a first fault, one is kept
kept_step : {R : Type 0} (rank : R → ℕ) (f h : Fault R) (fs : List (Fault R)) (b : Bool) → fold (lesser rank) (cond b (Some h) (Some f)) fs ≡ None
    → (fold (lesser rank) (Some h) fs ≡ None → ⊥) → (fold (lesser rank) (Some f) fs ≡ None → ⊥) → ⊥
kept_step rank f h fs true e later first = later e
kept_step rank f h fs false e later first = first e

some_kept : {R : Type 0} (rank : R → ℕ) (f : Fault R) (fs : List (Fault R)) → fold (lesser rank) (Some f) fs ≡ None → ⊥
some_kept rank f [] e = cc
some_kept rank f (h ∷ fs) e =
    kept_step rank f h fs (comes_before rank h f) e (λ later. some_kept rank h fs later) (λ first. some_kept rank f fs first)

pub least_of_all : {R : Type 0} (rank : R → ℕ) → LeastLaw rank
least_of_all rank [] = refl
least_of_all {R} rank (f ∷ fs) = go (fold (lesser rank) (Some f) fs) refl
  where
    go : (kept : Option (Fault R)) → fold (lesser rank) (Some f) fs ≡ kept → MatchOption kept (f ∷ fs ≡ []) (IsLeast rank (f ∷ fs))
    go None e = absurd (some_kept rank f fs e)
    go (Some g) e =
        let one = chosen rank f fs g e in
        record { is_one = one_of f g fs one.is_one; is_first = All-cons (λ o. comes_before rank o g ≡ false) f fs one.first one.others }
