-- Ascending lists of entries, cut into spans.
use Rattle.std.proofs.Common.{◌≡◌, ℕ, inl, inr, List, [], ◌∷◌, refl, sym, ap, ◌∙◌, subst}
use Rattle.kr_base.specs.Cuts.{Before}
use Rattle.kr_base.specs.declared.entry.Entry.{Entry}
use Rattle.kr_base.specs.Entries.{AllAfter, Ascends, IsAmong}
use Rattle.kr_step.specs.Steps.{above}
use Rattle.kr_step.proofs.Orders.{before_not_self, before_trans, is_before_yes, is_before_no}

pub among_after : {M : Type 0} (k : List ℕ) (e : Entry M) (es : List (Entry M)) → AllAfter k es → IsAmong e es → Before k e.key
among_after k e [] a m = absurd m
among_after k e (f ∷ es) a (inl h) = subst (λ (x : Entry _). Before k x.key) h a.0
among_after k e (f ∷ es) a (inr h) = among_after k e es a.1 h

pub all_after : {M : Type 0} (j k : List ℕ) (es : List (Entry M)) → Before j k → AllAfter k es → AllAfter j es
all_after j k [] b a = tt
all_after j k (e ∷ es) b a = (before_trans j k e.key b a.0, all_after j k es b a.1)

above_all : {M : Type 0} (c : List ℕ) (es : List (Entry M)) → AllAfter c es → above c es ≡ es
above_all c [] a = refl
above_all {M} c (e ∷ es) a = rw (is_before_yes c e.key a.0) (ap (λ (l : List (Entry M)). e ∷ l) (above_all c es a.1))

-- the first entry above a cut, and those that follow
pub above_first : {M : Type 0} (c : List ℕ) (e : Entry M) (es : List (Entry M)) → Ascends es → IsAmong e es → Before c e.key → ((f : Entry M) → IsAmong f es → Before c f.key → Before f.key e.key → ⊥) → above c es ≡ e ∷ above e.key es
above_first c e [] a m b least = absurd m
above_first {M} c e (f ∷ es) a (inl h) b least =
    subst (λ (x : Entry M). above c (f ∷ es) ≡ x ∷ above x.key (f ∷ es)) h (rw (is_before_yes c f.key (subst (λ (x : Entry M). Before c x.key) (sym h) b), is_before_no f.key f.key (before_not_self f.key))
    (ap (λ (l : List (Entry M)). f ∷ l) (above_all c es (all_after c f.key es (subst (λ (x : Entry M). Before c x.key) (sym h) b) a.0) ∙ sym (above_all f.key es a.0))))
above_first {M} c e (f ∷ es) a (inr h) b least =
    let fe : Before f.key e.key = among_after f.key e es a.0 h in
    let no : Before c f.key → ⊥ = λ x. least f (inl refl) x fe in
    rw (is_before_no c f.key no, is_before_no e.key f.key (λ x. before_not_self e.key (before_trans e.key f.key e.key x fe)))
    (above_first c e es a.1 h b (λ g m. least g (inr m)))

pub above_none : {M : Type 0} (c : List ℕ) (es : List (Entry M)) → ((f : Entry M) → IsAmong f es → Before c f.key → ⊥) → above c es ≡ []
above_none c [] n = refl
above_none c (e ∷ es) n = rw (is_before_no c e.key (n e (inl refl))) (above_none c es (λ f m. n f (inr m)))
