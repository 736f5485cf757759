-- Texts one after another, with another between each two.
use Rattle.std.proofs.Common.{◌≡◌, ℕ, Bool, true, false, List, [], ◌∷◌, ◌++◌, refl, sym, ap, ◌∙◌, append_assoc}
use Rattle.std.specs.Prelude.{◌||◌, if◌then◌else◌}
use Rattle.std.proofs.lemmas.List.{append-nil}
use Rattle.kr_value.specs.declared.object.Class.{Class}
use Rattle.kr_value.specs.declared.object.Class.TheVariants.{Object, Array, Set, List as ListClass}
use Rattle.kr_report.specs.Texts.{behind, in_brackets, joined_by}
use Rattle.kr_report.specs.Joined.{are_any, closing, opening, separated}

behind_both : (between : List ℕ) (ts us : List (List ℕ)) → behind between (ts ++ us) ≡ behind between ts ++ behind between us
behind_both between [] us = refl
behind_both between (t ∷ ts) us =
    ap (λ (x : List ℕ). between ++ t ++ x) (behind_both between ts us)
    ∙ sym (append_assoc (between ++ t) (behind between ts) (behind between us))

pub separated_both : (between : List ℕ) (any : Bool) (ts us : List (List ℕ)) → separated between any (ts ++ us) ≡ separated between any ts ++ separated between (any || are_any ts) us
separated_both between true ts us = behind_both between ts us
separated_both between false [] us = refl
separated_both between false (t ∷ ts) us = ap (λ (x : List ℕ). t ++ x) (behind_both between ts us) ∙ sym (append_assoc t (behind between ts) (behind between us))

-- one text more
pub separated_one : (between : List ℕ) (any : Bool) (t : List ℕ) → separated between any (t ∷ []) ≡ (if any then between else []) ++ t
separated_one between true t = append-nil (between ++ t)
separated_one between false t = append-nil t

pub nothing : (between : List ℕ) (any : Bool) → separated between any [] ≡ []
nothing between true = refl
nothing between false = refl

-- texts after those that there are
pub joined_more : (between : List ℕ) (ps ts qs : List (List ℕ)) → qs ≡ ps ++ ts → joined_by between qs ≡ joined_by between ps ++ separated between (are_any ps) ts
joined_more between ps ts qs e = ap (joined_by between) e ∙ separated_both between false ps ts

pub any_more : (ps ts : List (List ℕ)) → are_any (ps ++ ts) ≡ (are_any ps || are_any ts)
any_more [] ts = refl
any_more (p ∷ ps) ts = refl

pub bracketed : (class : Class) (text : List ℕ) → in_brackets class text ≡ opening class ++ text ++ closing class
bracketed (Object c) text = refl
bracketed (Array t) text = refl
bracketed Set text = refl
bracketed ListClass text = refl
