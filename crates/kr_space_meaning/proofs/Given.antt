-- A property of all domains that are given is one of that of a key.
use Rattle.std.proofs.Common.{◌≡◌, ℕ, Bool, true, false, cond, List, [], ◌∷◌, Option, Some, None, refl, ap, subst}
use Rattle.std.specs.Prelude.{bytes_eq}
use Rattle.std.specs.List.{AllByRecursion}
use Rattle.std.proofs.lemmas.Slice.Eq.{bytes_eq-Decides}
use Rattle.kr_fin.specs.declared.document.NamedDomain.{NamedDomain}
use Rattle.kr_fin.specs.declared.document.Item.{Item as FinItem}
use Rattle.kr_space_meaning.specs.Bounds.{given}

pub given_holds : (Q : List ℕ → List FinItem → Type 0) (domains : List NamedDomain) (key : List ℕ) (items : List FinItem) → AllByRecursion (λ d. Q d.key d.domain) domains → given domains key ≡ Some items → Q key items
given_holds Q [] key items h e = absurd (cc (e))
given_holds Q (d ∷ ds) key items h e = go (bytes_eq d.key key) refl e (given_holds Q ds key items h.1)
  where
    inside : Option (List FinItem) → List FinItem
    inside (Some is) = is
    inside None = items

    go : (b : Bool) → bytes_eq d.key key ≡ b → cond b (Some d.domain) (given ds key) ≡ Some items → (given ds key ≡ Some items → Q key items) → Q key items
    go true q e r = subst (λ (k : List ℕ). Q k items) ((bytes_eq-Decides d.key key).0 q) (subst (λ (is : List FinItem). Q d.key is) (ap inside e) h.0)
    go false q e r = r e
