-- A document's entry for a name, by an index of the names.
use Rattle.std.proofs.Common.{◌≡◌, refl, ap, sym, ◌∙◌, ℕ, zero, suc, ◌+◌, get_or, Bool, true, false, cond, List, [], ◌∷◌, map, bytes_eq, Option, Some, None}
use Rattle.std.specs.Prelude.{find, is_none, option_and_then, option_map, slice_get, unwrap_or}
use Rattle.std.specs.List.{position_from}
use Rattle.kr_fin.specs.declared.document.NamedDomain.{NamedDomain}
use Rattle.kr_classes_names.specs.Listed.{IsIndexOf, place_of}
use Rattle.kr_classes_names.proofs.ClassNumbers.{turned}
use Rattle.kr_space_meaning.specs.Bounds.{given}

places_found : (n : List ℕ) (k : ℕ) (ds : List NamedDomain) → is_none (position_from (bytes_eq n) k (map (λ d. d.key) ds)) ≡ is_none (given ds n)
places_found n k [] = refl
places_found n k (d ∷ ds) = go (bytes_eq n d.key) (bytes_eq d.key n) (turned n d.key) (places_found n (k + 1) ds)
  where
    go : (a b : Bool) → a ≡ b → is_none (position_from (bytes_eq n) (k + 1) (map (λ d. d.key) ds)) ≡ is_none (given ds n)
        → is_none (cond a (Some k) (position_from (bytes_eq n) (k + 1) (map (λ d. d.key) ds))) ≡ is_none (cond b (Some d.domain) (given ds n))
    go true true e r = refl
    go false false e r = r
    go true false e r = absurd (cc (e))
    go false true e r = absurd (cc (e))

given_found : (ds : List NamedDomain) (kept : List (List ℕ × ℕ)) (n : List ℕ) → IsIndexOf (map (λ d. d.key) ds) kept → is_none (place_of n kept) ≡ is_none (given ds n)
given_found ds kept n k = ap (λ (o : Option ℕ). is_none o) (k n) ∙ places_found n 0 ds

pub given_none : (ds : List NamedDomain) (kept : List (List ℕ × ℕ)) (n : List ℕ) → IsIndexOf (map (λ d. d.key) ds) kept → place_of n kept ≡ None → true ≡ is_none (given ds n)
given_none ds kept n k e = sym (ap (λ (o : Option ℕ). is_none o) e) ∙ given_found ds kept n k

pub given_some : (ds : List NamedDomain) (kept : List (List ℕ × ℕ)) (n : List ℕ) (i : ℕ) → IsIndexOf (map (λ d. d.key) ds) kept → place_of n kept ≡ Some i → false ≡ is_none (given ds n)
given_some ds kept n i k e = sym (ap (λ (o : Option ℕ). is_none o) e) ∙ given_found ds kept n k
