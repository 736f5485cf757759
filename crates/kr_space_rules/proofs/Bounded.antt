-- Bounded array types stay as types are added.
use Rattle.std.proofs.Common.{◌≡◌, ℕ, suc, ◌+◌, ◌<◌, List, [], ◌∷◌, ◌++◌, length, map, get_or, take, Option, All, refl, ap, ◌∙◌, arith}
use Rattle.std.specs.Prelude.{IfSome, option_map, option_to_list}
use Rattle.kr_classes_table.specs.Types.{JavaType}
use Rattle.kr_classes_table.specs.Table.{Heading}
use Rattle.kr_fin.specs.declared.document.ArrayBound.{ArrayBound}
use Rattle.kr_base.proofs.Added.{found_shown, found_stands}
use Rattle.kr_classes_names.specs.Types.{TypeList, Extends, count}
use Rattle.kr_space_meaning.specs.Bounds.{bounded}
use Rattle.kr_space_rules.specs.declared.bounds.Bound.{Bound}
use Rattle.kr_space_rules.specs.Entries.{AreBounds, IsBound, bound_in, bound_shown, no_bound}

bounds_same : (a b : TypeList) (all : List ArrayBound) → Extends a b → (bounds : List Bound) → All (IsBound a all) bounds → map (bound_shown b all) bounds ≡ map (bound_shown a all) bounds
bounds_same a b all e [] h = refl
bounds_same a b all e (x ∷ xs) h =
    ap (λ (t : JavaType). (t, get_or all x.at no_bound) ∷ map (bound_shown b all) xs) (e.same x.number (h 0 x (omega arith)).0)
    ∙ ap (λ (ys : List (JavaType × ArrayBound)). bound_shown a all x ∷ ys) (bounds_same a b all e xs (λ k d l. h (suc k) d (omega (arith, l))))

still : (n : ℕ) (a b : TypeList) → Extends a b → n < count a → n < count b
still n a b e h = let m = e.more in omega (arith, h, m)

pub bounds_kept : (a b : TypeList) (all : List ArrayBound) (bounds : List Bound) (arrays : List (JavaType × ArrayBound)) → Extends a b → AreBounds a all bounds arrays → AreBounds b all bounds arrays
bounds_kept a b all bounds arrays e k = record {
  stand = λ i d l. (still (get_or bounds i d).number a b e (k.stand i d l).0, (k.stand i d l).1);
  shown = bounds_same a b all e bounds k.stand ∙ k.shown;
}

-- one more
pub bounds_more : (types : TypeList) (hs : List Heading) (all : List ArrayBound) (kept new : List Bound) (found : Option Bound) (i : ℕ) → i < length all → new ≡ kept ++ option_to_list found
    → AreBounds types all kept (bounded hs (take i all)) → IfSome found (IsBound types all) → option_to_list (option_map (bound_shown types all) found) ≡ bound_in hs (get_or all i no_bound) → AreBounds types all new (bounded hs (take (i + 1) all))
bounds_more types hs all kept new found i h n k s e = record {
  stand = found_stands (IsBound types all) kept new found n k.stand s;
  shown = found_shown (bound_shown types all) (bound_in hs) [] kept new found all i no_bound h n k.shown e;
}
