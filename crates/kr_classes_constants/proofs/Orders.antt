-- Fields in the order of their places.
use Rattle.std.proofs.Common.{◌≡◌, refl, ap, ◌∙◌, ℕ, Bool, true, false, cond, List, [], ◌∷◌, map, reverse, nat_eq, nat_lt, if◌then◌else◌, Ordering, arith}
use Rattle.std.specs.Cmp.{IsStrictWeakOrder}
use Rattle.std.specs.Ordering.{nat_cmp, ordering_then, is_lt}
use Rattle.std.specs.declared.cmp.Ordering.TheVariants.{Less, Equal, Greater}
use Rattle.std.specs.List.Sorted.{IsSortedByKey, IsStableByKey}
use Rattle.std.proofs.lemmas.Cmp.{nat_cmp_total, then_total, on_total}
use Rattle.std.proofs.lemmas.List.Sorted.{ranks_by}
use Rattle.std.proofs.lemmas.Bool.Decides.{nat_tests}
use Rattle.kr_base.specs.declared.place.Place.{Place}
use Rattle.kr_ast.specs.Arena.{Arena}
use Rattle.kr_classes_table.specs.Rules.{less_or, is_earlier}
use Rattle.kr_classes_table.specs.Constants.{placed, in_order}
use Rattle.kr_classes_members.specs.declared.fields.Field.{Field}
use Rattle.kr_classes_members.specs.Shown.{field_shown}
use Rattle.kr_classes_constants.proofs.Sorting.{placed_by, sorted_by, stable_sort}

abbrev pub place_key : Field → ℕ × ℕ × ℕ
place_key f = (f.place.file, f.place.line, f.place.col)

abbrev pub place_cmp : ℕ × ℕ × ℕ → ℕ × ℕ × ℕ → Ordering
place_cmp x y = ordering_then (ordering_then (nat_cmp x.0 y.0) (nat_cmp x.1 y.1)) (nat_cmp x.2 y.2)

abbrev is_before : Field → Field → Bool
is_before f g = is_earlier f.place g.place

last_law : (a b : ℕ) → is_lt (nat_cmp a b) ≡ nat_lt a b
last_law a b = by (nat_lt a b) refl
  where
    inner : (e : Bool) → is_lt (cond e Equal Greater) ≡ false
    inner true = refl
    inner false = refl

    by : (t : Bool) → nat_lt a b ≡ t → is_lt (cond t Less (cond (nat_eq a b) Equal Greater)) ≡ t
    by true h = refl
    by false h = inner (nat_eq a b)

first_law : (a b : ℕ) (o : Ordering) → is_lt (ordering_then (nat_cmp a b) o) ≡ less_or a b (is_lt o)
first_law a b o = by (nat_lt a b) (nat_eq a b) refl refl
  where
    by : (t e : Bool) → nat_lt a b ≡ t → nat_eq a b ≡ e → is_lt (ordering_then (cond t Less (cond e Equal Greater)) o) ≡ (if e then is_lt o else t)
    by true true h k = absurd (grind (arith, nat_tests))
    by true false h k = refl
    by false true h k = refl
    by false false h k = refl

regroup : (x y z : Ordering) → ordering_then (ordering_then x y) z ≡ ordering_then x (ordering_then y z)
regroup Less y z = refl
regroup Equal y z = refl
regroup Greater y z = refl

test_is : (p q : Place) → is_lt (ordering_then (ordering_then (nat_cmp p.file q.file) (nat_cmp p.line q.line)) (nat_cmp p.col q.col)) ≡ is_earlier p q
test_is p q =
    ap is_lt (regroup (nat_cmp p.file q.file) (nat_cmp p.line q.line) (nat_cmp p.col q.col))
    ∙ first_law p.file q.file (ordering_then (nat_cmp p.line q.line) (nat_cmp p.col q.col))
    ∙ ap (less_or p.file q.file) (first_law p.line q.line (nat_cmp p.col q.col) ∙ ap (less_or p.line q.line) (last_law p.col q.col))

is_order : IsStrictWeakOrder (λ (f g : Field). is_lt (place_cmp (place_key f) (place_key g)))
is_order = ranks_by (then_total (then_total (on_total (λ t. t.0) nat_cmp_total) (on_total (λ t. t.1) nat_cmp_total)) (on_total (λ t. t.2) nat_cmp_total)) place_key

sorted_is : (xs ys : List Field) → IsSortedByKey place_key place_cmp ys → IsStableByKey place_key place_cmp (reverse xs) ys → ys ≡ sorted_by is_before xs
sorted_is xs ys up stable =
    stable_sort (λ f g. is_lt (place_cmp (place_key f) (place_key g))) is_order xs ys up stable
    ∙ (λ i. sorted_by (λ f g. test_is f.place g.place i) xs)

module _ (files : List Arena) where
  chosen_shown : (b : Bool) (xs ys : List Field) → map (field_shown files) (cond b xs ys) ≡ (if b then map (field_shown files) xs else map (field_shown files) ys)
  chosen_shown true xs ys = refl
  chosen_shown false xs ys = refl

  placed_shown : (f : Field) (gs : List Field) → map (field_shown files) (placed_by is_before f gs) ≡ placed (field_shown files f) (map (field_shown files) gs)
  placed_shown f [] = refl
  placed_shown f (g ∷ gs) =
      chosen_shown (is_before f g) (f ∷ g ∷ gs) (g ∷ placed_by is_before f gs)
      ∙ ap (λ rest. if is_before f g then map (field_shown files) (f ∷ g ∷ gs) else field_shown files g ∷ rest) (placed_shown f gs)

  sorted_shown : (fs : List Field) → map (field_shown files) (sorted_by is_before fs) ≡ in_order (map (field_shown files) fs)
  sorted_shown [] = refl
  sorted_shown (f ∷ fs) = placed_shown f (sorted_by is_before fs) ∙ ap (placed (field_shown files f)) (sorted_shown fs)

  -- sorted by the places of their names they are in file and source order
  pub in_order_shown : (xs ys : List Field) → IsSortedByKey place_key place_cmp ys → IsStableByKey place_key place_cmp (reverse xs) ys → map (field_shown files) ys ≡ in_order (map (field_shown files) xs)
  in_order_shown xs ys up stable = ap (map (field_shown files)) (sorted_is xs ys up stable) ∙ sorted_shown xs
