-- The greatest of some lengths.
use Rattle.std.proofs.Common.{◌≡◌, ℕ, zero, suc, ◌+◌, ◌-◌, ◌<◌, ◌≤◌, inl, inr, List, [], ◌∷◌, ◌++◌, length, map, max, get_or, drop, refl, sym, ap, ◌∙◌, arith}
use Rattle.std.specs.Prelude.{ℤ, pos, negsuc, ◌+ℤ◌, ◌-ℤ◌}
use Rattle.std.specs.List.{AllByRecursion}
use Rattle.std.proofs.lemmas.Int.{ints}
use Rattle.std.proofs.lemmas.Bool.{cases_lt}
use Rattle.std.proofs.lemmas.List.{drop_more}
use Rattle.kr_classes_table.specs.Numbers.{Bits32}
use Rattle.kr_value.specs.declared.value.Value.TheVariants.{Int, Bool as TruthValue, Null, Ref as Reference}
use Rattle.kr_mean.specs.Problem.{Domain, Plain, Objects}
use Rattle.kr_mean.specs.Problem as problems
use Rattle.kr_fin.specs.declared.document.Item.{Item}
use Rattle.kr_fin.specs.declared.document.Item.TheVariants.{Number, Range, Truth, Name}
use Rattle.kr_space_layout.specs.Items.{integers_from, width_between}
use Rattle.kr_fin.specs.Document.{magnitude}
use Rattle.kr_space_meaning.specs.Bounds.{Setting, greatest, item_values, lengths_in, lengths_of, values_with}
use Rattle.kr_space_meaning.specs.Limits.{AreLengths}

abbrev integer : ℤ → problems.DomainItem
integer z = Plain (Int z)

-- ---- a range of natural numbers

width_up : (a b : ℕ) → a ≤ b + 1 → width_between (pos a) (pos b) ≡ b + 1 - a
width_up a b h = ap magnitude at
  where
    at : (pos b -ℤ pos a) +ℤ pos 1 ≡ pos (b + 1 - a)
    at = omega (arith, ints, h)

width_down : (a b : ℕ) → b + 1 < a → width_between (pos a) (pos b) ≡ 0
width_down a b h = ap magnitude at
  where
    at : (pos b -ℤ pos a) +ℤ pos 1 ≡ negsuc (a - b - 2)
    at = omega (arith, ints, h)

-- how many there are, and which is the greatest
pub width_above : (a b : ℕ) → a ≤ b → width_between (pos a) (pos b) ≡ suc (b - a)
width_above a b h = width_up a b (omega (arith, h)) ∙ omega (arith, h)

pub width_none : (a b : ℕ) → b < a → width_between (pos a) (pos b) ≡ 0
width_none a b h = elim (cases_lt (b + 1) a) [
  | inl l ↦ width_down a b l
  | inr l ↦ width_up a b l ∙ omega (arith, h)
]

pub lengths_in_range : (a n : ℕ) → lengths_in (map integer (integers_from (pos a) n)) ≡ map integer (integers_from (pos a) n)
lengths_in_range a zero = refl
lengths_in_range a (suc n) = ap (λ (ds : Domain). integer (pos a) ∷ ds) (lengths_in_range (a + 1) n)

greatest_in_range : (a n : ℕ) → greatest (map integer (integers_from (pos a) (suc n))) ≡ a + n
greatest_in_range a zero = omega arith
greatest_in_range a (suc n) = let r = greatest_in_range (a + 1) n in omega (arith, r)

lengths_in-append : (xs ys : Domain) → lengths_in (xs ++ ys) ≡ lengths_in xs ++ lengths_in ys
lengths_in-append [] ys = refl
lengths_in-append (Plain (Int (pos n)) ∷ xs) ys = ap (λ (ds : Domain). integer (pos n) ∷ ds) (lengths_in-append xs ys)
lengths_in-append (Plain (Int (negsuc n)) ∷ xs) ys = lengths_in-append xs ys
lengths_in-append (Plain (TruthValue b) ∷ xs) ys = lengths_in-append xs ys
lengths_in-append (Plain Null ∷ xs) ys = lengths_in-append xs ys
lengths_in-append (Plain (Reference o) ∷ xs) ys = lengths_in-append xs ys
lengths_in-append (Objects d ∷ xs) ys = lengths_in-append xs ys

greatest-append : (xs ys : Domain) → greatest (xs ++ ys) ≡ max (greatest xs) (greatest ys)
greatest-append [] ys = omega arith
greatest-append (Plain (Int (pos n)) ∷ xs) ys = let r = greatest-append xs ys in omega (arith, r)
greatest-append (Plain (Int (negsuc n)) ∷ xs) ys = greatest-append xs ys
greatest-append (Plain (TruthValue b) ∷ xs) ys = greatest-append xs ys
greatest-append (Plain Null ∷ xs) ys = greatest-append xs ys
greatest-append (Plain (Reference o) ∷ xs) ys = greatest-append xs ys
greatest-append (Objects d ∷ xs) ys = greatest-append xs ys

-- ---- lengths

-- of lengths all values are lengths
item_lengths : (setting : Setting) (item : Item) → AreLengths item → lengths_in (item_values setting Bits32 item) ≡ item_values setting Bits32 item
item_lengths setting (Number (pos n)) h = refl
item_lengths setting (Number (negsuc n)) h = absurd (cc (h))
item_lengths setting (Range (pos a) (pos b)) h = lengths_in_range a (width_between (pos a) (pos b))
item_lengths setting (Range (negsuc a) to) h = absurd (let x = h.0 in cc (x))
item_lengths setting (Range (pos a) (negsuc b)) h = absurd (let x = h.1 in cc (x))
item_lengths setting (Truth b) h = absurd h
item_lengths setting (Name name) h = absurd h

pub lengths_are : (setting : Setting) (items : List Item) → AllByRecursion AreLengths items → lengths_of setting items ≡ values_with setting Bits32 items
lengths_are setting [] h = refl
lengths_are setting (i ∷ is) h =
    lengths_in-append (item_values setting Bits32 i) (values_with setting Bits32 is)
    ∙ (ap (λ (ds : Domain). ds ++ lengths_in (values_with setting Bits32 is)) (item_lengths setting i h.0) ∙ ap (λ (ds : Domain). item_values setting Bits32 i ++ ds) (lengths_are setting is h.1))

-- the greatest of one entry more
pub greatest_more : (setting : Setting) (items : List Item) (all last next i : ℕ) (x : Item) → i < length items → all ≡ max last (greatest (lengths_of setting (drop i items)))
    → next ≡ max last (greatest (lengths_in (item_values setting Bits32 (get_or items i x)))) → all ≡ max next (greatest (lengths_of setting (drop (i + 1) items)))
greatest_more setting items all last next i x h e n =
    let item = get_or items i x in
    let rest = values_with setting Bits32 (drop (i + 1) items) in
    let a : greatest (lengths_of setting (drop i items)) ≡ max (greatest (lengths_in (item_values setting Bits32 item))) (greatest (lengths_in rest)) =
    ap (λ (is : List Item). greatest (lengths_of setting is)) (drop_more items i x h) ∙ (ap greatest (lengths_in-append (item_values setting Bits32 item) rest) ∙ greatest-append (lengths_in (item_values setting Bits32 item)) (lengths_in rest)) in
    omega (arith, e, n, a)

pub range_greatest : (setting : Setting) (a b : ℕ) → a ≤ b → greatest (lengths_in (item_values setting Bits32 (Range (pos a) (pos b)))) ≡ b
range_greatest setting a b h =
    ap (λ (n : ℕ). greatest (lengths_in (map integer (integers_from (pos a) n)))) (width_above a b h)
    ∙ (ap greatest (lengths_in_range a (suc (b - a))) ∙ (greatest_in_range a (b - a) ∙ omega (arith, h)))

pub range_none : (setting : Setting) (a b : ℕ) → b < a → greatest (lengths_in (item_values setting Bits32 (Range (pos a) (pos b)))) ≡ 0
range_none setting a b h = ap (λ (n : ℕ). greatest (lengths_in (map integer (integers_from (pos a) n)))) (width_none a b h)

pub entry_range : (setting : Setting) (item : Item) (from to : ℤ) (a b r : ℕ) → item ≡ Range from to → pos a ≡ from → pos b ≡ to → r ≡ greatest (lengths_in (item_values setting Bits32 (Range (pos a) (pos b)))) → r ≡ greatest (lengths_in (item_values setting Bits32 item))
entry_range setting item from to a b r e f t k =
    k ∙ (ap (λ (z : ℤ). greatest (lengths_in (item_values setting Bits32 (Range z (pos b))))) f
    ∙ (ap (λ (z : ℤ). greatest (lengths_in (item_values setting Bits32 (Range from z)))) t ∙ ap (λ (i : Item). greatest (lengths_in (item_values setting Bits32 i))) (sym e)))
