-- The objects of a structure, one entry after another.
use Rattle.std.proofs.Common.{◌≡◌, ℕ, suc, ◌+◌, ◌<◌, ◌≤◌, ◌==◌, Bool, true, false, List, [], ◌∷◌, ◌++◌, length, take, drop, get_or, refl, sym, ap, ◌∙◌, add-one, drop-cons}
use Rattle.std.specs.Prelude.{◌||◌, filter, flat_map, not, if◌then◌else◌}
use Rattle.std.proofs.lemmas.Bool.{eqb-true}
use Rattle.std.proofs.lemmas.List.{append-nil, drop_all}
use Rattle.std.proofs.lemmas.List.Elements.{filter-append}
use Rattle.kr_emit_meaning.specs.Builders.{referred}
use Rattle.kr_mean.specs.Heaps.{distinct}
use Rattle.kr_mean.specs.Runs.{contains_number, is_same_number}
use Rattle.kr_report_rows.proofs.Fronts.{front_grown}
use Rattle.kr_value.specs.declared.value.Value.{Value}
use Rattle.kr_value.specs.declared.value.Value.TheVariants.{Int, Bool as Truth, Null, Ref as Reference}
use Rattle.kr_emit.specs.Makings.{HasReferred}

-- without those that are x, y is among them as before
contains_filtered : (x y : ℕ) (ds : List ℕ) → (x == y) ≡ false → contains_number (filter (λ z. not (x == z)) ds) y ≡ contains_number ds y
contains_filtered x y [] h = refl
contains_filtered x y (d ∷ ds) h = by_same (contains_filtered x y ds h) (x == d) refl
  where
    p : ℕ → Bool
    p z = not (x == z)

    by_same : contains_number (filter p ds) y ≡ contains_number ds y → (b : Bool) → (x == d) ≡ b → contains_number (let kept : List ℕ = if not b then d ∷ filter p ds else filter p ds in kept) y ≡ ((d == y) || contains_number ds y)
    by_same rest true is =
        let other : (d == y) ≡ false = ap (λ n. n == y) (sym (eqb-true x d is)) ∙ h in
        rest ∙ sym (ap (λ (c : Bool). c || contains_number ds y) other)
    by_same rest false is = ap (λ (c : Bool). (d == y) || c) rest

filtered_new : (x y : ℕ) (ds : List ℕ)
    → filter (λ z. not (x == z)) (if contains_number ds y then [] else y ∷ []) ≡ (if (x == y) || contains_number (filter (λ z. not (x == z)) ds) y then [] else y ∷ [])
filtered_new x y ds = by_same (x == y) refl
  where
    p : ℕ → Bool
    p z = not (x == z)

    none : (c : Bool) → p y ≡ false → filter p (let new : List ℕ = if c then [] else y ∷ [] in new) ≡ []
    none true h = refl
    none false h = ap (λ (b : Bool). let new : List ℕ = if b then y ∷ [] else [] in new) h

    one : (c : Bool) → p y ≡ true → filter p (let new : List ℕ = if c then [] else y ∷ [] in new) ≡ (if c then [] else y ∷ [])
    one true h = refl
    one false h = ap (λ (b : Bool). let new : List ℕ = if b then y ∷ [] else [] in new) h

    by_same : (b : Bool) → (x == y) ≡ b → filter p (if contains_number ds y then [] else y ∷ []) ≡ (if b || contains_number (filter p ds) y then [] else y ∷ [])
    by_same true is = none (contains_number ds y) (ap not is)
    by_same false is = one (contains_number ds y) (ap not is) ∙ ap (λ (c : Bool). let new : List ℕ = if c then [] else y ∷ [] in new) (sym (contains_filtered x y ds is))

-- one number more
pub distinct_more : (xs : List ℕ) (y : ℕ) → distinct is_same_number (xs ++ y ∷ []) ≡ distinct is_same_number xs ++ (if contains_number (distinct is_same_number xs) y then [] else y ∷ [])
distinct_more [] y = refl
distinct_more (x ∷ xs) y =
    let ds : List ℕ = distinct is_same_number xs in
    let p : ℕ → Bool = λ z. not (x == z) in
    let new : List ℕ = if contains_number ds y then [] else y ∷ [] in
    ap (λ (l : List ℕ). x ∷ filter p l) (distinct_more xs y)
    ∙ (ap (λ (l : List ℕ). x ∷ l) (filter-append p ds new) ∙ ap (λ (l : List ℕ). x ∷ (filter p ds ++ l)) (filtered_new x y ds))

-- one that is none, or the same numbers
pub distinct_same : (xs ys : List ℕ) → ys ≡ [] → distinct is_same_number (xs ++ ys) ≡ distinct is_same_number xs
distinct_same xs ys e = ap (λ (l : List ℕ). distinct is_same_number (xs ++ l)) e ∙ ap (distinct is_same_number) (append-nil xs)

-- a number is among those from one on
pub contains_on : (xs : List ℕ) (i o d : ℕ) → i < length xs → (get_or xs i d == o) ≡ false → contains_number (drop i xs) o ≡ contains_number (drop (i + 1) xs) o
contains_on xs i o d h other = rw (add-one, drop-cons xs i d) (ap (λ (b : Bool). b || contains_number (drop (suc i) xs) o) other)

pub contains_here : (xs : List ℕ) (i o d : ℕ) → i < length xs → (get_or xs i d == o) ≡ true → contains_number (drop i xs) o ≡ true
contains_here xs i o d h same = rw (drop-cons xs i d) (ap (λ (b : Bool). b || contains_number (drop (suc i) xs) o) same)

pub contains_none : (xs : List ℕ) (i o : ℕ) → length xs ≤ i → contains_number (drop i xs) o ≡ false
contains_none xs i o h = ap (λ (l : List ℕ). contains_number l o) (drop_all i xs h)

-- the objects of so many entries, and one more
module _ (xs : List (ℕ × Value)) (i : ℕ) (d : ℕ × Value) (objects : List ℕ) (h : i < length xs) (so_far : objects ≡ distinct is_same_number (flat_map (λ (p : ℕ × Value). referred p.1) (take i xs))) where
  before : List ℕ
  before = flat_map (λ (p : ℕ × Value). referred p.1) (take i xs)

  grown : flat_map (λ (p : ℕ × Value). referred p.1) (take (i + 1) xs) ≡ before ++ referred (get_or xs i d).1
  unfolding before
  grown = front_grown (λ (p : ℕ × Value). referred p.1) xs i d h

  grown_by : (o : ℕ) (new : List ℕ) → referred (get_or xs i d).1 ≡ o ∷ [] → new ≡ objects ++ (if contains_number objects o then [] else o ∷ []) → new ≡ distinct is_same_number (flat_map (λ (p : ℕ × Value). referred p.1) (take (i + 1) xs))
  unfolding before
  grown_by o new is e =
      e ∙ (ap (λ (l : List ℕ). l ++ (if contains_number l o then [] else o ∷ [])) so_far
      ∙ (sym (distinct_more before o) ∙ ap (distinct is_same_number) (ap (λ (l : List ℕ). before ++ l) (sym is) ∙ sym grown)))

  grown_not : referred (get_or xs i d).1 ≡ [] → objects ≡ distinct is_same_number (flat_map (λ (p : ℕ × Value). referred p.1) (take (i + 1) xs))
  unfolding before
  grown_not is = so_far ∙ (sym (distinct_same before (referred (get_or xs i d).1) is) ∙ ap (distinct is_same_number) (sym grown))

  pub grown_on : (v : Value) (new : List ℕ) → v ≡ (get_or xs i d).1 → HasReferred objects v new → new ≡ distinct is_same_number (flat_map (λ (p : ℕ × Value). referred p.1) (take (i + 1) xs))
  grown_on (Reference o) new e h = grown_by o new (ap referred (sym e)) h
  grown_on (Int n) new e h = h ∙ grown_not (ap referred (sym e))
  grown_on (Truth b) new e h = h ∙ grown_not (ap referred (sym e))
  grown_on Null new e h = h ∙ grown_not (ap referred (sym e))
