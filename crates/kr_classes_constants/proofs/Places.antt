-- Values by the places of constants.
use Rattle.std.proofs.Common.{◌≡◌, refl, sym, ap, ◌∙◌, subst, ℕ, Bool, true, false, ◌&&◌, List, [], ◌∷◌, ◌++◌, nat_eq, if◌then◌else◌, arith}
use Rattle.std.specs.Prelude.{Option, Some, None, is_some}
use Rattle.std.specs.Map.{lookup}
use Rattle.std.proofs.lemmas.Bool.Decides.{nat_tests}
use Rattle.kr_base.specs.declared.place.Place.{Place}
use Rattle.kr_value.specs.declared.value.Value.{Value}
use Rattle.kr_classes_table.specs.Constants.{Known, is_at_place, value_at, or_else}
use Rattle.kr_classes_constants.specs.Kept.{Key, is_key_of, found, AreValues}

pub looked : (p : Place) (es : List (Key × Value)) → lookup (is_key_of p) es ≡ found p es
looked p [] = refl
looked p (e ∷ es) = ap (λ r. if is_key_of p e.0 then Some e.1 else r) (looked p es)

choice_or : {A : Type 0} (b : Bool) (x : A) (r s : Option A) → (if b then Some x else or_else r s) ≡ or_else (if b then Some x else r) s
choice_or true x r s = refl
choice_or false x r s = refl

value_push : (known : List Known) (k : Known) (p : Place) → value_at (known ++ k ∷ []) p ≡ or_else (value_at known p) (if is_at_place k.place p then Some k.value else None)
value_push [] k p = refl
value_push (j ∷ known) k p = ap (λ r. if is_at_place j.place p then Some j.value else r) (value_push known k p) ∙ choice_or (is_at_place j.place p) j.value (value_at known p) (if is_at_place k.place p then Some k.value else None)

found_push : (p : Place) (es : List (Key × Value)) (e : Key × Value) → found p (es ++ e ∷ []) ≡ or_else (found p es) (if is_key_of p e.0 then Some e.1 else None)
found_push p [] e = refl
found_push p (d ∷ es) e = ap (λ r. if is_key_of p d.0 then Some d.1 else r) (found_push p es e) ∙ choice_or (is_key_of p d.0) d.1 (found p es) (if is_key_of p e.0 then Some e.1 else None)

turned : (a b : ℕ) → nat_eq a b ≡ nat_eq b a
turned a b = grind (arith, nat_tests)

key_is_place : (p q : Place) → is_key_of p (q.file, q.line, q.col) ≡ is_at_place q p
key_is_place p q = λ i. turned p.file q.file i && turned p.line q.line i && turned p.col q.col i

both : (a b : Bool) → a && b ≡ true → (a ≡ true) × (b ≡ true)
both true b h = (refl, h)
both false b h = absurd (cc h)

equal : (a b : ℕ) → nat_eq a b ≡ true → a ≡ b
equal a b h = grind (arith, nat_tests)

same_place : (p q : Place) → is_at_place p q ≡ true → p ≡ q
same_place p q h =
    let f = both (nat_eq p.file q.file && nat_eq p.line q.line) (nat_eq p.col q.col) h in
    let g = both (nat_eq p.file q.file) (nat_eq p.line q.line) f.0 in
    let files = equal p.file q.file g.0 in
    let lines = equal p.line q.line g.1 in
    let cols = equal p.col q.col f.1 in
    λ i. record { file = files i; line = lines i; col = cols i }

present : (o : Option Value) (b : Bool) (v : Value) → (b ≡ true → is_some o ≡ true) → o ≡ or_else o (if b then Some v else None)
present (Some x) b v h = refl
present None true v h = absurd (cc (h refl))
present None false v h = refl

module _ (known : List Known) (kept : List (Key × Value)) (place : Place) (value : Value) (h : AreValues known kept) where
  -- a place that has a value keeps it
  pub kept_value : is_some (found place kept) ≡ true → AreValues (known ++ record { place = place; value = value } ∷ []) kept
  kept_value some p =
      let there : is_some (value_at known place) ≡ true = ap is_some (sym (h place)) ∙ some in
      h p
      ∙ present (value_at known p) (is_at_place place p) value
      (λ b. subst (λ (q : Place). is_some (value_at known q) ≡ true) (same_place place p b) there)
      ∙ sym (value_push known (record { place = place; value = value }) p)

  -- one value more
  pub added_value : AreValues (known ++ record { place = place; value = value } ∷ []) (kept ++ ((place.file, place.line, place.col), value) ∷ [])
  added_value p =
      found_push p kept ((place.file, place.line, place.col), value)
      ∙ (λ i. or_else (h p i) (if key_is_place p place i then Some value else None))
      ∙ sym (value_push known (record { place = place; value = value }) p)

pub none_from : {A : Type 0} (o : Option A) → is_some o ≡ false → o ≡ None
none_from None h = refl
none_from (Some x) h = absurd (cc h)
