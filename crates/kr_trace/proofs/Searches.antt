-- A bound among keys that ascend, and how many keys are between two bounds.
use Rattle.std.proofs.Common.{◌≡◌, ℕ, zero, suc, ◌+◌, ◌-◌, ◌<◌, ◌≤◌, ◌⊎◌, inl, inr, List, [], ◌∷◌, Bool, true, false, length, get_or, refl, sym, ap, ◌∙◌, subst, arith}
use Rattle.std.specs.Prelude.{◌&&◌, not, filter, if◌then◌else◌}
use Rattle.kr_base.specs.declared.span.Bound.{Bound}
use Rattle.kr_base.specs.declared.span.Bound.TheVariants.{At}
use Rattle.kr_base.specs.Bounds.{less}
use Rattle.kr_base.specs.Entries.{is_within}
use Rattle.kr_base.proofs.Bounds.{transitive}
use Rattle.kr_trace.specs.Checked.{rows_between}
use Rattle.kr_trace.specs.Tables.{Ascend, SplitsAt}

-- the keys before one place aren't above a bound, and those from another on are
pub record IsBetween (bound : Bound) (keys : List (List ℕ)) (low high : ℕ) : Type 0 where
  pub order : low ≤ high
  pub within : high ≤ length keys
  pub not_above : (i : ℕ) → i < low → less bound (At (get_or keys i [])) ≡ false
  pub above : (i : ℕ) → high ≤ i → i < length keys → less bound (At (get_or keys i [])) ≡ true

pub anywhere : (bound : Bound) (keys : List (List ℕ)) (high : ℕ) → high ≡ length keys → IsBetween bound keys 0 high
anywhere bound keys high is = record {
  order = omega arith;
  within = omega (arith, is);
  not_above = λ i h. absurd (omega (arith, h));
  above = λ i h l. absurd (omega (arith, h, l, is));
}

same_or_later : (m i : ℕ) → m ≤ i → (m ≡ i) ⊎ (m < i)
same_or_later m i h = grind arith

-- those after one that is above a bound are above it
pub above_from : (bound : Bound) (keys : List (List ℕ)) (m : ℕ) → Ascend keys → less bound (At (get_or keys m [])) ≡ true
    → (i : ℕ) → m ≤ i → i < length keys → less bound (At (get_or keys i [])) ≡ true
above_from bound keys m ascend is i from below = elim (same_or_later m i from) [
  | inl e ↦ subst (λ (k : ℕ). less bound (At (get_or keys k [])) ≡ true) e is
  | inr later ↦ transitive bound (At (get_or keys m [])) (At (get_or keys i [])) is (ascend m i later below)
]

-- those before one that isn't are not
pub not_above_to : (bound : Bound) (keys : List (List ℕ)) (m : ℕ) → Ascend keys → m < length keys → less bound (At (get_or keys m [])) ≡ false
    → (i : ℕ) → i < m + 1 → less bound (At (get_or keys i [])) ≡ false
not_above_to bound keys m ascend within is i below =
    go (less bound (At (get_or keys i []))) refl
  where
    go : (t : Bool) → less bound (At (get_or keys i [])) ≡ t → less bound (At (get_or keys i [])) ≡ false
    go false e = e
    go true e =
        let above : less bound (At (get_or keys m [])) ≡ true = above_from bound keys i ascend e m (omega (arith, below)) within in
        absurd (cc (above, is))

pub to_the_left : (bound : Bound) (keys : List (List ℕ)) (low high middle : ℕ) (key : List ℕ) → Ascend keys → IsBetween bound keys low high → low ≤ middle → middle < high
    → key ≡ get_or keys middle [] → less bound (At key) ≡ true → IsBetween bound keys low middle
to_the_left bound keys low high middle key ascend h after before is above = record {
  order = after;
  within = omega (arith, before, h.within);
  not_above = h.not_above;
  above = above_from bound keys middle ascend (subst (λ (k : List ℕ). less bound (At k) ≡ true) is above);
}

pub to_the_right : (bound : Bound) (keys : List (List ℕ)) (low high middle : ℕ) (key : List ℕ) → Ascend keys → IsBetween bound keys low high → low ≤ middle → middle < high
    → key ≡ get_or keys middle [] → less bound (At key) ≡ false → IsBetween bound keys (middle + 1) high
to_the_right bound keys low high middle key ascend h after before is above = record {
  order = omega (arith, before);
  within = h.within;
  not_above = not_above_to bound keys middle ascend (omega (arith, before, h.within)) (subst (λ (k : List ℕ). less bound (At k) ≡ false) is above);
  above = h.above;
}

-- without the first key
rest_zero : (b : Bound) (k : List ℕ) (ks : List (List ℕ)) → SplitsAt b (k ∷ ks) zero → SplitsAt b ks zero
rest_zero b k ks s = record {
  within = omega arith;
  low = λ i h. absurd (omega (arith, h));
  high = λ i h l. s.high (suc i) (omega arith) (omega (arith, l));
}

rest_suc : (b : Bound) (k : List ℕ) (ks : List (List ℕ)) (n : ℕ) → SplitsAt b (k ∷ ks) (suc n) → SplitsAt b ks n
rest_suc b k ks n s = record {
  within = omega (arith, s.within);
  low = λ i h. s.low (suc i) (omega (arith, h));
  high = λ i h l. s.high (suc i) (omega (arith, h)) (omega (arith, l));
}

first_above : (b : Bound) (k : List ℕ) (ks : List (List ℕ)) → SplitsAt b (k ∷ ks) zero → less b (At k) ≡ true
first_above b k ks s = s.high 0 (omega arith) (omega arith)

first_below : (b : Bound) (k : List ℕ) (ks : List (List ℕ)) (n : ℕ) → SplitsAt b (k ∷ ks) (suc n) → less b (At k) ≡ false
first_below b k ks n s = s.low 0 (omega arith)

-- how many keys are between two bounds
pub between_is : (mark reach : Bound) (keys : List (List ℕ)) (low high : ℕ) → SplitsAt mark keys low → SplitsAt reach keys high
    → rows_between keys mark reach ≡ high - low
between_is mark reach [] low high m r = omega (arith, m.within, r.within)
between_is mark reach (k ∷ ks) zero zero m r =
    rw (first_above mark k ks m, first_above reach k ks r) (between_is mark reach ks zero zero (rest_zero mark k ks m) (rest_zero reach k ks r))
between_is mark reach (k ∷ ks) zero (suc h) m r =
    rw (first_above mark k ks m, first_below reach k ks h r) (ap suc (between_is mark reach ks zero h (rest_zero mark k ks m) (rest_suc reach k ks h r)) ∙ omega arith)
between_is mark reach (k ∷ ks) (suc l) zero m r =
    rw (first_below mark k ks l m) (between_is mark reach ks l zero (rest_suc mark k ks l m) (rest_zero reach k ks r) ∙ omega arith)
between_is mark reach (k ∷ ks) (suc l) (suc h) m r =
    rw (first_below mark k ks l m) (between_is mark reach ks l h (rest_suc mark k ks l m) (rest_suc reach k ks h r) ∙ omega arith)
