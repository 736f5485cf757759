-- What a scan walks.
use Rattle.std.proofs.Common.{◌≡◌, ℕ, zero, suc, ◌-◌, ◌<◌, List, [], ◌∷◌, Bool, true, false, ◌&&◌, not, ◌==◌, cond, length, take, refl, sym, ap, ◌∙◌, subst, arith}
use Rattle.std.specs.Prelude.{◌||◌, if◌then◌else◌}
use Rattle.std.proofs.lemmas.Bool.Decides.{nat_tests}
use Rattle.std.proofs.lemmas.Bool.{and_parts, not-true}
use Rattle.kr_base.specs.declared.span.Bound.{Bound}
use Rattle.kr_base.specs.declared.span.Bound.TheVariants.{At}
use Rattle.kr_base.specs.declared.entry.Entry.{Entry}
use Rattle.kr_base.specs.Bounds.{less}
use Rattle.kr_base.specs.Entries.{AllAfter, Ascends, is_spent, is_within, within, through_spent}
use Rattle.kr_base.proofs.Bounds.{irreflexive, not_above_less, asymmetric, less_from_before}
use Rattle.kr_survey.specs.Scans.{any_spent, last_key, reached, GoesOn, ScanLaw}

zero-not : (m : ℕ) → (0 == suc m) ≡ false
zero-not m = grind (arith, nat_tests)

suc-same : (m n : ℕ) → (suc m == suc n) ≡ (m == n)
suc-same m n = grind (arith, nat_tests)

-- whether a walk was stopped
abbrev pub is_stopped : {R : Type 0} → ℕ → List (Entry R) → Bool
is_stopped m w = any_spent w || (length w == m)

abbrev pub walk : {R : Type 0} → Bound → Bound → ℕ → List (Entry R) → List (Entry R)
walk a b m es = take m (through_spent (within a b es))

-- nothing of a list is up to a key that is before all of it
none_after : {R : Type 0} (a : Bound) (k : List ℕ) (es : List (Entry R)) → AllAfter k es → within a (At k) es ≡ []
none_after a k [] h = refl
none_after {R} a k (e ∷ es) h =
    let above : less (At k) (At e.key) ≡ true = less_from_before k e.key h.0 in
    rw above (elim (less a (At e.key)) as (λ t. (if t && false then e ∷ within a (At k) es else within a (At k) es) ≡ []) [ true ↦ none_after a k es h.1 | false ↦ none_after a k es h.1 ])

-- a walk that was stopped, by where it came
record Comes {R : Type 0} (es : List (Entry R)) (a b : Bound) (w : List (Entry R)) : Type 0 where
  pub entries : w ≡ within a (last_key b w) es
  pub above : less a (last_key b w) ≡ true
  pub below : less b (last_key b w) ≡ false
  pub later : (x : List ℕ) → AllAfter x es → less (At x) (last_key b w) ≡ true

-- what isn't in a span isn't in one that ends earlier
outside : (a b k : Bound) (key : List ℕ) → less b k ≡ false → is_within a b key ≡ false → is_within a k key ≡ false
outside a b k key low h =
    elim (less b (At key)) as (λ t. less b (At key) ≡ t → (less a (At key) && not t) ≡ false → is_within a k key ≡ false) [
      | true ↦ λ q o. rw (not_above_less k b (At key) low q) (elim (less a (At key)) as (λ t. (t && false) ≡ false) [ true ↦ refl | false ↦ refl ])
      | false ↦ λ q o. elim (less a (At key)) as (λ t. (t && true) ≡ false → (t && not (less k (At key))) ≡ false) [ true ↦ λ p. absurd (cc (p)) | false ↦ λ p. refl ] o
    ] refl h

skip : {R : Type 0} (a b : Bound) (e : Entry R) (es w : List (Entry R)) → is_within a b e.key ≡ false → Ascends (e ∷ es) → Comes es a b w → Comes (e ∷ es) a b w
skip {R} a b e es w out asc c =
    let k = last_key b w in
    let gone : is_within a k e.key ≡ false = outside a b k e.key c.below out in
    record {
      entries = c.entries ∙ ap (λ (t : Bool). cond t (e ∷ within a k es) (within a k es)) (sym gone);
      above = c.above;
      below = c.below;
      later = λ x h. c.later x h.1;
    }

only : {R : Type 0} (a b : Bound) (e : Entry R) (es : List (Entry R)) → is_within a b e.key ≡ true → Ascends (e ∷ es) → Comes (e ∷ es) a b (e ∷ [])
only {R} a b e es inside asc =
    let up : less a (At e.key) ≡ true = (and_parts (less a (At e.key)) (not (less b (At e.key))) inside).0 in
    let here : is_within a (At e.key) e.key ≡ true = rw (up, irreflexive (At e.key)) refl in
    record {
      entries = sym (ap (λ (t : Bool). cond t (e ∷ within a (At e.key) es) (within a (At e.key) es)) here ∙ ap (λ (l : List (Entry R)). e ∷ l) (none_after a e.key es asc.0));
      above = up;
      below = not-true (less b (At e.key)) (and_parts (less a (At e.key)) (not (less b (At e.key))) inside).1;
      later = λ x h. less_from_before x e.key h.0;
    }

-- a walk with an entry has a last key
same-last : {R : Type 0} (b c : Bound) (m : ℕ) (w : List (Entry R)) → is_stopped (suc m) w ≡ true → last_key b w ≡ last_key c w
same-last b c m [] h = absurd (cc (sym (zero-not m) ∙ h))
same-last b c m (e ∷ w) h = refl

more : {R : Type 0} (a b : Bound) (e : Entry R) (es w : List (Entry R)) → is_within a b e.key ≡ true → Ascends (e ∷ es) → last_key b w ≡ last_key (At e.key) w → Comes es a b w → Comes (e ∷ es) a b (e ∷ w)
more {R} a b e es w inside asc same c =
    let k = last_key b w in
    let up : less a (At e.key) ≡ true = (and_parts (less a (At e.key)) (not (less b (At e.key))) inside).0 in
    let low : less k (At e.key) ≡ false = asymmetric (At e.key) k (c.later e.key asc.0) in
    let here : is_within a k e.key ≡ true = rw (up, low) refl in
    let there : e ∷ w ≡ within a k (e ∷ es) = ap (λ (l : List (Entry R)). e ∷ l) c.entries ∙ sym (ap (λ (t : Bool). cond t (e ∷ within a k es) (within a k es)) here) in
    record {
      entries = subst (λ (x : Bound). e ∷ w ≡ within a x (e ∷ es)) same there;
      above = subst (λ (x : Bound). less a x ≡ true) same c.above;
      below = subst (λ (x : Bound). less b x ≡ false) same c.below;
      later = λ x h. subst (λ (y : Bound). less (At x) y ≡ true) same (c.later x h.1);
    }

-- a walk whose first entry is in the span
first : {R : Type 0} (a b : Bound) (e : Entry R) (es : List (Entry R)) → Ascends (e ∷ es) → is_within a b e.key ≡ true
    → ((n : ℕ) → is_stopped (suc n) (walk a b (suc n) es) ≡ true → Comes es a b (walk a b (suc n) es))
    → (n : ℕ) (t : Bool) → is_spent e.mark ≡ t → is_stopped (suc n) (e ∷ take n (if t then [] else through_spent (within a b es))) ≡ true
    → Comes (e ∷ es) a b (e ∷ take n (if t then [] else through_spent (within a b es)))
first a b e es asc inside on zero t q s = only a b e es inside asc
first a b e es asc inside on (suc n) true q s = only a b e es inside asc
first {R} a b e es asc inside on (suc n) false q s =
    let w = walk a b (suc n) es in
    let later : is_stopped (suc n) w ≡ true = sym (ap (λ (t : Bool). t || any_spent w || (suc (length w) == suc (suc n))) q ∙ ap (λ (t : Bool). any_spent w || t) (suc-same (length w) (suc n))) ∙ s in
    more a b e es w inside asc (same-last b (At e.key) n w later) (on n later)

-- a walk that was stopped
stops : {R : Type 0} (a b : Bound) (m : ℕ) (es : List (Entry R)) → Ascends es → is_stopped (suc m) (walk a b (suc m) es) ≡ true → Comes es a b (walk a b (suc m) es)
stops a b m [] asc h = absurd (cc (sym (zero-not m) ∙ h))
stops {R} a b m (e ∷ es) asc h =
    elim (is_within a b e.key) as (λ t. is_within a b e.key ≡ t → is_stopped (suc m) (take (suc m) (through_spent (cond t (e ∷ within a b es) (within a b es)))) ≡ true
    → Comes (e ∷ es) a b (take (suc m) (through_spent (cond t (e ∷ within a b es) (within a b es))))) [
      | true ↦ λ q s. first a b e es asc q (λ n. stops a b n es asc.1) m (is_spent e.mark) refl s
      | false ↦ λ q s. skip a b e es (walk a b (suc m) es) q asc (stops a b m es asc.1 s)
    ] refl h

-- one that wasn't reaches the end
last : {R : Type 0} (e : Entry R) (xs : List (Entry R)) → ((n : ℕ) → is_stopped (suc n) (take (suc n) (through_spent xs)) ≡ false → take (suc n) (through_spent xs) ≡ xs)
    → (n : ℕ) (t : Bool) → is_spent e.mark ≡ t → is_stopped (suc n) (e ∷ take n (if t then [] else through_spent xs)) ≡ false → e ∷ take n (if t then [] else through_spent xs) ≡ e ∷ xs
last {R} e xs on n true q s =
    let none : List (Entry R) = take n [] in
    absurd (cc (sym (ap (λ (u : Bool). u || any_spent none || (suc (length none) == suc n)) q) ∙ s))
last {R} e xs on zero false q s = absurd (cc (sym (ap (λ (u : Bool). (u || false) || true) q) ∙ s))
last {R} e xs on (suc n) false q s =
    let w = take (suc n) (through_spent xs) in
    ap (λ (l : List (Entry R)). e ∷ l) (on n (sym (ap (λ (t : Bool). t || any_spent w || (suc (length w) == suc (suc n))) q ∙ ap (λ (t : Bool). any_spent w || t) (suc-same (length w) (suc n))) ∙ s))

ends : {R : Type 0} (m : ℕ) (xs : List (Entry R)) → is_stopped (suc m) (take (suc m) (through_spent xs)) ≡ false → take (suc m) (through_spent xs) ≡ xs
ends m [] h = refl
ends {R} m (e ∷ xs) h = last e xs (λ n. ends n xs) m (is_spent e.mark) refl h

positive : (m : ℕ) → 0 < m → m ≡ suc (m - 1)
positive m h = omega arith

pub scan_law : {R : Type 0} → ScanLaw R
scan_law {R} all after upto most asc up some =
    let m = most - 1 in
    let goes : GoesOn all after upto (suc m) = elim (is_stopped (suc m) (walk (At after) upto (suc m) all)) as (λ t. is_stopped (suc m) (walk (At after) upto (suc m) all) ≡ t → GoesOn all after upto (suc m)) [
      | true ↦ λ h.
          let w = walk (At after) upto (suc m) all in
          let c = stops (At after) upto m all asc h in
          let e : last_key upto w ≡ reached upto (suc m) w = sym (ap (λ (t : Bool). cond t (last_key upto w) upto) h) in
          record {
            entries = subst (λ (k : Bound). w ≡ within (At after) k all) e c.entries;
            above = subst (λ (k : Bound). less (At after) k ≡ true) e c.above;
            below = subst (λ (k : Bound). less upto k ≡ false) e c.below;
          }
      | false ↦ λ h.
          let w = walk (At after) upto (suc m) all in
          let e : upto ≡ reached upto (suc m) w = sym (ap (λ (t : Bool). cond t (last_key upto w) upto) h) in
          record {
            entries = subst (λ (k : Bound). w ≡ within (At after) k all) e (ends m (within (At after) upto all) h);
            above = subst (λ (k : Bound). less (At after) k ≡ true) e up;
            below = subst (λ (k : Bound). less upto k ≡ false) e (irreflexive upto);
          }
    ] refl in
    subst (λ (n : ℕ). GoesOn all after upto n) (sym (positive most some)) goes
