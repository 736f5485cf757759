-- What a scan gives is a part, and a part is possible.
use Rattle.std.proofs.Common.{◌≡◌, ℕ, zero, suc, ◌^◌, ◌<◌, ◌≤◌, List, [], ◌∷◌, ◌++◌, Bool, true, false, cond, length, take, refl, sym, ap, ◌∙◌, subst, arith, length-append, length-take}
use Rattle.std.specs.Prelude.{if◌then◌else◌, ◌||◌, ◌==◌}
use Rattle.std.proofs.lemmas.List.Concat.{flat_map-append}
use Rattle.kr_base.specs.declared.span.Bound.{Bound}
use Rattle.kr_base.specs.declared.span.Bound.TheVariants.{At}
use Rattle.kr_base.specs.declared.entry.Mark.{Mark}
use Rattle.kr_base.specs.declared.entry.Mark.TheVariants.{Valid, Invalid, Spent}
use Rattle.kr_base.specs.declared.entry.Entry.{Entry}
use Rattle.kr_base.specs.Bounds.{less, is_cut}
use Rattle.kr_base.specs.Entries.{Ascends, is_spent, within, through_spent, entries_in, NoneSpent}
use Rattle.kr_survey.specs.declared.part.Part.{Part}
use Rattle.kr_survey.specs.Scans.{row_of, rows_of, any_spent, last_key, walked, reached, IsScan, GoesOn}
use Rattle.kr_survey.proofs.Walks.{scan_law}
use Rattle.kr_core.specs.Counts.{EndsSpent, IsSpentFlag}
use Rattle.kr_board.specs.Parts.{IsPart, IsPossible, PartLaw}

none-spent : {R : Type 0} (es : List (Entry R)) → any_spent es ≡ false → NoneSpent es
none-spent [] h = tt
none-spent (e ∷ es) h =
    elim (is_spent e.mark) as (λ t. is_spent e.mark ≡ t → (t || any_spent es) ≡ false → (is_spent e.mark ≡ false) × NoneSpent es) [
      | true ↦ λ p q. absurd (cc (q))
      | false ↦ λ p q. (p, none-spent es q)
    ] refl h

nil-taken : {A : Type 0} (m : ℕ) → take {A = A} m [] ≡ []
nil-taken zero = refl
nil-taken (suc m) = refl

only : {R : Type 0} (e : Entry R) (w : List (Entry R)) (b : Bound) → is_spent e.mark ≡ true → w ≡ [] → EndsSpent (last_key b (e ∷ w)) (e ∷ w)
only {R} e w b spent none =
    let one : EndsSpent (At e.key) (e ∷ []) = record { before = []; last = e; split = refl; none_before = tt; last_spent = spent; key_is = refl } in
    subst (λ (l : List (Entry R)). EndsSpent (last_key b (e ∷ l)) (e ∷ l)) (sym none) one

more : {R : Type 0} (e : Entry R) (w : List (Entry R)) (b : Bound) → is_spent e.mark ≡ false → EndsSpent (last_key (At e.key) w) w → EndsSpent (last_key b (e ∷ w)) (e ∷ w)
more {R} e w b clean k = record {
  before = e ∷ k.before;
  last = k.last;
  split = ap (λ (l : List (Entry R)). e ∷ l) k.split;
  none_before = (clean, k.none_before);
  last_spent = k.last_spent;
  key_is = k.key_is;
}

-- a walk with a spent entry ends with it
ends-spent : {R : Type 0} (m : ℕ) (xs : List (Entry R)) (b : Bound) → any_spent (take m (through_spent xs)) ≡ true → EndsSpent (last_key b (take m (through_spent xs))) (take m (through_spent xs))
ends-spent zero xs b h = absurd (cc (h))
ends-spent (suc m) [] b h = absurd (cc (h))
ends-spent {R} (suc m) (e ∷ xs) b h =
    elim (is_spent e.mark) as (λ t. is_spent e.mark ≡ t → (t || any_spent (take m (if t then [] else through_spent xs))) ≡ true
    → EndsSpent (last_key b (e ∷ take m (if t then [] else through_spent xs))) (e ∷ take m (if t then [] else through_spent xs))) [
      | true ↦ λ p q. only e (take m []) b p (nil-taken m)
      | false ↦ λ p q. more e (take m (through_spent xs)) b p (ends-spent m xs (At e.key) q)
    ] refl h

flag : {R : Type 0} (upto : Bound) (most : ℕ) (xs : List (Entry R)) (t : Bool) → any_spent (take most (through_spent xs)) ≡ t → IsSpentFlag t (reached upto most (take most (through_spent xs))) (take most (through_spent xs))
flag {R} upto most xs true h =
    let w = take most (through_spent xs) in
    let there : reached upto most w ≡ last_key upto w = ap (λ (t : Bool). cond (t || (length w == most)) (last_key upto w) upto) h in
    subst (λ (b : Bound). EndsSpent b w) (sym there) (ends-spent most xs upto h)
flag upto most xs false h = none-spent (take most (through_spent xs)) h

from_scan : {R : Type 0} (all : List (Entry R)) (after : List ℕ) (part : Part R) (upto : Bound) (most : ℕ) → Ascends all → less (At after) upto ≡ true → 0 < most → most < 2 ^ 32 → IsScan all after upto most part → IsPart all after part
from_scan {R} all after part upto most asc up some fits scan =
    let w = walked all after upto most in
    let g : GoesOn all after upto most = scan_law all after upto most asc up some in
    let same : w ≡ within (At after) part.reach all = g.entries ∙ ap (λ (b : Bound). within (At after) b all) (sym scan.reach) in
    let short = length-take most (entries_in (At after) upto all) in
    let tried = scan.tried in
    record {
      above = subst (λ (b : Bound). less (At after) b ≡ true) (sym scan.reach) g.above;
      rows = scan.rows ∙ ap (λ (l : List (Entry R)). rows_of l) same;
      tried = scan.tried ∙ ap (λ (l : List (Entry R)). length l) same;
      tried_fits = omega (arith, short, tried, fits);
      spent = subst (λ (l : List (Entry R)). IsSpentFlag part.spent part.reach l) same
          (subst (λ (b : Bound). IsSpentFlag part.spent b w) (sym scan.reach) (subst (λ (t : Bool). IsSpentFlag t (reached upto most w) w) (sym scan.spent) (flag upto most (within (At after) upto all) (any_spent w) refl)));
    }

pub row-few : {R : Type 0} (m : Mark R) → length (row_of m) ≤ 1
row-few (Valid row) = omega arith
row-few Invalid = omega arith
row-few Spent = omega arith

rows-few : {R : Type 0} (es : List (Entry R)) → length (rows_of es) ≤ length es
rows-few [] = omega arith
rows-few {R} (e ∷ es) =
    let a = length-append (row_of e.mark) (rows_of es) in
    let b = row-few e.mark in
    let c = rows-few es in
    omega (arith, a, b, c)

spent-row : {R : Type 0} (m : Mark R) → is_spent m ≡ true → length (row_of m) ≡ 0
spent-row (Valid row) h = absurd (cc (h))
spent-row Invalid h = absurd (cc (h))
spent-row Spent h = refl

rows-fewer : {R : Type 0} (b : Bound) (es : List (Entry R)) → EndsSpent b es → length (rows_of es) < length es
rows-fewer {R} b es k =
    let joined : rows_of (k.before ++ k.last ∷ []) ≡ rows_of k.before ++ rows_of (k.last ∷ []) = flat_map-append _ k.before (k.last ∷ []) in
    let a = ap (λ (l : List R). length l) joined in
    let b = length-append (rows_of k.before) (rows_of (k.last ∷ [])) in
    let none : List R = [] in
    let c = length-append (row_of k.last.mark) none in
    let d = spent-row k.last.mark k.last_spent in
    let e = rows-few k.before in
    let f = length-append k.before (k.last ∷ []) in
    subst (λ (l : List (Entry R)). length (rows_of l) < length l) (sym k.split) (omega (arith, a, b, c, d, e, f))

flag-cut : {R : Type 0} (t : Bool) (b : Bound) (es : List (Entry R)) → IsSpentFlag t b es → t ≡ true → is_cut b ≡ true
flag-cut true b es k h = ap is_cut (sym k.key_is)
flag-cut false b es k h = absurd (cc (h))

flag-fewer : {R : Type 0} (t : Bool) (b : Bound) (es : List (Entry R)) → IsSpentFlag t b es → t ≡ true → length (rows_of es) < length es
flag-fewer true b es k h = rows-fewer b es k
flag-fewer false b es k h = absurd (cc (h))

possible : {R : Type 0} (all : List (Entry R)) (after : List ℕ) (part : Part R) → IsPart all after part → IsPossible after part
possible {R} all after part p =
    let es = within (At after) part.reach all in
    let rows : length part.rows ≡ length (rows_of es) = ap (λ (l : List R). length l) p.rows in
    let tried = p.tried in
    let few = rows-few es in
    record {
      above = p.above;
      rows = omega (arith, rows, tried, few);
      cut = λ h. flag-cut part.spent part.reach es p.spent h;
      fewer = λ h. let fewer = flag-fewer part.spent part.reach es p.spent h in omega (arith, rows, tried, fewer);
    }

pub part_law : {R : Type 0} → PartLaw R
part_law all after part = record { from_scan = from_scan all after part; possible = possible all after part }
