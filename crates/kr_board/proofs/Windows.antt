-- The rows kept stay in their window, through each event.
use Rattle.std.proofs.Common.{◌≡◌, ℕ, suc, ◌+◌, ◌-◌, ◌^◌, ◌≤◌, List, [], ◌∷◌, ◌++◌, Bool, true, false, ◌&&◌, not, length, drop, refl, sym, ap, ◌∙◌, subst, arith, cond, ◌==◌, length-append, Option, Some, None}
use Rattle.std.specs.Prelude.{if◌then◌else◌, nat_lt}
use Rattle.std.specs.List.{sum_by}
use Rattle.std.proofs.lemmas.Bool.Decides.{nat_tests}
use Rattle.std.proofs.lemmas.List.Sums.{sum_by-cons}
use Rattle.kr_survey.specs.Joins.{joined}
use Rattle.kr_core.specs.declared.segment.Segment.{Segment}
use Rattle.kr_core.specs.declared.event.Event.{Event}
use Rattle.kr_core.specs.declared.event.Event.TheVariants.{Take, Steal, Report, GiveUp, Drain, StopAt, Look}
use Rattle.kr_core.specs.States.{State, is_closed}
use Rattle.kr_core.specs.Rows.{brought}
use Rattle.kr_core.specs.Beside.{grown, parted, emptied, first_alone, beside}
use Rattle.kr_core.proofs.Rowing.{rows_in}
use Rattle.kr_board.specs.Held.{Held}
use Rattle.kr_board.specs.Windows.{CountsFew, IsInWindow, IsFew, passes, is_open_front, is_over, Admits}
use Rattle.kr_board.proofs.Sound.{join, size, sizes, total-end, total-grown, total-parted, total-emptied, total-first}

-- the rows after the first list
abbrev behind : {R : Type 0} → List (List R) → ℕ
behind ks = length (joined (drop 1 ks))

behind-few : {R : Type 0} (ks : List (List R)) → behind ks ≤ length (joined ks)
behind-few [] = omega arith
behind-few (k ∷ ks) = let a = length-append k (joined ks) in omega (arith, a)

behind-parted : {R : Type 0} (n : ℕ) (ss : List Segment) (ks : List (List R)) → behind (parted [] n ss ks) ≤ behind ks
behind-parted n [] ks = omega arith
behind-parted n (s ∷ ss) [] = omega arith
behind-parted {R} n (s ∷ ss) (k ∷ ks) =
    elim (s.number == n) as (λ b. behind (cond b (k ∷ ([] ∷ ks)) (k ∷ parted [] n ss ks)) ≤ length (joined ks)) [ true ↦ omega arith | false ↦ total-parted n ss ks ]

behind-emptied : {R : Type 0} (ss : List Segment) (ks : List (List R)) → behind (emptied [] ss ks) ≤ behind ks
behind-emptied [] ks = omega arith
behind-emptied (s ∷ ss) [] = omega arith
behind-emptied (s ∷ []) (k ∷ ks) = omega arith
behind-emptied {R} (s ∷ t ∷ ss) (k ∷ ks) =
    elim (is_closed s) as (λ b. behind (cond b (emptied [] (t ∷ ss) ks) ([] ∷ ks)) ≤ length (joined ks)) [
      | true ↦ let a = behind-few (emptied [] (t ∷ ss) ks) in let b = total-emptied (t ∷ ss) ks in omega (arith, a, b)
      | false ↦ omega arith
    ]

behind-first : {R : Type 0} (ks : List (List R)) → behind (first_alone ks) ≤ behind ks
behind-first [] = omega arith
behind-first (k ∷ ks) = omega arith

-- a test that failed
not-over : (a b : ℕ) (c : Bool) → (nat_lt a b && not c) ≡ false → c ≡ false → b ≤ a
not-over a b true h e = absurd (cc (e))
not-over a b false h e = grind (arith, nat_tests)

zero-test : (n : ℕ) → (n == 0) ≡ true → n ≡ 0
zero-test n h = grind (arith, nat_tests)

-- a report: in a list after the first, or in the first with rows, all stay within the window; else the first alone grows
record InWindow {R : Type 0} (w : ℕ) (ks : List (List R)) : Type 0 where
  pub later : behind ks ≤ w
  pub all : length (joined ks) ≤ w + 256

under : {R : Type 0} (w : ℕ) (ks : List (List R)) → length (joined ks) ≤ w → InWindow w ks
under w ks h = let a = behind-few ks in record { later = omega (arith, a, h); all = omega (arith, h) }

grown-in : {R : Type 0} (w n : ℕ) (more : List R) (ends : Bool) (ss : List Segment) (ks : List (List R)) → rows_in ss ≡ sizes ks → behind ks ≤ w → (nat_lt w (length (joined ks) + length more) && not (is_open_front n ss)) ≡ false
    → length more ≤ 256 → InWindow w (grown join n more ends ss ks)
grown-in w n more ends [] ks same low room few = under w [] (omega arith)
grown-in w n more ends (s ∷ ss) [] same low room few = under w [] (omega arith)
grown-in {R} w n more ends (s ∷ ss) (k ∷ ks) same low room few =
    elim (s.number == n) as (λ b. (nat_lt w (length (k ++ joined ks) + length more) && not (b && (s.rows == 0))) ≡ false
    → InWindow w (cond b ((k ++ more) ∷ (if ends then [] else ks)) (k ∷ grown join n more ends ss ks))) [
      | true ↦ λ q.
          let a = length-append (k ++ more) (joined (if ends then [] else ks)) in
          let b = length-append k more in
          let c = length-append k (joined ks) in
          let d = total-end ends ks in
          elim (s.rows == 0) as (λ t. (s.rows == 0) ≡ t → (nat_lt w (length (k ++ joined ks) + length more) && not t) ≡ false → InWindow w ((k ++ more) ∷ (if ends then [] else ks))) [
            | true ↦ λ e p.
                let none = zero-test s.rows e in
                let first : s.rows ≡ size k = cc (same) in
                record { later = omega (arith, d, low); all = omega (arith, a, b, c, d, low, few, none, first) }
            | false ↦ λ e p.
                let under-w = not-over w (length (k ++ joined ks) + length more) false p refl in
                under w _ (omega (arith, a, b, c, d, under-w))
          ] refl q
      | false ↦ λ q.
          let under-w = not-over w (length (k ++ joined ks) + length more) false q refl in
          let a = length-append k (joined (grown join n more ends ss ks)) in
          let c = length-append k (joined ks) in
          let d = total-grown n more ends ss ks in
          under w _ (omega (arith, a, c, d, under-w))
    ] room

fewer : {R : Type 0} (w : ℕ) (old new : List (List R)) → behind old ≤ w → length (joined old) ≤ w + 256 → behind new ≤ behind old → length (joined new) ≤ length (joined old) → InWindow w new
fewer w old new a b c d = record { later = omega (arith, a, c); all = omega (arith, b, d) }

beside-in : {R : Type 0} (w : ℕ) (b : Held R) (event : Event) (more : List R) → b.window ≡ Some w → rows_in b.core.segments ≡ sizes b.kept → behind b.kept ≤ w → length (joined b.kept) ≤ w + 256 → Admits b event (length more)
    → InWindow w (beside join [] b.core event more b.kept)
beside-in w b (Take seat n) more is same low all admits = record { later = low; all = all }
beside-in w b (Steal seat victim cut n) more is same low all admits = fewer w b.kept _ low all (behind-parted victim b.core.segments b.kept) (total-parted victim b.core.segments b.kept)
beside-in {R} w b (Report seat n reach rows tried spent) more is same low all admits =
    grown-in w n more spent b.core.segments b.kept same low
    (ap (λ (o : Option ℕ). passes o (length (joined b.kept) + length more) && not (is_open_front n b.core.segments)) (sym is) ∙ admits.0)
    (subst (λ (o : Option ℕ). IsFew o (length more)) is admits.1)
beside-in w b (GiveUp seat n) more is same low all admits = record { later = low; all = all }
beside-in w b (Drain rows) more is same low all admits = fewer w b.kept _ low all (behind-emptied b.core.segments b.kept) (total-emptied b.core.segments b.kept)
beside-in w b (StopAt cut) more is same low all admits = fewer w b.kept _ low all (behind-first b.kept) (total-first b.kept)
beside-in w b (Look seat) more is same low all admits = record { later = low; all = all }

pub stays_in_window : {R : Type 0} (b : Held R) (event : Event) (more : List R) (now : List (List R)) → rows_in b.core.segments ≡ sizes b.kept → now ≡ beside join [] b.core event more b.kept → IsInWindow b.window b.kept
    → Admits b event (length more) → IsInWindow b.window now
stays_in_window {R} b event more now same is kept admits = of b.window refl kept
  where
    of : (o : Option ℕ) → b.window ≡ o → IsInWindow o b.kept → IsInWindow o now
    of None e k = tt
    of (Some w) e k =
        let r = beside-in w b event more e same k.0 k.1 admits in
        subst (λ (ks : List (List R)). IsInWindow (Some w) ks) (sym is) (r.later, r.all)

-- few rows, whatever the window
pub few : (window : Option ℕ) (n : ℕ) → n ≤ 256 → IsFew window n
few None n h = tt
few (Some w) n h = h

-- what the segments count
few_counted : {R : Type 0} (ss : List Segment) (ks : List (List R)) → rows_in ss ≡ sizes ks → sum_by (λ s. s.rows) ss ≤ length (joined ks)
few_counted [] ks h = omega arith
few_counted (s ∷ ss) [] h = absurd (cc (h))
few_counted {R} (s ∷ ss) (k ∷ ks) h =
    let first : s.rows ≡ size k = cc (h) in
    let rest = few_counted ss ks (cc (h)) in
    let sum = sum_by-cons (λ (g : Segment). g.rows) s ss in
    let a = length-append k (joined ks) in
    omega (arith, first, rest, sum, a)

pub counts_few : {R : Type 0} (window : Option ℕ) (core : State) (ks : List (List R)) → rows_in core.segments ≡ sizes ks → IsInWindow window ks → CountsFew window core
counts_few None core ks h k = tt
counts_few (Some w) core ks h k = let a = few_counted core.segments ks h in let b = k.1 in omega (arith, a, b)
