-- A span cut into parts, one list for each.
use Rattle.std.proofs.Common.{◌≡◌, ℕ, zero, suc, ◌+◌, ◌-◌, ◌<◌, ◌≤◌, List, [], ◌∷◌, ◌++◌, true, false, length, length-append, refl, sym, ap, ◌∙◌, subst, append_assoc, arith, Vec, Global}
use Rattle.std.specs.Prelude.{replicate, if◌then◌else◌}
use Rattle.std.proofs.lemmas.List.{length-map, length-replicate, replicate_more}
use Rattle.kr_base.specs.declared.span.Bound.{Bound}
use Rattle.kr_base.specs.declared.span.Bound.TheVariants.{At}
use Rattle.kr_base.specs.declared.span.Span.{Span}
use Rattle.kr_base.specs.Bounds.{less}
use Rattle.kr_survey.specs.Joins.{joined, lists}
use Rattle.kr_survey.specs.Spans.{is_ahead, Adjoins}
use Rattle.kr_core.specs.Openings.{AscendBetween}
use Rattle.kr_core.specs.Cutting.{first_level, is_inside, cuts_from, cuts_for}
use Rattle.kr_core.proofs.Cuts.{cuts_inside}
use Rattle.kr_deque_hands.specs.Pieces.{AllAhead}
use Rattle.kr_deque_hands.specs.Building.{EachAhead}
use Rattle.kr_deque.specs.Cutting.{part, parts_at, alone, padded}

lists_more : (vs : List (Vec Span Global)) (v : Vec Span Global) → lists (vs ++ v ∷ []) ≡ lists vs ++ v.items ∷ []
lists_more [] v = refl
lists_more (w ∷ vs) v = ap (λ (l : List (List Span)). w.items ∷ l) (lists_more vs v)

-- a list more
pub lists_one : (old new : List (Vec Span Global)) (v : Vec Span Global) (items : List Span) → new ≡ old ++ v ∷ [] → v.items ≡ items → lists new ≡ lists old ++ items ∷ []
lists_one old new v items e i = ap (λ (l : List (Vec Span Global)). lists l) e ∙ (lists_more old v ∙ ap (λ (l : List Span). lists old ++ l ∷ []) i)

lists_length : (vs : List (Vec Span Global)) → length (lists vs) ≡ length vs
lists_length [] = refl
lists_length (v ∷ vs) = ap suc (lists_length vs)

-- ---- empty lists

-- these, and so many empty lists
abbrev pub filled : List (List Span) → ℕ → List (List Span)
filled ls n = ls ++ replicate n []

pub filled_more : (ls : List (List Span)) (n : ℕ) → filled ls n ++ [] ∷ [] ≡ filled ls (n + 1)
filled_more ls n = append_assoc ls (replicate n []) ([] ∷ []) ∙ ap (λ (l : List (List Span)). ls ++ l) (replicate_more n [])

pub filled_all : (old : List (Vec Span Global)) (n m : ℕ) → n ≡ m → filled (lists old) (n - length old) ≡ padded (lists old) m
filled_all old n m e = let a = lists_length old in let b : n - length old ≡ m - length (lists old) = omega (arith, a, e) in ap (λ (k : ℕ). filled (lists old) k) b

pub filled_step : (old mid new : List (Vec Span Global)) (v : Vec Span Global) → new ≡ mid ++ v ∷ [] → v.items ≡ [] → length old ≤ length mid → lists mid ≡ filled (lists old) (length mid - length old) → lists new ≡ filled (lists old) (length new - length old)
filled_step old mid new v e i le h =
    let none : List Span = [] in
    let n : length new ≡ length mid + 1 = ap (λ (l : List (Vec Span Global)). length l) e ∙ length-append mid (v ∷ []) in
    let k : length mid - length old + 1 ≡ length new - length old = omega (arith, n, le) in
    lists_one mid new v none e i ∙ (ap (λ (l : List (List Span)). l ++ none ∷ []) h ∙ (filled_more (lists old) (length mid - length old) ∙ ap (λ (m : ℕ). filled (lists old) m) k))

joined_filled : (ls : List (List Span)) (n : ℕ) → joined (filled ls n) ≡ joined ls
joined_filled [] zero = refl
joined_filled [] (suc n) = joined_filled [] n
joined_filled (l ∷ ls) n = ap (λ (r : List Span). l ++ r) (joined_filled ls n)

abbrev AllOfEach : List (List Span) → Type 0
AllOfEach [] = Unit {0}
AllOfEach (l ∷ ls) = AllAhead l × AllOfEach ls

filled_count : (ls : List (List Span)) (n : ℕ) → length ls ≤ n → length (padded ls n) ≡ n
filled_count ls n h =
    let none : List Span = [] in
    let a : length (padded ls n) ≡ length ls + length (replicate (n - length ls) none) = length-append ls (replicate (n - length ls) none) in
    let b : length (replicate (n - length ls) none) ≡ n - length ls = length-replicate (n - length ls) none in
    omega (arith, a, b, h)

each_filled : (ls : List (List Span)) (n : ℕ) → AllOfEach ls → AllOfEach (filled ls n)
each_filled [] zero h = tt
each_filled [] (suc n) h = (tt, each_filled [] n h)
each_filled (l ∷ ls) n h = (h.0, each_filled ls n h.1)

each_lists : (vs : List (Vec Span Global)) → AllOfEach (lists vs) → EachAhead vs
each_lists [] h = tt
each_lists (v ∷ vs) h = (h.0, each_lists vs h.1)

-- ---- parts

parts_count : (after : List ℕ) (cuts : List (List ℕ)) (upto : Bound) → length (parts_at after cuts upto) ≡ length cuts + 1
parts_count after [] upto = refl
parts_count after (cut ∷ cuts) upto = omega (arith, parts_count cut cuts upto)

parts_adjoin : (after : List ℕ) (cuts : List (List ℕ)) (upto : Bound) → Adjoins (At after) (joined (alone (parts_at after cuts upto))) upto
parts_adjoin after [] upto = (refl, refl)
parts_adjoin after (cut ∷ cuts) upto = (refl, parts_adjoin cut cuts upto)

parts_ahead : (after : List ℕ) (cuts : List (List ℕ)) (upto : Bound) → less (At after) upto ≡ true → AscendBetween (At after) cuts upto → AllOfEach (alone (parts_at after cuts upto))
parts_ahead after [] upto a h = ((a, tt), tt)
parts_ahead after (cut ∷ cuts) upto a h = ((h.0, tt), parts_ahead cut cuts upto h.1 h.2)

-- the front of a rest is cut off
pub cut_off : (ls all : List (List Span)) (after cut : List ℕ) (cuts : List (List ℕ)) (upto : Bound) → ls ++ alone (parts_at after (cut ∷ cuts) upto) ≡ all → (ls ++ (part after (At cut) ∷ []) ∷ []) ++ alone (parts_at cut cuts upto) ≡ all
cut_off ls all after cut cuts upto e = append_assoc ls ((part after (At cut) ∷ []) ∷ []) (alone (parts_at cut cuts upto)) ∙ e

cuts_few : (span : Span) (k n : ℕ) → length (cuts_from span k n) ≤ n
cuts_few span k zero = omega arith
cuts_few span k (suc n) =
    let m = cuts_few span (k + 1) n in
    elim (is_inside span (first_level k)) as (λ b. length (if b then first_level k ∷ cuts_from span (k + 1) n else cuts_from span (k + 1) n) ≤ suc n) [
      | true ↦ omega (arith, m)
      | false ↦ omega (arith, m)
    ]

-- ---- all lists

alone_count : (span : Span) (workers : ℕ) → 0 < workers → length (alone (parts_at span.after (cuts_for span workers) span.upto)) ≤ workers
alone_count span workers h =
    let a = length-map (parts_at span.after (cuts_for span workers) span.upto) (λ (s : Span). s ∷ []) in
    let b = parts_count span.after (cuts_for span workers) span.upto in
    let d = cuts_few span 1 (workers - 1) in
    omega (arith, a, b, d, h)

-- no more of them than workers
pub few_parts : (span : Span) (workers : ℕ) (spans : List (Vec Span Global)) → 0 < workers → lists spans ≡ alone (parts_at span.after (cuts_for span workers) span.upto) → length spans ≤ workers
few_parts span workers spans h e =
    let a = lists_length spans in
    let b = ap (λ (l : List (List Span)). length l) e in
    let d = alone_count span workers h in
    omega (arith, a, b, d)

module _ (span : Span) (workers : ℕ) (spans : List (Vec Span Global)) (some : 0 < workers) (e : lists spans ≡ padded (alone (parts_at span.after (cuts_for span workers) span.upto)) workers) where
  pub laid_count : length spans ≡ workers
  laid_count =
      let all : List (List Span) = alone (parts_at span.after (cuts_for span workers) span.upto) in
      sym (lists_length spans) ∙ (ap (λ (l : List (List Span)). length l) e ∙ filled_count all workers (alone_count span workers some))

  pub laid_parts : Adjoins (At span.after) (joined (lists spans)) span.upto
  laid_parts =
      let all : List (List Span) = alone (parts_at span.after (cuts_for span workers) span.upto) in
      subst (λ (l : List Span). Adjoins (At span.after) l span.upto) (sym (ap (λ (l : List (List Span)). joined l) e ∙ joined_filled all (workers - length all))) (parts_adjoin span.after (cuts_for span workers) span.upto)

  pub laid_ahead : is_ahead span ≡ true → EachAhead spans
  laid_ahead a =
      let all : List (List Span) = alone (parts_at span.after (cuts_for span workers) span.upto) in
      each_lists spans (subst AllOfEach (sym e) (each_filled all (workers - length all) (parts_ahead span.after (cuts_for span workers) span.upto a (cuts_inside span workers))))
