-- A new board.
use Rattle.std.proofs.Common.{◌≡◌, ℕ, zero, suc, ◌+◌, List, [], ◌∷◌, length, drop, Option, Some, None, refl, sym, ap, ◌∙◌, subst, arith, add-one, Vec, Global, vec_len, cond}
use Rattle.std.specs.Prelude.{replicate}
use Rattle.std.proofs.lemmas.List.Sums.{sum_by-cons}
use Rattle.kr_base.specs.declared.span.Bound.{Bound}
use Rattle.kr_base.specs.declared.span.Bound.TheVariants.{At}
use Rattle.kr_base.specs.declared.span.Span.{Span}
use Rattle.kr_base.specs.declared.entry.Entry.{Entry}
use Rattle.kr_base.specs.Entries.{within}
use Rattle.kr_base.proofs.Bounds.{irreflexive}
use Rattle.kr_survey.specs.Joins.{joined}
use Rattle.kr_survey.specs.Scans.{rows_of}
use Rattle.kr_core.specs.declared.segment.Segment.{Segment}
use Rattle.kr_core.specs.declared.event.Event.{Event}
use Rattle.kr_core.specs.States.{State, is_owned}
use Rattle.kr_core.specs.Openings.{AreInside, untouched, segments_at, end_of, opening}
use Rattle.kr_core.specs.Kept.{IsKept}
use Rattle.kr_core.specs.Beside.{Others, Measures}
use Rattle.kr_core.proofs.Spent.{within-none}
use Rattle.kr_core.proofs.Ends.{kept_law}
use Rattle.kr_core.proofs.Rowing.{rows_in}
use Rattle.kr_board.specs.Held.{Held}
use Rattle.kr_board.specs.Boards.{IsBoardOf}
use Rattle.kr_board.specs.Windows.{IsInWindow}
use Rattle.kr_board.specs.Rooms.{owned_count, IsSound}
use Rattle.kr_board.proofs.Sound.{join, sizes}

open-length : (k : ℕ) (a e : Bound) (cuts : List (List ℕ)) → length (segments_at k a cuts e) ≡ suc (length cuts)
open-length k a e [] = refl
open-length k a e (c ∷ cs) = let h = open-length (k + 1) (At c) e cs in omega (arith, h)

open-sizes : (R : Type 0) (k : ℕ) (a e : Bound) (cuts : List (List ℕ)) → rows_in (segments_at k a cuts e) ≡ sizes {R = R} (replicate (suc (length cuts)) [])
open-sizes R k a e [] = refl
open-sizes R k a e (c ∷ cs) = ap (λ (ms : List ℕ). 0 ∷ ms) (open-sizes R (k + 1) (At c) e cs)

open-unowned : (k : ℕ) (a e : Bound) (cuts : List (List ℕ)) → owned_count (segments_at k a cuts e) ≡ 0
open-unowned k a e [] = refl
open-unowned k a e (c ∷ cs) =
    let h = open-unowned (k + 1) (At c) e cs in
    let s = sum_by-cons (λ (g : Segment). cond (is_owned g.owner) 1 0) (untouched k a (At c)) (segments_at (k + 1) (At c) cs e) in
    omega (arith, h, s)

no-rows : (R : Type 0) (n : ℕ) → length (joined {A = R} (replicate n [])) ≡ 0
no-rows R zero = refl
no-rows R (suc n) = no-rows R n

pub new_sound : {R : Type 0} (span : Span) (cuts : List (List ℕ)) (core : State) (kept : List (List R)) (log : Vec Event Global) → AreInside cuts span → core ≡ opening span cuts → kept ≡ replicate (length core.segments) [] → vec_len log ≡ 0 → IsSound core kept log
new_sound {R} span cuts core kept log inside is made none =
    let segs : core.segments ≡ segments_at 0 (At span.after) cuts (end_of span) = ap (λ (s : State). s.segments) is in
    let count : length core.segments ≡ suc (length cuts) = ap (λ (ss : List Segment). length ss) segs ∙ open-length 0 (At span.after) (end_of span) cuts in
    let all : kept ≡ replicate (suc (length cuts)) [] = made ∙ ap (λ (n : ℕ). replicate n []) count in
    let owned : owned_count core.segments ≡ 0 = ap (λ (ss : List Segment). owned_count ss) segs ∙ open-unowned 0 (At span.after) (end_of span) cuts in
    let empty : length (joined kept) ≡ 0 = ap (λ (ks : List (List R)). length (joined ks)) all ∙ no-rows R (suc (length cuts)) in
    record {
      core_kept = subst (λ (s : State). IsKept s) (sym is) (kept_law span cuts [] (opening span cuts) inside refl);
      counted = ap (λ (ss : List Segment). rows_in ss) segs ∙ (open-sizes R 0 (At span.after) (end_of span) cuts ∙ ap (λ (ks : List (List R)). sizes ks) (sym all));
      few = omega (arith, empty);
      room = omega (arith, owned, none);
    }

pub new_kept : {R : Type 0} (span : Span) (cuts : List (List ℕ)) (core : State) (kept : List (List R)) → core ≡ opening span cuts → kept ≡ replicate (length core.segments) [] → kept ≡ replicate (length cuts + 1) []
new_kept {R} span cuts core kept is made =
    let count : length core.segments ≡ suc (length cuts) = ap (λ (s : State). length s.segments) is ∙ open-length 0 (At span.after) (end_of span) cuts in
    made ∙ (ap (λ (n : ℕ). replicate n []) count ∙ ap (λ (n : ℕ). replicate n []) (sym (add-one (length cuts))))

-- no rows are few
none-joined : {R : Type 0} (n : ℕ) → joined (replicate {A = List R} n []) ≡ []
none-joined zero = refl
none-joined (suc n) = none-joined n

none-behind : {R : Type 0} (n : ℕ) → joined (drop 1 (replicate {A = List R} n [])) ≡ []
none-behind zero = refl
none-behind (suc n) = none-joined n

pub new_in_window : {R : Type 0} (window : Option ℕ) (kept : List (List R)) (n : ℕ) → kept ≡ replicate n [] → IsInWindow window kept
new_in_window None kept n made = tt
new_in_window {R} (Some w) kept n made =
    let a : length (joined kept) ≡ 0 = ap (λ (ks : List (List R)). length (joined ks)) made ∙ ap (λ (l : List R). length l) (none-joined n) in
    let b : length (joined (drop 1 kept)) ≡ 0 = ap (λ (ks : List (List R)). length (joined (drop 1 ks))) made ∙ ap (λ (l : List R). length l) (none-behind n) in
    (omega (arith, b), omega (arith, a))

nothing : {R : Type 0} (all : List (Entry R)) (a : Bound) → [] ≡ rows_of (within a a all)
nothing {R} all a = sym (ap (λ (es : List (Entry R)). rows_of es) (within-none a a all (irreflexive a)))

others-open : {R : Type 0} (all : List (Entry R)) (k : ℕ) (a e : Bound) (cuts : List (List ℕ)) → Others rows_of all (segments_at k a cuts e) (replicate (suc (length cuts)) [])
others-open all k a e [] = (nothing all a, tt)
others-open all k a e (c ∷ cs) = (nothing all a, others-open all (k + 1) (At c) e cs)

measures-open : {R : Type 0} (all : List (Entry R)) (k : ℕ) (a e : Bound) (cuts : List (List ℕ)) → Measures join rows_of all a [] (segments_at k a cuts e) (replicate (suc (length cuts)) [])
measures-open all k a e [] = (nothing all a, tt)
measures-open all k a e (c ∷ cs) = (nothing all a, others-open all (k + 1) (At c) e cs)

pub new_board : {R : Type 0} (all : List (Entry R)) (span : Span) (cuts : List (List ℕ)) (b : Held R) → b.core ≡ opening span cuts → b.kept ≡ replicate (length cuts + 1) [] → b.log ≡ [] → IsBoardOf all span cuts b
new_board {R} all span cuts b core kept log =
    let one : replicate (length cuts + 1) [] ≡ replicate {A = List R} (suc (length cuts)) [] = ap (λ (n : ℕ). replicate n []) (add-one (length cuts)) in
    let start : Held R = record { core = opening span cuts; kept = replicate (suc (length cuts)) []; log = []; window = b.window } in
    let there : IsBoardOf all span cuts start = record { replays = refl; honest = refl; rows = record { before = []; count = refl; rows = measures-open all 0 (At span.after) (end_of span) cuts } } in
    let same : start ≡ b = λ i. record { core = sym core i; kept = sym (kept ∙ one) i; log = sym log i; window = b.window } in
    subst (λ (x : Held R). IsBoardOf all span cuts x) same there
