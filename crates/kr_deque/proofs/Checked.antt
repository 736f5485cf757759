-- Spans in order, checked one after another: where the first break is.
use Rattle.std.proofs.Common.{◌≡◌, ◌⊎◌, inl, inr, ℕ, ◌+◌, ◌<◌, ◌≤◌, List, [], ◌∷◌, ◌++◌, Bool, true, false, ◌&&◌, ◌==◌, not, refl, sym, ap, ◌∙◌, subst, arith}
use Rattle.std.specs.Prelude.{◌||◌, nat_lt, IsPermutation}
use Rattle.std.proofs.lemmas.List.{append-nil}
use Rattle.std.proofs.lemmas.Bool.{and_parts, lt-ltb, le-ltb}
use Rattle.kr_base.specs.declared.span.Bound.{Bound}
use Rattle.kr_base.specs.declared.span.Bound.TheVariants.{At}
use Rattle.kr_base.specs.declared.span.Span.{Span}
use Rattle.kr_base.specs.Bounds.{less, is_same}
use Rattle.kr_base.specs.Entries.{is_within}
use Rattle.kr_base.proofs.Bounds.{irreflexive, transitive, connected, not_above, not_above_less, asymmetric}
use Rattle.kr_deque.specs.declared.joining.JoinRefusal.{JoinRefusal}
use Rattle.kr_deque.specs.declared.joining.JoinRefusal.TheVariants.{Gap, Double, NoMemory}
use Rattle.kr_survey.specs.Spans.{one, how_many, is_ahead, covering, Adjoins}
use Rattle.kr_deque.specs.Breaks.{begins_at, ends_at, goes_over, is_gap, is_wrong, is_double, is_break, Refuses, NoBreak}
use Rattle.kr_deque_hands.specs.Pieces.{AllAhead}
use Rattle.kr_deque_hands.proofs.Covers.{Stand, below, same, above, stand, counted_append}
use Rattle.kr_deque.proofs.Counts.{next, less_next, step_all, over_all, IsIn, counted_one, counted_none, counted_permutation, ahead_in, begins_there}
use Rattle.kr_deque.proofs.Parts.{none-by, neither, one-most, gap_says, gap_is}
use Rattle.kr_deque.proofs.Chains.{covers, lies, last_ends, in_two}

-- what is below one that isn't above another is below that
pub below_later : (a b c : Bound) → less a b ≡ true → less c b ≡ false → less a c ≡ true
below_later a b c p q =
    elim (less a c) as (λ t. less a c ≡ t → t ≡ true) [
      | true ↦ λ ac. refl
      | false ↦ λ ac. absurd (cc (sym (not_above_less c a b ac p) ∙ q))
    ] refl

off_first : (a b : Bool) → a ≡ true → (not a && b) ≡ false
off_first a b h = rw h refl

off_second : (a b : Bool) → b ≡ true → (a && not b) ≡ false
off_second true b h = rw h refl
off_second false b h = refl

-- what begins after a cut neither begins nor ends there, and doesn't go over it
begins_later : (d : List ℕ) (z : Span) → less (At d) (At z.after) ≡ true → begins_at d z ≡ false
begins_later d z h = off_second (not (less (At z.after) (At d))) (less (At d) (At z.after)) h

ends_later : (d : List ℕ) (z : Span) → is_ahead z ≡ true → less (At d) (At z.after) ≡ true → ends_at d z ≡ false
ends_later d z a h = off_second (not (less z.upto (At d))) (less (At d) z.upto) (transitive (At d) (At z.after) z.upto h a)

over_later : (d : List ℕ) (z : Span) → less (At d) (At z.after) ≡ true → goes_over d z ≡ false
over_later d z h = off_first (less (At d) (At z.after)) (less (At d) z.upto) h

module _ (asked : Span) (xs ys : List Span) (at : Bound) (ahead : AllAhead xs) (later : AllAhead ys) (k : Adjoins (At asked.after) xs at) (low : less asked.upto at ≡ false) (d : List ℕ)
    (far : (z : Span) → IsIn z ys → less (At d) (At z.after) ≡ true) where
  here : covering d xs ≡ one (is_within (At asked.after) at d)
  here = covers (At asked.after) at xs d ahead k

  there : covering (next d) xs ≡ one (is_within (At asked.after) at (next d))
  there = covers (At asked.after) at xs (next d) ahead k

  no_begin : how_many (begins_at d) ys ≡ 0
  no_begin = counted_none (begins_at d) ys (λ z i. begins_later d z (far z i))

  no_end : how_many (ends_at d) ys ≡ 0
  no_end = counted_none (ends_at d) ys (λ z i. ends_later d z (ahead_in z ys later i) (far z i))

  no_over : how_many (goes_over d) ys ≡ 0
  no_over = counted_none (goes_over d) ys (λ z i. over_later d z (far z i))

  few : how_many (goes_over d) (xs ++ ys) ≤ 1
  few = omega (arith, counted_append (goes_over d) xs ys, no_over, over_all d xs, there, one-most (is_within (At asked.after) at (next d)))

  clean_gap : less (At d) at ≡ true → is_gap asked (xs ++ ys) d ≡ false
  clean_gap up = none-by (is_gap asked (xs ++ ys) d) (λ h.
      let g = gap_says asked (xs ++ ys) d h in
      let b = counted_append (begins_at d) xs ys in
      let e = counted_append (ends_at d) xs ys in
      let s = step_all d xs ahead in
      let back : less at (At d) ≡ false = asymmetric (At d) at up in
      go (stand (At asked.after) (At d)) g.begun (omega (arith, b, g.none)) e s up back)
    where
      go : Stand (At asked.after) (At d) → (is_same (At asked.after) (At d) ≡ true) ⊎ (0 < how_many (ends_at d) (xs ++ ys)) → how_many (begins_at d) xs ≡ 0
          → how_many (ends_at d) (xs ++ ys) ≡ how_many (ends_at d) xs + how_many (ends_at d) ys
          → covering d xs + how_many (begins_at d) xs ≡ covering (next d) xs + how_many (ends_at d) xs → less (At d) at ≡ true → less at (At d) ≡ false → ⊥
      go (below p q) begun none e s up back =
          let a : one (is_within (At asked.after) at d) ≡ 1 = rw (p, back) refl in
          let b : one (is_within (At asked.after) at (next d)) ≡ 1 = rw (less_next (At asked.after) d, less_next at d, q, up) refl in
          elim begun [
            | inl x ↦ cc (sym x ∙ off_first (less (At asked.after) (At d)) (not (less (At d) (At asked.after))) p)
            | inr y ↦ omega (arith, here, there, a, b, none, e, s, no_end, y)
          ]
      go (same p q) begun none e s up back =
          let a : one (is_within (At asked.after) at d) ≡ 0 = rw p refl in
          let b : one (is_within (At asked.after) at (next d)) ≡ 1 = rw (less_next (At asked.after) d, less_next at d, q, up) refl in
          omega (arith, here, there, a, b, none, s)
      go (above p q) begun none e s up back =
          let a : one (is_within (At asked.after) at d) ≡ 0 = rw p refl in
          let b : one (is_within (At asked.after) at (next d)) ≡ 0 = rw (less_next (At asked.after) d, q) refl in
          elim begun [
            | inl x ↦ cc (sym x ∙ off_second (not (less (At asked.after) (At d))) (less (At d) (At asked.after)) q)
            | inr y ↦ omega (arith, here, there, a, b, none, e, s, no_end, y)
          ]

  past_gap : less (At d) asked.upto ≡ false → is_gap asked (xs ++ ys) d ≡ false
  past_gap h = rw h refl

  fits : (s : Span) → IsIn s xs → begins_at d s ≡ true → (less (At d) (At asked.after) || (less asked.upto s.upto || nat_lt 1 (how_many (goes_over d) (xs ++ ys)))) ≡ false
  fits s i b =
      let l = lies (At asked.after) at xs s ahead k i in
      let first : less (At d) (At asked.after) ≡ false = ap (λ (x : Bound). less x (At asked.after)) (sym (begins_there d s b)) ∙ l.0 in
      neither (less (At d) (At asked.after)) (less asked.upto s.upto || nat_lt 1 (how_many (goes_over d) (xs ++ ys))) first
      (neither (less asked.upto s.upto) (nat_lt 1 (how_many (goes_over d) (xs ++ ys))) (not_above s.upto at asked.upto l.1 low) (le-ltb 1 (how_many (goes_over d) (xs ++ ys)) few))

  right_one : (s : Span) → IsIn s xs ⊎ IsIn s ys → is_wrong asked (xs ++ ys) d s ≡ false
  right_one s (inl i) = none-by (is_wrong asked (xs ++ ys) d s) (λ h.
      let rest = less (At d) (At asked.after) || (less asked.upto s.upto || nat_lt 1 (how_many (goes_over d) (xs ++ ys))) in
      cc (sym (and_parts (begins_at d s) rest h).1 ∙ fits s i (and_parts (begins_at d s) rest h).0))
  right_one s (inr i) = rw (begins_later d s (far s i)) refl

  clean_double : is_double asked (xs ++ ys) d ≡ false
  clean_double = le-ltb 0 (how_many (is_wrong asked (xs ++ ys) d) (xs ++ ys)) (omega (arith, counted_none (is_wrong asked (xs ++ ys) d) (xs ++ ys) (λ s i. right_one s (in_two xs ys s i))))

  -- no break before what is left
  clean : (less (At d) at ≡ true) ⊎ (less (At d) asked.upto ≡ false) → is_break asked (xs ++ ys) d ≡ false
  clean (inl h) = neither (is_gap asked (xs ++ ys) d) (is_double asked (xs ++ ys) d) (clean_gap h) clean_double
  clean (inr h) = neither (is_gap asked (xs ++ ys) d) (is_double asked (xs ++ ys) d) (past_gap h) clean_double

-- a gap where the next span begins later, or there is none
pub gap_here : (asked : Span) (xs ys : List Span) (at : Bound) (c : List ℕ) → AllAhead xs → AllAhead ys → Adjoins (At asked.after) xs at → at ≡ At c → less at asked.upto ≡ true
    → ((z : Span) → IsIn z ys → less at (At z.after) ≡ true) → Refuses asked (xs ++ ys) (Gap c)
gap_here asked xs ys at c ahead later k e up far =
    let low : less asked.upto at ≡ false = asymmetric at asked.upto up in
    let k' : Adjoins (At asked.after) xs (At c) = subst (λ (b : Bound). Adjoins (At asked.after) xs b) e k in
    let far' : (z : Span) → IsIn z ys → less (At c) (At z.after) ≡ true = λ z i. ap (λ (b : Bound). less b (At z.after)) (sym e) ∙ far z i in
    let earlier : (s : Span) → IsIn s xs → begins_at c s ≡ false = λ s i.
    off_first (less (At s.after) (At c)) (not (less (At c) (At s.after))) (below_later (At s.after) s.upto (At c) (ahead_in s xs ahead i) (lies (At asked.after) (At c) xs s ahead k' i).1) in
    let none : how_many (begins_at c) (xs ++ ys) ≡ 0 =
    omega (arith, counted_append (begins_at c) xs ys, counted_none (begins_at c) xs earlier, counted_none (begins_at c) ys (λ z i. begins_later c z (far' z i))) in
    let begun : (is_same (At asked.after) (At c) ≡ true) ⊎ (0 < how_many (ends_at c) (xs ++ ys)) = elim (last_ends (At asked.after) c xs k') [
      | inl s ↦ inl (ap (λ (b : Bound). is_same b (At c)) s ∙ rw (irreflexive (At c)) refl)
      | inr m ↦ inr (omega (arith, m, counted_append (ends_at c) xs ys))
    ] in (
      gap_is asked (xs ++ ys) c (record { below = ap (λ (b : Bound). less b asked.upto) (sym e) ∙ up; begun = begun; none = none }),
      λ d before. clean asked xs ys at ahead later k low d (λ z i. transitive (At d) (At c) (At z.after) before (far' z i)) (inl (ap (λ (b : Bound). less (At d) b) e ∙ before)),
    )

in_middle : (xs ys : List Span) (y : Span) → IsIn y (xs ++ y ∷ ys)
in_middle [] ys y = inl refl
in_middle (x ∷ xs) ys y = inr (in_middle xs ys y)

either : (a b : Bool) → b ≡ true → (a || b) ≡ true
either true b h = refl
either false b h = h

-- a double where the next span begins before what came, or ends past the asked end
pub double_here : (asked : Span) (xs : List Span) (y : Span) (ys : List Span) (at : Bound) → AllAhead xs → AllAhead (y ∷ ys) → Adjoins (At asked.after) xs at → less asked.upto at ≡ false
    → ((z : Span) → IsIn z (y ∷ ys) → less (At z.after) (At y.after) ≡ false)
    → (less (At y.after) at ≡ true) ⊎ ((less asked.upto y.upto ≡ true) × ((at ≡ At y.after) ⊎ (less at asked.upto ≡ false)))
    → Refuses asked (xs ++ y ∷ ys) (Double y.after)
double_here asked xs y ys at ahead later k low order why = (
  lt-ltb 0 (how_many (is_wrong asked all c) all) (counted_one (is_wrong asked all c) y all (in_middle xs ys y) (rw begins (wrong why))),
  λ d before. clean asked xs (y ∷ ys) at ahead later k low d (λ z i. below_later (At d) (At c) (At z.after) before (order z i)) (reach d before why),
)
  where
    c : List ℕ
    c = y.after

    all : List Span
    all = xs ++ y ∷ ys

    begins : begins_at c y ≡ true
    begins = rw (irreflexive (At c)) refl

    over : less (At c) at ≡ true → less (At c) (At asked.after) ≡ false → nat_lt 1 (how_many (goes_over c) all) ≡ true
    over up p =
        let own : one (goes_over c y) ≡ 1 = rw (irreflexive (At c), later.0) refl in
        let a : one (is_within (At asked.after) at (next c)) ≡ 1 = rw (less_next (At asked.after) c, less_next at c, p, up) refl in
        let n = covers (At asked.after) at xs (next c) ahead k in
        lt-ltb 1 (how_many (goes_over c) all) (omega (arith, counted_append (goes_over c) xs (y ∷ ys), own, a, n, over_all c xs))

    wrong : (less (At c) at ≡ true) ⊎ ((less asked.upto y.upto ≡ true) × ((at ≡ At c) ⊎ (less at asked.upto ≡ false)))
        → (less (At c) (At asked.after) || (less asked.upto y.upto || nat_lt 1 (how_many (goes_over c) all))) ≡ true
    wrong (inl up) =
        elim (less (At c) (At asked.after)) as (λ t. less (At c) (At asked.after) ≡ t → (t || (less asked.upto y.upto || nat_lt 1 (how_many (goes_over c) all))) ≡ true) [
          | true ↦ λ p. refl
          | false ↦ λ p. either (less asked.upto y.upto) (nat_lt 1 (how_many (goes_over c) all)) (over up p)
        ] refl
    wrong (inr h) = either (less (At c) (At asked.after)) (less asked.upto y.upto || nat_lt 1 (how_many (goes_over c) all)) (ap (λ (t : Bool). t || nat_lt 1 (how_many (goes_over c) all)) h.0)

    reach : (d : List ℕ) → less (At d) (At c) ≡ true → (less (At c) at ≡ true) ⊎ ((less asked.upto y.upto ≡ true) × ((at ≡ At c) ⊎ (less at asked.upto ≡ false)))
        → (less (At d) at ≡ true) ⊎ (less (At d) asked.upto ≡ false)
    reach d before (inl up) = inl (transitive (At d) (At c) at before up)
    reach d before (inr h) = elim h.1 [
      | inl e ↦ inl (ap (λ (b : Bound). less (At d) b) e ∙ before)
      | inr n ↦ elim (less (At d) at) as (λ t. less (At d) at ≡ t → (less (At d) at ≡ true) ⊎ (less (At d) asked.upto ≡ false)) [
        | true ↦ λ p. inl p
        | false ↦ λ p. inr (ap (λ (b : Bound). less (At d) b) (sym (connected at asked.upto n low)) ∙ p)
      ] refl
    ]

-- spans that adjoin from the asked start to the asked end have no break
pub whole : (asked : Span) (xs : List Span) → AllAhead xs → Adjoins (At asked.after) xs asked.upto → NoBreak asked xs
whole asked xs ahead k d =
    let c = clean asked xs [] asked.upto ahead tt k (irreflexive asked.upto) d (λ z i. absurd i) in
    let at : is_break asked (xs ++ []) d ≡ false = elim (less (At d) asked.upto) as (λ t. less (At d) asked.upto ≡ t → is_break asked (xs ++ []) d ≡ false) [ true ↦ λ p. c (inl p) | false ↦ λ p. c (inr p) ] refl in
    subst (λ (l : List Span). is_break asked l d ≡ false) (append-nil xs) at

pub gap_last : (asked : Span) (xs : List Span) (at : Bound) (c : List ℕ) → AllAhead xs → Adjoins (At asked.after) xs at → at ≡ At c → less at asked.upto ≡ true → Refuses asked xs (Gap c)
gap_last asked xs at c ahead k e up = subst (λ (l : List Span). Refuses asked l (Gap c)) (append-nil xs) (gap_here asked xs [] at c ahead tt k e up (λ z i. absurd i))

-- breaks don't depend on the order of the spans
abbrev wrong_over : Span → List ℕ → ℕ → Span → Bool
wrong_over asked c n s = begins_at c s && (less (At c) (At asked.after) || (less asked.upto s.upto || nat_lt 1 n))

double_moved : (asked : Span) (ss ts : List Span) (c : List ℕ) → IsPermutation ss ts → is_double asked ts c ≡ is_double asked ss c
double_moved asked ss ts c h =
    ap (λ (n : ℕ). nat_lt 0 (how_many (wrong_over asked c n) ts)) (counted_permutation (goes_over c) ss ts h)
    ∙ ap (λ (n : ℕ). nat_lt 0 n) (counted_permutation (wrong_over asked c (how_many (goes_over c) ss)) ss ts h)

gap_moved : (asked : Span) (ss ts : List Span) (c : List ℕ) → IsPermutation ss ts → is_gap asked ts c ≡ is_gap asked ss c
gap_moved asked ss ts c h =
    ap (λ (n : ℕ). less (At c) asked.upto && ((is_same (At asked.after) (At c) || nat_lt 0 n) && (how_many (begins_at c) ts == 0))) (counted_permutation (ends_at c) ss ts h)
    ∙ ap (λ (n : ℕ). less (At c) asked.upto && ((is_same (At asked.after) (At c) || nat_lt 0 (how_many (ends_at c) ss)) && (n == 0))) (counted_permutation (begins_at c) ss ts h)

none_moved : (asked : Span) (ss ts : List Span) (c : List ℕ) → IsPermutation ss ts → is_break asked ts c ≡ false → is_break asked ss c ≡ false
none_moved asked ss ts c h n = ap (λ (t : Bool). t || is_double asked ss c) (sym (gap_moved asked ss ts c h)) ∙ (ap (λ (t : Bool). is_gap asked ts c || t) (sym (double_moved asked ss ts c h)) ∙ n)

pub refuses_moved : (asked : Span) (ss ts : List Span) (r : JoinRefusal) → IsPermutation ss ts → Refuses asked ts r → Refuses asked ss r
refuses_moved asked ss ts (Gap c) h r = (sym (gap_moved asked ss ts c h) ∙ r.0, λ d before. none_moved asked ss ts d h (r.1 d before))
refuses_moved asked ss ts (Double c) h r = (sym (double_moved asked ss ts c h) ∙ r.0, λ d before. none_moved asked ss ts d h (r.1 d before))
refuses_moved asked ss ts (NoMemory why) h r = tt

pub no_break_moved : (asked : Span) (ss ts : List Span) → IsPermutation ss ts → NoBreak asked ts → NoBreak asked ss
no_break_moved asked ss ts h n c = none_moved asked ss ts c h (n c)
