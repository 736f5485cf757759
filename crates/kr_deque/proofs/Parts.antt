-- Spans that cover each key of the asked one exactly once have no break.
use Rattle.std.proofs.Common.{◌≡◌, ◌⊎◌, inl, inr, ℕ, ◌+◌, ◌<◌, ◌≤◌, List, Bool, true, false, ◌&&◌, ◌==◌, not, refl, sym, ap, ◌∙◌, arith}
use Rattle.std.specs.Prelude.{◌||◌, nat_lt}
use Rattle.std.proofs.lemmas.Bool.Decides.{nat_tests}
use Rattle.std.proofs.lemmas.Bool.{and_parts, lt-ltb, not-true, le-ltb, ltb-true}
use Rattle.kr_base.specs.declared.span.Bound.{Bound}
use Rattle.kr_base.specs.declared.span.Bound.TheVariants.{At, End}
use Rattle.kr_base.specs.declared.span.Span.{Span}
use Rattle.kr_base.specs.Bounds.{less, is_same}
use Rattle.kr_base.proofs.Bounds.{irreflexive, asymmetric, end_is_last}
use Rattle.kr_survey.specs.Spans.{one, how_many, is_ahead, has_key, AreParts}
use Rattle.kr_deque.specs.Breaks.{begins_at, ends_at, goes_over, is_gap, is_wrong, is_double}
use Rattle.kr_deque_hands.specs.Pieces.{AllAhead}
use Rattle.kr_deque.specs.Joined.{PartsLaw}
use Rattle.kr_deque.proofs.Counts.{next, step_one, step_all, over_next, over_all, IsIn, counted_one, counted_none, ahead_in, begins_there, has_next}

pub none-by : (b : Bool) → (b ≡ true → ⊥) → b ≡ false
none-by true f = absurd (f refl)
none-by false f = refl

pub or-case : (a b : Bool) → (a || b) ≡ true → (a ≡ true) ⊎ (b ≡ true)
or-case true b h = inl refl
or-case false b h = inr h

pub neither : (a b : Bool) → a ≡ false → b ≡ false → (a || b) ≡ false
neither a b p q = rw (p, q) refl

one-of : (b : Bool) → 0 < one b → b ≡ true
one-of true h = refl
one-of false h = absurd (omega arith)

pub one-true : (b : Bool) → b ≡ true → one b ≡ 1
one-true b h = ap one h

pub one-false : (b : Bool) → b ≡ false → one b ≡ 0
one-false b h = ap one h

pub one-most : (b : Bool) → one b ≤ 1
one-most true = omega arith
one-most false = omega arith

pub zero-true : (n : ℕ) → (n == 0) ≡ true → n ≡ 0
zero-true n h = grind (arith, nat_tests)

pub zero-is : (n : ℕ) → n ≡ 0 → (n == 0) ≡ true
zero-is n h = grind (arith, nat_tests)

-- what a gap says
pub record GapAt (asked : Span) (spans : List Span) (c : List ℕ) : Type 0 where
  pub below : less (At c) asked.upto ≡ true
  pub begun : (is_same (At asked.after) (At c) ≡ true) ⊎ (0 < how_many (ends_at c) spans)
  pub none : how_many (begins_at c) spans ≡ 0

pub gap_says : (asked : Span) (spans : List Span) (c : List ℕ) → is_gap asked spans c ≡ true → GapAt asked spans c
gap_says asked spans c h =
    let a = less (At c) asked.upto in
    let b = is_same (At asked.after) (At c) in
    let d = nat_lt 0 (how_many (ends_at c) spans) in
    let e = how_many (begins_at c) spans == 0 in
    let rest = (and_parts a ((b || d) && e) h).1 in
    record {
      below = (and_parts a ((b || d) && e) h).0;
      begun = elim (or-case b d (and_parts (b || d) e rest).0) [ inl x ↦ inl x | inr y ↦ inr (ltb-true 0 (how_many (ends_at c) spans) y) ];
      none = zero-true (how_many (begins_at c) spans) (and_parts (b || d) e rest).1;
    }

pub gap_is : (asked : Span) (spans : List Span) (c : List ℕ) → GapAt asked spans c → is_gap asked spans c ≡ true
gap_is asked spans c g =
    let b = is_same (At asked.after) (At c) in
    let d = nat_lt 0 (how_many (ends_at c) spans) in
    let begun : (b || d) ≡ true = elim g.begun [ inl x ↦ ap (λ (t : Bool). t || d) x | inr y ↦ either b d (lt-ltb 0 (how_many (ends_at c) spans) y) ] in
    rw (g.below, begun, zero-is (how_many (begins_at c) spans) g.none) refl
  where
    either : (b d : Bool) → d ≡ true → (b || d) ≡ true
    either true d h = refl
    either false d h = h

module _ (asked : Span) (spans : List Span) (ahead : is_ahead asked ≡ true) (all : AllAhead spans) (parts : AreParts spans asked) (c : List ℕ) where
  -- as many begin at a cut as end there, but for the asked one's start and end
  balance : how_many (begins_at c) spans + one (ends_at c asked) ≡ how_many (ends_at c) spans + one (begins_at c asked)
  balance = omega (arith, step_all c spans all, step_one c asked ahead, parts c, parts (next c))

  no_gap : is_gap asked spans c ≡ false
  no_gap = none-by (is_gap asked spans c) (λ h.
      let g = gap_says asked spans c h in
      let below = g.below in
      let ends : one (ends_at c asked) ≡ 0 = one-false (ends_at c asked) (rw below (right_false (not (less asked.upto (At c))))) in
      elim g.begun [
        | inl x ↦ let b : one (begins_at c asked) ≡ 1 = one-true (begins_at c asked) x in omega (arith, balance, ends, b, g.none)
        | inr y ↦ omega (arith, balance, ends, y, g.none)
      ])
    where
      right_false : (b : Bool) → (b && false) ≡ false
      right_false true = refl
      right_false false = refl

  -- what has a key is inside
  inside : (s : Span) (key : List ℕ) → IsIn s spans → has_key key s ≡ true → has_key key asked ≡ true
  inside s key i h = one-of (has_key key asked) (omega (arith, counted_one (has_key key) s spans i h, parts key))

  fits : (s : Span) → IsIn s spans → begins_at c s ≡ true → (less (At c) (At asked.after) || (less asked.upto s.upto || nat_lt 1 (how_many (goes_over c) spans))) ≡ false
  fits s i b =
      let own = ahead_in s spans all i in
      let there : goes_over c asked ≡ true = over_next c asked ∙ inside s (next c) i (has_next c s b own) in
      let low : less (At c) (At asked.after) ≡ false = not-true (less (At c) (At asked.after)) (and_parts (not (less (At c) (At asked.after))) (less (At c) asked.upto) there).0 in
      let up : less (At c) asked.upto ≡ true = (and_parts (not (less (At c) (At asked.after))) (less (At c) asked.upto) there).1 in
      let most : nat_lt 1 (how_many (goes_over c) spans) ≡ false = le-ltb 1 (how_many (goes_over c) spans) (omega (arith, over_all c spans, parts (next c), one-most (has_key (next c) asked))) in
      neither (less (At c) (At asked.after)) (less asked.upto s.upto || nat_lt 1 (how_many (goes_over c) spans)) low
      (neither (less asked.upto s.upto) (nat_lt 1 (how_many (goes_over c) spans)) (ends asked.upto refl up) most)
    where
      ends : (u : Bound) → asked.upto ≡ u → less (At c) u ≡ true → less u s.upto ≡ false
      ends End e up = end_is_last s.upto
      ends (At u) e up = none-by (less (At u) s.upto) (λ past.
          let e' : At s.after ≡ At c = begins_there c s b in
          let low : less (At u) (At s.after) ≡ false = ap (λ (x : Bound). less (At u) x) e' ∙ asymmetric (At c) (At u) up in
          let has : has_key (next u) s ≡ true = sym (over_next u s) ∙ rw (low, past) refl in
          let there : goes_over u asked ≡ true = over_next u asked ∙ inside s (next u) i has in
          let last : less (At u) asked.upto ≡ true = (and_parts (not (less (At u) (At asked.after))) (less (At u) asked.upto) there).1 in
          cc (sym last ∙ (ap (λ (x : Bound). less (At u) x) e ∙ irreflexive (At u))))

  no_double : is_double asked spans c ≡ false
  no_double = le-ltb 0 (how_many (is_wrong asked spans c) spans) (omega (
    arith,
    counted_none (is_wrong asked spans c) spans (λ s i. none-by (is_wrong asked spans c s) (λ h.
        let rest = less (At c) (At asked.after) || (less asked.upto s.upto || nat_lt 1 (how_many (goes_over c) spans)) in
        cc (sym (and_parts (begins_at c s) rest h).1 ∙ fits s i (and_parts (begins_at c s) rest h).0))),
  ))

pub parts_law : PartsLaw
parts_law asked spans ahead all parts c = neither (is_gap asked spans c) (is_double asked spans c) (no_gap asked spans ahead all parts c) (no_double asked spans ahead all parts c)
