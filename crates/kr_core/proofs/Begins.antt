-- What holds of the opening state of a span and cuts inside it.
use Rattle.std.proofs.Common.{◌≡◌, ℕ, ◌+◌, ◌<◌, List, [], ◌∷◌, Bool, true, false, length, refl, sym, ap, ◌∙◌, subst, arith, cond, Option, Some, None}
use Rattle.kr_base.specs.declared.span.Bound.{Bound}
use Rattle.kr_base.specs.declared.span.Bound.TheVariants.{At}
use Rattle.kr_base.specs.declared.span.Span.{Span}
use Rattle.kr_base.specs.declared.entry.Entry.{Entry}
use Rattle.kr_base.specs.Bounds.{less}
use Rattle.kr_base.specs.Entries.{within, NoneSpent}
use Rattle.kr_base.proofs.Bounds.{irreflexive, transitive, asymmetric}
use Rattle.kr_core.specs.declared.segment.Segment.{Segment}
use Rattle.kr_base.specs.Causes.{capped}
use Rattle.kr_core.specs.Openings.{AscendBetween, AreInside, untouched, segments_at, end_of, opening}
use Rattle.kr_core.specs.Kept.{first_after}
use Rattle.kr_core.proofs.Spent.{within-none}
use Rattle.kr_core.proofs.Chains.{IsLink, Lacks, FreeIs, Chain}
use Rattle.kr_core.proofs.Runs.{Holds}

-- the cuts ascend from a bound on, and the end is not below them
abbrev AscendTo : Bound → List (List ℕ) → Bound → Type 0
AscendTo a [] e = less e a ≡ false
AscendTo a (c ∷ cs) e = (less a (At c) ≡ true) × AscendTo (At c) cs e

ascend-between : (a upto : Bound) (cuts : List (List ℕ)) → less upto a ≡ false → AscendBetween a cuts upto → AscendTo a cuts upto
ascend-between a upto [] n h = n
ascend-between a upto (c ∷ cs) n h = (h.0, ascend-between (At c) upto cs (asymmetric (At c) upto h.1) h.2)

ascend-end : (a upto : Bound) (cuts : List (List ℕ)) (t : Bool) → less a upto ≡ t → AscendBetween a cuts upto → AscendTo a cuts (cond t upto a)
ascend-end a upto cuts true is h = ascend-between a upto cuts (asymmetric a upto is) h
ascend-end a upto [] false is h = irreflexive a
ascend-end a upto (c ∷ cs) false is h = absurd (cc (sym is ∙ transitive a (At c) upto h.0 h.1))

lacks-later : (n k : ℕ) (a e : Bound) (cuts : List (List ℕ)) → n < k → Lacks n (segments_at k a cuts e)
lacks-later n k a e [] h = (λ q. absurd (omega (arith, h, q)), tt)
lacks-later n k a e (c ∷ cs) h = (λ q. absurd (omega (arith, h, q)), lacks-later n (k + 1) (At c) e cs (omega (arith, h)))

opens : {R : Type 0} (P : Type 0) (es : List (Entry R)) (next k : ℕ) (a e : Bound) (cuts : List (List ℕ)) (last : Option Segment) → FreeIs P es last → k + length cuts < next → AscendTo a cuts e
    → Chain P es next false last a (segments_at k a cuts e) e
opens {R} P es next k a e [] last f room fit =
    let none = within-none a a es (irreflexive a) in
    let link : IsLink P es next a (untouched k a e) = record {
      adjoins = refl;
      low = irreflexive a;
      high = fit;
      remains = λ q. absurd (cc (q));
      numbered = omega (arith, room);
      tried = λ p. ap (λ (xs : List (Entry R)). capped (length xs)) (sym none);
    } in
    (f, (link, (tt, (refl, λ p. subst (λ (xs : List (Entry R)). NoneSpent xs) (sym none) tt))))
opens {R} P es next k a e (c ∷ cs) last f room fit =
    let none = within-none a a es (irreflexive a) in
    let link : IsLink P es next a (untouched k a (At c)) = record {
      adjoins = refl;
      low = irreflexive a;
      high = asymmetric a (At c) fit.0;
      remains = λ q. absurd (cc (q));
      numbered = omega (arith, room);
      tried = λ p. ap (λ (xs : List (Entry R)). capped (length xs)) (sym none);
    } in (
      f,
      (
        link,
        (
          lacks-later k (k + 1) (At c) e cs (omega arith),
          opens P es next (k + 1) (At c) e cs (Some (untouched k a (At c))) (λ p. subst (λ (xs : List (Entry R)). NoneSpent xs) (sym none) tt) (omega (arith, room)) fit.1,
        ),
      ),
    )

first-segment : (k : ℕ) (a e : Bound) (cuts : List (List ℕ)) → first_after e (segments_at k a cuts e) ≡ a
first-segment k a e [] = refl
first-segment k a e (c ∷ cs) = refl

pub kept-opening : {R : Type 0} (P : Type 0) (es : List (Entry R)) (span : Span) (cuts : List (List ℕ)) → AreInside cuts span
    → Holds P es (At span.after) (end_of span) (opening span cuts)
kept-opening {R} P es span cuts inside =
    let a : Bound = At span.after in
    let e = end_of span in
    let first = sym (first-segment 0 a e cuts) in
    let none = within-none a a es (irreflexive a) in
    record {
      above = subst (λ (b : Bound). less b a ≡ false) first (irreflexive a);
      below = irreflexive e;
      past = λ p. subst (λ (b : Bound). 0 ≡ capped (length (within a b es))) first (ap (λ (xs : List (Entry R)). capped (length xs)) (sym none));
      past_free = λ p. subst (λ (b : Bound). NoneSpent (within a b es)) first (subst (λ (xs : List (Entry R)). NoneSpent xs) (sym none) tt);
      chain = subst (λ (b : Bound). Chain P es (length cuts + 1) false None b (segments_at 0 a cuts e) e) first
          (opens P es (length cuts + 1) 0 a e cuts None tt (omega arith) (ascend-end a span.upto cuts (less a span.upto) refl inside));
    }
