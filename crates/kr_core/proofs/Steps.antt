-- Each event keeps what holds of the segments: Take, GiveUp, Steal and Report.
use Rattle.std.proofs.Common.{◌≡◌, ℕ, ◌+◌, ◌<◌, ◌≤◌, List, [], ◌∷◌, Bool, true, false, ◌&&◌, not, ◌==◌, length, refl, sym, ap, ◌∙◌, subst, arith, Option, Some, None, cond}
use Rattle.std.proofs.lemmas.Bool.{not-true, not-false}
use Rattle.kr_base.specs.declared.span.Bound.{Bound}
use Rattle.kr_base.specs.declared.span.Bound.TheVariants.{At}
use Rattle.kr_base.specs.declared.entry.Entry.{Entry}
use Rattle.kr_base.specs.Bounds.{less}
use Rattle.kr_base.specs.Entries.{Ascends, within, NoneSpent}
use Rattle.kr_base.proofs.Bounds.{irreflexive, not_above, asymmetric}
use Rattle.kr_core.specs.declared.segment.Segment.{Segment}
use Rattle.kr_base.specs.Causes.{capped}
use Rattle.kr_core.specs.States.{has_remainder, is_owned, is_owned_by, is_closed, segment_of, change}
use Rattle.kr_core.specs.Steps.{may_report, owned, lowered, stolen, scanned}
use Rattle.kr_core.specs.Kept.{first_after}
use Rattle.kr_core.specs.Counts.{EndsSpent}
use Rattle.kr_core.proofs.Bools.{and-left, and-right, owner_known}
use Rattle.kr_core.proofs.Spent.{within-append, within-length, within-none, NoneSpent-append, EndsSpent-append}
use Rattle.kr_core.proofs.Chains.{IsLink, Lacks, Free, EndsAs, Chain, Front, Change, chain-change}

-- another segment for the last one
swap-last : {R : Type 0} (P : Type 0) (es : List (Entry R)) (next : ℕ) (flag : Bool) (s t : Segment) (a : Bound) (ss : List Segment) (e : Bound)
    → (Free P es s → Free P es t) → (EndsAs P es flag s → EndsAs P es flag t)
    → Chain P es next flag (Some s) a ss e → Chain P es next flag (Some t) a ss e
swap-last P es next flag s t a [] e f g h = (h.0, g h.1)
swap-last P es next flag s t a (u ∷ ss) e f g h = (f h.0, h.1)

ends-open : {R : Type 0} (P : Type 0) (es : List (Entry R)) (flag : Bool) (s t : Segment) → is_closed s ≡ false → (Free P es s → Free P es t) → EndsAs P es flag s → EndsAs P es flag t
ends-open P es true s t unclosed f h = absurd (cc (sym unclosed ∙ h.0))
ends-open P es false s t unclosed f h = f h

-- one that isn't closed has no spent entry below its mark
free-open : {R : Type 0} (P : Type 0) (es : List (Entry R)) (next : ℕ) (flag : Bool) (s : Segment) (a : Bound) (ss : List Segment) (e : Bound)
    → is_closed s ≡ false → Chain P es next flag (Some s) a ss e → Free P es s
free-open P es next true s a [] e unclosed h = absurd (cc (sym unclosed ∙ h.1.0))
free-open P es next false s a [] e unclosed h = h.1
free-open P es next flag s a (t ∷ ss) e unclosed h = h.0

-- another segment at the place of one that isn't closed
relink : {R : Type 0} (P : Type 0) (es : List (Entry R)) (next : ℕ) (flag : Bool) (s t : Segment) (e : Bound) → t.number ≡ s.number → t.upto ≡ s.upto → is_closed s ≡ false
    → ((a : Bound) → IsLink P es next a s → IsLink P es next a t) → (Free P es s → Free P es t)
    → (last : Option Segment) (a : Bound) (ss : List Segment) → Chain P es next flag last a (s ∷ ss) e → Chain P es next flag last a (t ∷ ss) e
relink P es next flag s t e number upto unclosed link f last a ss h = (
  h.0,
  (
    link a h.1.0,
    (
      subst (λ (n : ℕ). Lacks n ss) (sym number) h.1.1.0,
      subst (λ (b : Bound). Chain P es next flag (Some t) b ss e) (sym upto) (swap-last P es next flag s t s.upto ss e f (ends-open P es flag s t unclosed f) h.1.1.1),
    ),
  ),
)

open-rest : (s : Segment) → has_remainder s ≡ true → is_closed s ≡ false
open-rest s h = elim (is_owned s.owner) as (λ b. (not b && not (has_remainder s)) ≡ false) [ true ↦ refl | false ↦ ap not h ]

open-owned : (s : Segment) → is_owned s.owner ≡ true → is_closed s ≡ false
open-owned s h = ap (λ (b : Bool). not b && not (has_remainder s)) h

first-change : (e e' : Bound) (n : ℕ) (f : Change) (s : Segment) (segs : List Segment) → segment_of n segs ≡ Some s
    → ((ss : List Segment) → first_after e' (f s ss) ≡ s.after) → first_after e' (change n f segs) ≡ first_after e segs
first-change e e' n f s [] found here = absurd (cc (found))
first-change e e' n f s (t ∷ ss) found here =
    elim (t.number == n) as (λ b. cond b (Some t) (segment_of n ss) ≡ Some s → first_after e' (cond b (f t ss) (t ∷ change n f ss)) ≡ t.after) [
      | true ↦ λ q. let same : t ≡ s = cc (q) in ap (λ (u : Segment). first_after e' (f u ss)) same ∙ (here ss ∙ ap (λ (u : Segment). u.after) (sym same))
      | false ↦ λ q. refl
    ] found

-- one of the segments is changed
front-change : {R : Type 0} (P : Type 0) (es : List (Entry R)) (from top : Bound) (next next' before n : ℕ) (flag flag' : Bool) (f : Change) (s : Segment) (segs : List Segment) (e e' : Bound)
    → segment_of n segs ≡ Some s → next ≤ next' → less top e' ≡ false
    → ((x : ℕ) (ss : List Segment) → x < next → Lacks x (s ∷ ss) → Lacks x (f s ss))
    → ((last : Option Segment) (a : Bound) (ss : List Segment) → Chain P es next flag last a (s ∷ ss) e → Chain P es next' flag' last a (f s ss) e')
    → ((ss : List Segment) → first_after e' (f s ss) ≡ s.after)
    → Front P es from top next before flag segs e → Front P es from top next' before flag' (change n f segs) e'
front-change {R} P es from top next next' before n flag flag' f s segs e e' found more below lacks here first k =
    let same = first-change e e' n f s segs found first in
    record {
      above = subst (λ (b : Bound). less b from ≡ false) (sym same) k.above;
      below = below;
      past = λ p. subst (λ (b : Bound). before ≡ capped (length (within from b es))) (sym same) (k.past p);
      past_free = λ p. subst (λ (b : Bound). NoneSpent (within from b es)) (sym same) (k.past_free p);
      chain = subst (λ (b : Bound). Chain P es next' flag' None b (change n f segs) e') (sym same)
          (chain-change P es next next' n flag flag' f s e e' more lacks here None (first_after e segs) segs found k.chain);
    }

pub kept-take : {R : Type 0} (P : Type 0) (es : List (Entry R)) (from top : Bound) (next before : ℕ) (flag : Bool) (segs : List Segment) (e : Bound) (seat n : ℕ) (s : Segment)
    → segment_of n segs ≡ Some s → has_remainder s ≡ true
    → Front P es from top next before flag segs e → Front P es from top next before flag (change n (λ t ss. owned (Some seat) t ∷ ss) segs) e
kept-take P es from top next before flag segs e seat n s found rest k =
    front-change P es from top next next before n flag flag (λ t ss. owned (Some seat) t ∷ ss) s segs e e found (omega arith) k.below
    (λ x ss less h. h)
    (relink P es next flag s (owned (Some seat) s) e refl refl (open-rest s rest)
    (λ a l. record { adjoins = l.adjoins; low = l.low; high = l.high; remains = λ _. rest; numbered = l.numbered; tried = l.tried }) (λ h. h))
    (λ ss. refl) k

pub kept-give_up : {R : Type 0} (P : Type 0) (es : List (Entry R)) (from top : Bound) (next before : ℕ) (flag : Bool) (segs : List Segment) (e : Bound) (n : ℕ) (s : Segment)
    → segment_of n segs ≡ Some s → is_owned s.owner ≡ true
    → Front P es from top next before flag segs e → Front P es from top next before flag (change n (λ t ss. owned None t ∷ ss) segs) e
kept-give_up P es from top next before flag segs e n s found own k =
    front-change P es from top next next before n flag flag (λ t ss. owned None t ∷ ss) s segs e e found (omega arith) k.below
    (λ x ss less h. h)
    (relink P es next flag s (owned None s) e refl refl (open-owned s own)
    (λ a l. record { adjoins = l.adjoins; low = l.low; high = l.high; remains = λ q. absurd (cc (q)); numbered = l.numbered; tried = l.tried }) (λ h. h))
    (λ ss. refl) k

-- what a report that fits says of the segment
pub record Reaches (s : Segment) (reach : Bound) : Type 0 where
  pub own : is_owned s.owner ≡ true
  pub above : less s.mark reach ≡ true
  pub within_it : less s.upto reach ≡ false

pub reaches : (seat : ℕ) (s : Segment) (reach : Bound) (rows tried : ℕ) (spent : Bool) → may_report seat reach rows tried spent (Some s) ≡ true → Reaches s reach
reaches seat s reach rows tried spent h =
    let own = and-left (is_owned_by seat s.owner) _ h in
    let rest = and-right (is_owned_by seat s.owner) _ h in
    let above = and-left (less s.mark reach) _ rest in
    let up = and-left (not (less s.upto reach)) _ (and-right (less s.mark reach) _ rest) in
    record { own = owner_known seat s.owner own; above = above; within_it = not-true (less s.upto reach) up }

-- the entries up to a reach are those up to the mark and those from there on
reach-tried : {R : Type 0} (P : Type 0) (es : List (Entry R)) (next : ℕ) (a : Bound) (s : Segment) (reach : Bound) (tried : ℕ) → Ascends es → IsLink P es next a s → less s.mark reach ≡ true
    → P → tried ≡ capped (length (within s.mark reach es)) → capped (s.tried + tried) ≡ capped (length (within s.after reach es))
reach-tried P es next a s reach tried asc l above p is =
    omega (arith, l.tried p, is, within-length s.after s.mark reach es asc l.low (asymmetric s.mark reach above))

reach-free : {R : Type 0} (P : Type 0) (es : List (Entry R)) (next : ℕ) (a : Bound) (s : Segment) (reach : Bound) → Ascends es → IsLink P es next a s → less s.mark reach ≡ true
    → NoneSpent (within s.after s.mark es) → NoneSpent (within s.mark reach es) → NoneSpent (within s.after reach es)
reach-free {R} P es next a s reach asc l above f g =
    subst (λ (xs : List (Entry R)). NoneSpent xs) (within-append s.after s.mark reach es asc l.low (asymmetric s.mark reach above))
    (NoneSpent-append (within s.after s.mark es) (within s.mark reach es) f g)

reach-low : (s : Segment) (reach : Bound) → less s.mark s.after ≡ false → less s.mark reach ≡ true → less reach s.after ≡ false
reach-low s reach low above = not_above s.after s.mark reach low (asymmetric s.mark reach above)

-- who owns the segment after a report has something left to scan
remains-behind : (reach : Bound) (s : Segment) (b : Bool) → not (less reach s.upto) ≡ b → is_owned (cond b None s.owner) ≡ true → less reach s.upto ≡ true
remains-behind reach s true h own = absurd (cc (own))
remains-behind reach s false h own = not-false (less reach s.upto) h

-- what a report says of the entries after the mark
abbrev pub IsTried : {R : Type 0} → Type 0 → List (Entry R) → Segment → Bound → ℕ → Type 0
IsTried P es s reach tried = P → tried ≡ capped (length (within s.mark reach es))

move-here : {R : Type 0} (P : Type 0) (es : List (Entry R)) (next : ℕ) (flag : Bool) (s : Segment) (e reach : Bound) (rows tried : ℕ) → Ascends es → Reaches s reach
    → IsTried P es s reach tried → (P → NoneSpent (within s.mark reach es))
    → (last : Option Segment) (a : Bound) (ss : List Segment) → Chain P es next flag last a (s ∷ ss) e → Chain P es next flag last a (scanned reach rows tried false s ∷ ss) e
move-here P es next flag s e reach rows tried asc r count clean last a ss h =
    relink P es next flag s (scanned reach rows tried false s) e refl refl (open-owned s r.own)
    (λ b l. record {
      adjoins = l.adjoins;
      low = reach-low s reach l.low r.above;
      high = r.within_it;
      remains = remains-behind reach s (not (less reach s.upto)) refl;
      numbered = l.numbered;
      tried = λ p. reach-tried P es next b s reach tried asc l r.above p (count p);
    })
    (λ g p. reach-free P es next a s reach asc h.1.0 r.above (g p) (clean p)) last a ss h

pub kept-report : {R : Type 0} (P : Type 0) (es : List (Entry R)) (from top : Bound) (next before : ℕ) (flag : Bool) (segs : List Segment) (e : Bound) (n : ℕ) (reach : Bound) (rows tried : ℕ) (s : Segment)
    → Ascends es → segment_of n segs ≡ Some s → Reaches s reach → IsTried P es s reach tried → (P → NoneSpent (within s.mark reach es))
    → Front P es from top next before flag segs e → Front P es from top next before flag (change n (λ t ss. scanned reach rows tried false t ∷ ss) segs) e
kept-report P es from top next before flag segs e n reach rows tried s asc found r count clean k =
    front-change P es from top next next before n flag flag (λ t ss. scanned reach rows tried false t ∷ ss) s segs e e found (omega arith) k.below
    (λ x ss less h. h)
    (move-here P es next flag s e reach rows tried asc r count clean)
    (λ ss. refl) k

-- the segments end no lower than they begin
pub chain-up : {R : Type 0} (P : Type 0) (es : List (Entry R)) (next : ℕ) (flag : Bool) (last : Option Segment) (a : Bound) (segs : List Segment) (e : Bound)
    → Chain P es next flag last a segs e → less e a ≡ false
chain-up P es next flag last a [] e h = subst (λ (b : Bound). less b a ≡ false) h.0 (irreflexive a)
chain-up P es next flag last a (s ∷ ss) e h =
    let l = h.1.0 in
    subst (λ (b : Bound). less e b ≡ false) l.adjoins
    (not_above s.after s.mark e l.low (not_above s.mark s.upto e l.high (chain-up P es next flag (Some s) s.upto ss e h.1.1.1)))

-- and none ends above their end
upto-below : {R : Type 0} (P : Type 0) (es : List (Entry R)) (next : ℕ) (flag : Bool) (last : Option Segment) (a : Bound) (segs : List Segment) (e : Bound) (n : ℕ) (s : Segment)
    → segment_of n segs ≡ Some s → Chain P es next flag last a segs e → less e s.upto ≡ false
upto-below P es next flag last a [] e n s found h = absurd (cc (found))
upto-below P es next flag last a (t ∷ ss) e n s found h =
    elim (t.number == n) as (λ b. cond b (Some t) (segment_of n ss) ≡ Some s → less e s.upto ≡ false) [
      | true ↦ λ q. let same : t ≡ s = cc (q) in subst (λ (u : Segment). less e u.upto ≡ false) same (chain-up P es next flag (Some t) t.upto ss e h.1.1.1)
      | false ↦ λ q. upto-below P es next flag (Some t) t.upto ss e n s q h.1.1.1
    ] found

end-here : {R : Type 0} (P : Type 0) (es : List (Entry R)) (next : ℕ) (flag : Bool) (s : Segment) (e reach : Bound) (rows tried : ℕ) → Ascends es → Reaches s reach
    → IsTried P es s reach tried → (P → EndsSpent reach (within s.mark reach es))
    → (last : Option Segment) (a : Bound) (ss : List Segment) → Chain P es next flag last a (s ∷ ss) e → Chain P es next true last a (scanned reach rows tried true s ∷ []) reach
end-here {R} P es next flag s e reach rows tried asc r count ends last a ss h =
    let l = h.1.0 in
    let f = free-open P es next flag s s.upto ss e (open-owned s r.own) h.1.1.1 in
    let stays : less reach reach ≡ false = irreflexive reach in (
      h.0,
      (
        record {
          adjoins = l.adjoins;
          low = reach-low s reach l.low r.above;
          high = stays;
          remains = λ q. absurd (cc (q));
          numbered = l.numbered;
          tried = λ p. reach-tried P es next a s reach tried asc l r.above p (count p);
        },
        (
          tt,
          (
            refl,
            (
              ap not stays,
              λ p. subst (λ (xs : List (Entry R)). EndsSpent reach xs) (within-append s.after s.mark reach es asc l.low (asymmetric s.mark reach r.above))
                  (EndsSpent-append reach (within s.after s.mark es) (within s.mark reach es) (f p) (ends p)),
            ),
          ),
        ),
      ),
    )

pub kept-report_spent : {R : Type 0} (P : Type 0) (es : List (Entry R)) (from top : Bound) (next before : ℕ) (flag : Bool) (segs : List Segment) (e : Bound) (n : ℕ) (reach : Bound) (rows tried : ℕ) (s : Segment)
    → Ascends es → segment_of n segs ≡ Some s → Reaches s reach → IsTried P es s reach tried → (P → EndsSpent reach (within s.mark reach es))
    → Front P es from top next before flag segs e → Front P es from top next before true (change n (λ t ss. scanned reach rows tried true t ∷ []) segs) reach
kept-report_spent P es from top next before flag segs e n reach rows tried s asc found r count ends k =
    let up : less e s.upto ≡ false = upto-below P es next flag None (first_after e segs) segs e n s found k.chain in
    let below : less top reach ≡ false = not_above reach e top (not_above reach s.upto e r.within_it up) k.below in
    front-change P es from top next next before n flag true (λ t ss. scanned reach rows tried true t ∷ []) s segs e reach found (omega arith) below
    (λ x ss less h. (h.0, tt))
    (end-here P es next flag s e reach rows tried asc r count ends)
    (λ ss. refl) k

-- numbers that are all below one lack it
lacks-next : {R : Type 0} (P : Type 0) (es : List (Entry R)) (next : ℕ) (flag : Bool) (last : Option Segment) (a : Bound) (ss : List Segment) (e : Bound) → Chain P es next flag last a ss e → Lacks next ss
lacks-next P es next flag last a [] e h = tt
lacks-next P es next flag last a (s ∷ ss) e h = (λ q. absurd (omega (arith, h.1.0.numbered, q)), lacks-next P es next flag (Some s) s.upto ss e h.1.1.1)

more-numbers : {R : Type 0} (P : Type 0) (es : List (Entry R)) (next : ℕ) (flag : Bool) (last : Option Segment) (a : Bound) (ss : List Segment) (e : Bound) → Chain P es next flag last a ss e → Chain P es (next + 1) flag last a ss e
more-numbers P es next flag last a [] e h = h
more-numbers P es next flag last a (s ∷ ss) e h =
    let l = h.1.0 in
    (h.0, (record { adjoins = l.adjoins; low = l.low; high = l.high; remains = l.remains; numbered = omega (arith, l.numbered); tried = l.tried }, (h.1.1.0, more-numbers P es next flag (Some s) s.upto ss e h.1.1.1)))

cut-here : {R : Type 0} (P : Type 0) (es : List (Entry R)) (next : ℕ) (flag : Bool) (s : Segment) (e : Bound) (seat : ℕ) (c : List ℕ)
    → is_owned s.owner ≡ true → less s.mark (At c) ≡ true → less (At c) s.upto ≡ true
    → (last : Option Segment) (a : Bound) (ss : List Segment) → Chain P es next flag last a (s ∷ ss) e → Chain P es (next + 1) flag last a (lowered c s ∷ (stolen seat c next s ∷ ss)) e
cut-here {R} P es next flag s e seat c own low high last a ss h =
    let l = h.1.0 in
    let t : Segment = stolen seat c next s in
    let unclosed = open-owned s own in
    let f = free-open P es next flag s s.upto ss e unclosed h.1.1.1 in
    let none = within-none (At c) (At c) es (irreflexive (At c)) in
    let nothing : Free P es t = λ p. subst (λ (xs : List (Entry R)). NoneSpent xs) (sym none) tt in
    let rest = more-numbers P es next flag (Some s) s.upto ss e h.1.1.1 in (
      h.0,
      (
        record { adjoins = l.adjoins; low = l.low; high = asymmetric s.mark (At c) low; remains = λ _. low; numbered = omega (arith, l.numbered); tried = l.tried },
        (
          (λ q. absurd (omega (arith, l.numbered, q)), h.1.1.0),
          (
            f,
            (
              record {
                adjoins = refl;
                low = irreflexive (At c);
                high = asymmetric (At c) s.upto high;
                remains = λ _. high;
                numbered = omega arith;
                tried = λ p. ap (λ (xs : List (Entry R)). capped (length xs)) (sym none);
              },
              (
                lacks-next P es next flag (Some s) s.upto ss e h.1.1.1,
                swap-last P es (next + 1) flag s t s.upto ss e (λ _. nothing) (ends-open P es flag s t unclosed (λ _. nothing)) rest,
              ),
            ),
          ),
        ),
      ),
    )

pub kept-steal : {R : Type 0} (P : Type 0) (es : List (Entry R)) (from top : Bound) (next before : ℕ) (flag : Bool) (segs : List Segment) (e : Bound) (seat victim : ℕ) (c : List ℕ) (s : Segment)
    → segment_of victim segs ≡ Some s → is_owned s.owner ≡ true → less s.mark (At c) ≡ true → less (At c) s.upto ≡ true
    → Front P es from top next before flag segs e → Front P es from top (next + 1) before flag (change victim (λ t ss. lowered c t ∷ (stolen seat c next t ∷ ss)) segs) e
kept-steal P es from top next before flag segs e seat victim c s found own low high k =
    front-change P es from top next (next + 1) before victim flag flag (λ t ss. lowered c t ∷ (stolen seat c next t ∷ ss)) s segs e e found (omega arith) k.below
    (λ x ss below h. (h.0, (λ q. absurd (omega (arith, below, q)), h.1)))
    (cut-here P es next flag s e seat c own low high)
    (λ ss. refl) k
