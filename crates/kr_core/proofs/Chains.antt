-- What holds of the segments: what every run keeps, and under a premise P what they count of the entries.
use Rattle.std.proofs.Common.{◌≡◌, ◌≢◌, ℕ, ◌<◌, ◌≤◌, List, [], ◌∷◌, Bool, true, false, length, sym, ◌==◌, subst, arith, cond, Option, Some, None}
use Rattle.kr_base.specs.declared.span.Bound.{Bound}
use Rattle.kr_base.specs.declared.entry.Entry.{Entry}
use Rattle.kr_base.specs.Bounds.{less}
use Rattle.kr_base.specs.Entries.{within, NoneSpent}
use Rattle.kr_core.specs.declared.segment.Segment.{Segment}
use Rattle.kr_base.specs.Causes.{capped}
use Rattle.kr_core.specs.States.{has_remainder, is_owned, is_closed, segment_of, change, Each}
use Rattle.kr_core.specs.Kept.{first_after}
use Rattle.kr_core.specs.Counts.{EndsSpent}

-- of a segment that is directly above the bound
pub record IsLink {R : Type 0} (P : Type 0) (es : List (Entry R)) (next : ℕ) (a : Bound) (s : Segment) : Type 0 where
  pub adjoins : s.after ≡ a
  pub low : less s.mark s.after ≡ false
  pub high : less s.upto s.mark ≡ false
  pub remains : is_owned s.owner ≡ true → has_remainder s ≡ true
  pub numbered : s.number < next
  pub tried : P → s.tried ≡ capped (length (within s.after s.mark es))

abbrev pub Lacks : ℕ → List Segment → Type 0
Lacks n ss = Each (λ t. t.number ≢ n) ss

-- no counted entry of it is spent
abbrev pub Free : {R : Type 0} → Type 0 → List (Entry R) → Segment → Type 0
Free P es s = P → NoneSpent (within s.after s.mark es)

-- of a segment that has another after it
abbrev pub FreeIs : {R : Type 0} → Type 0 → List (Entry R) → Option Segment → Type 0
FreeIs P es None = Unit {0}
FreeIs P es (Some s) = Free P es s

abbrev pub EndsAs : {R : Type 0} → Type 0 → List (Entry R) → Bool → Segment → Type 0
EndsAs P es true s = (is_closed s ≡ true) × (P → EndsSpent s.upto (within s.after s.mark es))
EndsAs P es false s = Free P es s

-- of the last segment
abbrev pub LastIs : {R : Type 0} → Type 0 → List (Entry R) → Bool → Option Segment → Type 0
LastIs P es flag None = ⊥
LastIs P es flag (Some s) = EndsAs P es flag s

-- the segments adjoin from a bound to the end; `last` is the one before them
abbrev pub Chain : {R : Type 0} → Type 0 → List (Entry R) → ℕ → Bool → Option Segment → Bound → List Segment → Bound → Type 0
Chain P es next flag last a [] e = (a ≡ e) × LastIs P es flag last
Chain P es next flag last a (s ∷ ss) e = FreeIs P es last × (IsLink P es next a s × (Lacks s.number ss × Chain P es next flag (Some s) s.upto ss e))

-- the same of all segments, with the part before them; the end is not above a top
pub record Front {R : Type 0} (P : Type 0) (es : List (Entry R)) (from top : Bound) (next before : ℕ) (flag : Bool) (segs : List Segment) (e : Bound) : Type 0 where
  pub above : less (first_after e segs) from ≡ false
  pub below : less top e ≡ false
  pub past : P → before ≡ capped (length (within from (first_after e segs) es))
  pub past_free : P → NoneSpent (within from (first_after e segs) es)
  pub chain : Chain P es next flag None (first_after e segs) segs e

abbrev pub Change : Type 0
Change = Segment → List Segment → List Segment

pub lacks-change : (x n : ℕ) (f : Change) (s : Segment) (segs : List Segment) → segment_of n segs ≡ Some s
    → ((ss : List Segment) → Lacks x (s ∷ ss) → Lacks x (f s ss)) → Lacks x segs → Lacks x (change n f segs)
lacks-change x n f s [] found here h = absurd (cc (found))
lacks-change x n f s (t ∷ ss) found here h =
    elim (t.number == n) as (λ b. cond b (Some t) (segment_of n ss) ≡ Some s → Lacks x (cond b (f t ss) (t ∷ change n f ss))) [
      | true ↦ λ e. let same : t ≡ s = cc (e) in subst (λ (u : Segment). Lacks x (f u ss)) (sym same) (here ss (subst (λ (u : Segment). Lacks x (u ∷ ss)) same h))
      | false ↦ λ e. (h.0, lacks-change x n f s ss e here h.1)
    ] found

-- the segment that is changed keeps what it is for those before it and those after it
pub chain-change : {R : Type 0} (P : Type 0) (es : List (Entry R)) (next next' n : ℕ) (flag flag' : Bool) (f : Change) (s : Segment) (e e' : Bound) → next ≤ next'
    → ((x : ℕ) (ss : List Segment) → x < next → Lacks x (s ∷ ss) → Lacks x (f s ss))
    → ((last : Option Segment) (a : Bound) (ss : List Segment) → Chain P es next flag last a (s ∷ ss) e → Chain P es next' flag' last a (f s ss) e')
    → (last : Option Segment) (a : Bound) (segs : List Segment) → segment_of n segs ≡ Some s
    → Chain P es next flag last a segs e → Chain P es next' flag' last a (change n f segs) e'
chain-change P es next next' n flag flag' f s e e' more lacks here last a [] found h = absurd (cc (found))
chain-change P es next next' n flag flag' f s e e' more lacks here last a (t ∷ ss) found h =
    elim (t.number == n) as (λ b. cond b (Some t) (segment_of n ss) ≡ Some s → Chain P es next' flag' last a (cond b (f t ss) (t ∷ change n f ss)) e') [
      | true ↦ λ q. let same : t ≡ s = cc (q) in
          subst (λ (u : Segment). Chain P es next' flag' last a (f u ss) e') (sym same) (here last a ss (subst (λ (u : Segment). Chain P es next flag last a (u ∷ ss) e) same h))
      | false ↦ λ q.
          let link = h.1.0 in
          let link' : IsLink P es next' a t = record { adjoins = link.adjoins; low = link.low; high = link.high; remains = link.remains; numbered = omega (arith, link.numbered); tried = link.tried } in
          (h.0, (link', (lacks-change t.number n f s ss q (λ rest l. lacks t.number rest link.numbered l) h.1.1.0, chain-change P es next next' n flag flag' f s e e' more lacks here (Some t) t.upto ss q h.1.1.1)))
    ] found
