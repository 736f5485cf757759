-- A step keeps what every run keeps, from any state that has it.
use Rattle.std.proofs.Common.{◌≡◌, ℕ, ◌<◌, List, [], ◌∷◌, Bool, true, false, refl, Option, Some, None}
use Rattle.kr_base.specs.declared.span.Bound.{Bound}
use Rattle.kr_base.specs.Bounds.{less}
use Rattle.kr_base.proofs.Bounds.{irreflexive}
use Rattle.kr_core.specs.declared.segment.Segment.{Segment}
use Rattle.kr_core.specs.declared.event.Event.{Event}
use Rattle.kr_core.specs.declared.event.Reply.{Reply}
use Rattle.kr_core.specs.States.{State, has_remainder, is_owned, is_closed, Each}
use Rattle.kr_core.specs.Steps.{Step}
use Rattle.kr_core.specs.Kept.{NumbersDiffer, Adjoin, first_after, beginning, IsLastClosed, IsKept}
use Rattle.kr_core.proofs.Chains.{IsLink, EndsAs, FreeIs, Chain}
use Rattle.kr_core.proofs.Runs.{no_entries, Holds, kept-step}
use Rattle.kr_core.proofs.Ends.{kept}

-- what is kept of the segments from one on
record Linked (next : ℕ) (flag : Bool) (a : Bound) (segs : List Segment) (e : Bound) : Type 0 where
  pub differ : NumbersDiffer segs
  pub numbered : Each (λ g. g.number < next) segs
  pub adjoin : Adjoin a segs e
  pub after_to_mark : Each (λ g. less g.mark g.after ≡ false) segs
  pub mark_to_upto : Each (λ g. less g.upto g.mark ≡ false) segs
  pub owned_remains : Each (λ g. is_owned g.owner ≡ true → has_remainder g ≡ true) segs
  pub spent_closed : flag ≡ true → IsLastClosed segs

ends-as : (flag : Bool) (s : Segment) → (flag ≡ true → is_closed s ≡ true) → EndsAs ⊥ no_entries flag s
ends-as true s h = (h refl, λ p. absurd p)
ends-as false s h = λ p. absurd p

link : (next : ℕ) (flag : Bool) (a : Bound) (s : Segment) (ss : List Segment) (e : Bound) → Linked next flag a (s ∷ ss) e → IsLink ⊥ no_entries next a s
link next flag a s ss e k = record {
  adjoins = k.adjoin.0;
  low = k.after_to_mark.0;
  high = k.mark_to_upto.0;
  remains = k.owned_remains.0;
  numbered = k.numbered.0;
  tried = λ p. absurd p;
}

chain : (next : ℕ) (flag : Bool) (last : Option Segment) (a : Bound) (s : Segment) (ss : List Segment) (e : Bound) → FreeIs ⊥ no_entries last → Linked next flag a (s ∷ ss) e
    → Chain ⊥ no_entries next flag last a (s ∷ ss) e
chain next flag last a s [] e f k = (f, (link next flag a s [] e k, (tt, (k.adjoin.1, ends-as flag s k.spent_closed))))
chain next flag last a s (t ∷ ss) e f k = (
  f,
  (
    link next flag a s (t ∷ ss) e k,
    (
      k.differ.0,
      chain next flag (Some s) s.upto t ss e (λ p. absurd p) (record {
        differ = k.differ.1;
        numbered = k.numbered.1;
        adjoin = k.adjoin.1;
        after_to_mark = k.after_to_mark.1;
        mark_to_upto = k.mark_to_upto.1;
        owned_remains = k.owned_remains.1;
        spent_closed = k.spent_closed;
      }),
    ),
  ),
)

some-chain : (next : ℕ) (flag : Bool) (segs : List Segment) (e : Bound) → (segs ≡ [] → ⊥) → Linked next flag (first_after e segs) segs e → Chain ⊥ no_entries next flag None (first_after e segs) segs e
some-chain next flag [] e some k = absurd (some refl)
some-chain next flag (s ∷ ss) e some k = chain next flag None s.after s ss e tt k

pub holds : (s : State) → IsKept s → Holds ⊥ no_entries (beginning s) s.end s
holds s k = record {
  above = irreflexive (beginning s);
  below = irreflexive s.end;
  past = λ p. absurd p;
  past_free = λ p. absurd p;
  chain = some-chain s.next s.spent s.segments s.end k.some (record {
    differ = k.differ;
    numbered = k.numbered;
    adjoin = k.adjoin;
    after_to_mark = k.after_to_mark;
    mark_to_upto = k.mark_to_upto;
    owned_remains = k.owned_remains;
    spent_closed = k.spent_closed;
  });
}

pub step_keeps : (old : State) (event : Event) (reply : Reply) (new : State) → Step old event reply new → IsKept old → IsKept new
step_keeps old event reply new step k =
    kept ⊥ no_entries (beginning old) old.end new (kept-step ⊥ no_entries (beginning old) old.end old event reply new tt (λ p. absurd p) step (holds old k))
