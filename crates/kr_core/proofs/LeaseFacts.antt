-- Leases are of segments whose mark is a cut: nothing remains after the end.
use Rattle.std.proofs.Common.{◌≡◌, ℕ, List, Bool, true, false, ◌&&◌, not, ◌∷◌, refl, sym, ap, ◌∙◌, subst, Option, Some, None}
use Rattle.kr_base.specs.declared.span.Bound.{Bound}
use Rattle.kr_base.specs.declared.span.Bound.TheVariants.{At, End}
use Rattle.kr_base.specs.Bounds.{less}
use Rattle.kr_core.specs.declared.segment.Segment.{Segment}
use Rattle.kr_core.specs.declared.event.Lease.{Lease}
use Rattle.kr_core.specs.States.{segment_of, change, is_owned}
use Rattle.kr_core.specs.Steps.{may_take, owned, IsLease}
use Rattle.kr_core.specs.Reaches.{closes}
use Rattle.kr_core.proofs.Places.{segment_of_change}

pub closes_end : (o : Option Segment) → closes End o ≡ true
unfolding less
closes_end None = refl
closes_end (Some s) = refl

end_below : (a b : Bound) → a ≡ End → less a b ≡ false
unfolding less
end_below (At c) b h = absurd (cc (h))
end_below End b h = refl

pub untaken_end : (s : Segment) (o : Option Segment) → o ≡ Some s → s.mark ≡ End → may_take o ≡ false
untaken_end s o is h = ap may_take is ∙ ap (λ (b : Bool). b && not (is_owned s.owner)) (end_below s.mark s.upto h)

-- the lease is still that of the segment once it has an owner
pub leased : (seat n : ℕ) (ss new : List Segment) (owner : Option ℕ) (lease : Lease) → new ≡ change n (λ s rest. owned owner s ∷ rest) ss
    → IsLease seat (segment_of n ss) lease → IsLease seat (segment_of n new) lease
leased seat n ss new owner lease is h =
    elim (segment_of n ss) as (λ o. segment_of n ss ≡ o → IsLease seat o lease → IsLease seat (segment_of n new) lease) [
      | None ↦ λ e l. absurd l
      | Some s ↦ λ e l.
          let at : segment_of n new ≡ Some (owned owner s) = ap (segment_of n) is ∙ segment_of_change n ss (owned owner) s (λ t. refl) e in
          subst (λ (x : Option Segment). IsLease seat x lease) (sym at) l
    ] refl h
