-- A take or a report that fits is a step.
use Rattle.std.proofs.Common.{◌≡◌, ℕ, List, [], ◌∷◌, Bool, true, false, not, refl, sym, ap, ◌∙◌, subst, cond, Option, Some, None}
use Rattle.kr_base.specs.declared.span.Bound.{Bound}
use Rattle.kr_base.specs.Bounds.{less}
use Rattle.kr_core.specs.declared.segment.Segment.{Segment}
use Rattle.kr_core.specs.declared.event.Lease.{Lease}
use Rattle.kr_core.specs.declared.event.Event.TheVariants.{Take, Report}
use Rattle.kr_core.specs.declared.event.Reply.TheVariants.{Lease as Leased, Done, Go}
use Rattle.kr_core.specs.States.{State, segment_of, change, is_owned, is_owned_by}
use Rattle.kr_core.specs.Steps.{Step, may_take, may_report, owned, scanned, IsLease, keeps_owner}
use Rattle.kr_core.specs.Reaches.{closes, WouldLease}
use Rattle.kr_core.proofs.Places.{segment_of_change, segment_of_cut}
use Rattle.kr_core.proofs.LeaseFacts.{leased}
use Rattle.kr_core.proofs.Bools.{and-left, owner_known}

pub take_step : (old : State) (seat n : ℕ) (segs : List Segment) (lease : Lease) → may_take (segment_of n old.segments) ≡ true
    → segs ≡ change n (λ s ss. owned (Some seat) s ∷ ss) old.segments → IsLease seat (segment_of n old.segments) lease
    → Step old (Take seat n) (Leased lease) (record { segments = segs; next = old.next; past = old.past; end = old.end; spent = old.spent })
take_step old seat n segs lease may changed is =
    record {
      fit = may;
      new_is = λ i. record { segments = changed i; next = old.next; past = old.past; end = old.end; spent = old.spent };
      reply_is = leased seat n old.segments segs (Some seat) lease changed is;
    }

pub spent_step : (old : State) (seat n : ℕ) (reach : Bound) (rows tried : ℕ) (spent : Bool) (segs : List Segment) (e : Bound) → spent ≡ true
    → may_report seat reach rows tried spent (segment_of n old.segments) ≡ true → segs ≡ change n (λ s ss. scanned reach rows tried true s ∷ []) old.segments → e ≡ reach
    → Step old (Report seat n reach rows tried spent) Done (record { segments = segs; next = old.next; past = old.past; end = e; spent = true })
spent_step old seat n reach rows tried false segs e is may changed end = absurd (cc (is))
spent_step old seat n reach rows tried true segs e is may changed end =
    record {
      fit = may;
      new_is = λ i. record { segments = changed i; next = old.next; past = old.past; end = end i; spent = true };
      reply_is = elim (segment_of n old.segments) as (λ o. segment_of n old.segments ≡ o → may_report seat reach rows tried true o ≡ true → keeps_owner (segment_of n segs) ≡ false) [
        | None ↦ λ q f. absurd (cc (f))
        | Some s ↦ λ q f. ap (λ (xs : List Segment). keeps_owner (segment_of n xs)) changed ∙ ap keeps_owner (segment_of_cut n old.segments (scanned reach rows tried true) s (λ t. refl) q)
      ] refl may;
    }

-- whether the owner stays, by what remains after the reach
stays : (reach : Bound) (rows tried : ℕ) (s : Segment) (b : Bool) → not (less reach s.upto) ≡ b → keeps_owner (Some (scanned reach rows tried false s)) ≡ is_owned (cond b None s.owner)
stays reach rows tried s b h = ap (λ (t : Bool). is_owned (cond t None s.owner)) h

pub done_step : (old : State) (seat n : ℕ) (reach : Bound) (rows tried : ℕ) (spent : Bool) (segs : List Segment) → spent ≡ false
    → may_report seat reach rows tried spent (segment_of n old.segments) ≡ true → closes reach (segment_of n old.segments) ≡ true
    → segs ≡ change n (λ s ss. scanned reach rows tried false s ∷ ss) old.segments
    → Step old (Report seat n reach rows tried spent) Done (record { segments = segs; next = old.next; past = old.past; end = old.end; spent = old.spent })
done_step old seat n reach rows tried true segs is may whole changed = absurd (cc (is))
done_step old seat n reach rows tried false segs is may whole changed =
    record {
      fit = may;
      new_is = λ i. record { segments = changed i; next = old.next; past = old.past; end = old.end; spent = old.spent };
      reply_is = elim (segment_of n old.segments) as (λ o. segment_of n old.segments ≡ o → closes reach o ≡ true → may_report seat reach rows tried false o ≡ true → keeps_owner (segment_of n segs) ≡ false) [
        | None ↦ λ q w f. absurd (cc (f))
        | Some s ↦ λ q w f. ap (λ (xs : List Segment). keeps_owner (segment_of n xs)) changed
            ∙ (ap keeps_owner (segment_of_change n old.segments (scanned reach rows tried false) s (λ t. refl) q) ∙ stays reach rows tried s true w)
      ] refl whole may;
    }

pub go_step : (old : State) (seat n : ℕ) (reach : Bound) (rows tried : ℕ) (spent : Bool) (segs : List Segment) (lease : Lease) → spent ≡ false
    → may_report seat reach rows tried spent (segment_of n old.segments) ≡ true → closes reach (segment_of n old.segments) ≡ false
    → WouldLease seat reach (segment_of n old.segments) lease → segs ≡ change n (λ s ss. scanned reach rows tried false s ∷ ss) old.segments
    → Step old (Report seat n reach rows tried spent) (Go lease) (record { segments = segs; next = old.next; past = old.past; end = old.end; spent = old.spent })
go_step old seat n reach rows tried true segs lease is may whole would changed = absurd (cc (is))
go_step old seat n reach rows tried false segs lease is may whole would changed =
    record {
      fit = may;
      new_is = λ i. record { segments = changed i; next = old.next; past = old.past; end = old.end; spent = old.spent };
      reply_is = elim (segment_of n old.segments) as (λ o. segment_of n old.segments ≡ o → closes reach o ≡ false → may_report seat reach rows tried false o ≡ true → WouldLease seat reach o lease
          → IsLease seat (segment_of n segs) lease × (keeps_owner (segment_of n segs) ≡ true)) [
            | None ↦ λ q w f l. absurd (cc (f))
            | Some s ↦ λ q w f l.
                let at : segment_of n segs ≡ Some (scanned reach rows tried false s) = ap (segment_of n) changed ∙ segment_of_change n old.segments (scanned reach rows tried false) s (λ t. refl) q in (
                  subst (λ (x : Option Segment). IsLease seat x lease) (sym at) l,
                  ap keeps_owner at ∙ (stays reach rows tried s false w ∙ owner_known seat s.owner (and-left (is_owned_by seat s.owner) _ f)),
                )
          ] refl whole may would;
    }
