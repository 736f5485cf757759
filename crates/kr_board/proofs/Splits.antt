-- A seat that steals from itself: it fits, and the rest is after its mark.
use Rattle.std.proofs.Common.{◌≡◌, ℕ, ◌-◌, ◌^◌, List, [], Bool, true, false, ◌&&◌, not, refl, sym, ap, ◌∙◌, Option, Some, None}
use Rattle.std.specs.Prelude.{if◌then◌else◌, nat_lt}
use Rattle.std.specs.Option.{option_map}
use Rattle.std.proofs.lemmas.Bool.{and_from, not-true, ltb-true}
use Rattle.kr_base.specs.declared.span.Bound.{Bound}
use Rattle.kr_base.specs.declared.span.Bound.TheVariants.{At, End}
use Rattle.kr_base.specs.Bounds.{less, is_same}
use Rattle.kr_base.specs.Inside.{inside_of}
use Rattle.kr_base.proofs.Bounds.{connected, less_from_before}
use Rattle.kr_base.proofs.Insides.{inside}
use Rattle.kr_core.specs.declared.segment.Segment.{Segment}
use Rattle.kr_core.specs.declared.event.Event.TheVariants.{Steal}
use Rattle.kr_core.specs.declared.event.Lease.{Lease}
use Rattle.kr_core.specs.States.{State, is_owned, is_owned_by, segment_of}
use Rattle.kr_core.specs.declared.event.Reply.TheVariants.{Lease as Leased}
use Rattle.kr_core.specs.Steps.{fits, may_steal, stolen, IsLeased}
use Rattle.kr_core.proofs.Bools.{and-left, and-right, owner_known}
use Rattle.kr_board.specs.Held.{Held}
use Rattle.kr_board.specs.Boards.{Adds, Stays}
use Rattle.kr_board.specs.Splitting.{split_at, split_in, split_of}
use Rattle.kr_board.proofs.Staying.{quiet_stays}
use Rattle.kr_board.proofs.Grants.{next-below}
use Rattle.kr_board.proofs.Reports.{other-cut, same-cut as same_cut}

-- the same cut
same-cut : (m k : List ℕ) → is_same (At m) (At k) ≡ true → At m ≡ At k
same-cut m k h =
    connected (At m) (At k) (not-true (less (At m) (At k)) (and-left (not (less (At m) (At k))) (not (less (At k) (At m))) h)) (not-true (less (At k) (At m)) (and-right (not (less (At m) (At k))) (not (less (At k) (At m))) h))

between : (mark : Bound) (upto : Bound) (lease : Lease) (cut : List ℕ) → split_at mark upto lease ≡ Some cut → ((less mark (At cut) && less (At cut) upto) ≡ true) × (less (At lease.mark) (At cut) ≡ true)
between End upto lease cut h = absurd (cc (h))
between (At m) upto lease cut h =
    elim (is_same (At m) (At lease.mark)) as (λ b. is_same (At m) (At lease.mark) ≡ b → (if b then inside_of m upto else None) ≡ Some cut → ((less (At m) (At cut) && less (At cut) upto) ≡ true) × (less (At lease.mark) (At cut) ≡ true)) [
      | true ↦ λ e q.
          let p = inside m cut upto q in
          let ahead = less_from_before m cut p.0 in
          (and_from (less (At m) (At cut)) (less (At cut) upto) ahead p.1, ap (λ (b : Bound). less b (At cut)) (sym (same-cut m lease.mark e)) ∙ ahead)
      | false ↦ λ e q. absurd (cc (q))
    ] refl h

owned-between : (o : Option Segment) (lease : Lease) (cut : List ℕ) → split_in o lease ≡ Some cut → (may_steal cut o ≡ true) × (less (At lease.mark) (At cut) ≡ true)
owned-between None lease cut h = absurd (cc (h))
owned-between (Some g) lease cut h =
    elim (is_owned_by lease.seat g.owner) as (λ b. is_owned_by lease.seat g.owner ≡ b → (if b then split_at g.mark g.upto lease else None) ≡ Some cut → ((is_owned g.owner && (less g.mark (At cut) && less (At cut) g.upto)) ≡ true) × (less (At lease.mark) (At cut) ≡ true)) [
      | true ↦ λ e q.
          let p = between g.mark g.upto lease cut q in
          (and_from (is_owned g.owner) (less g.mark (At cut) && less (At cut) g.upto) (owner_known lease.seat g.owner e) p.0, p.1)
      | false ↦ λ e q. absurd (cc (q))
    ] refl h

pub split_steps : (s : State) (lease : Lease) (cut : List ℕ) → split_of s lease ≡ Some cut → (fits s (Steal lease.seat lease.segment cut s.next) ≡ true) × (less (At lease.mark) (At cut) ≡ true)
split_steps s lease cut h =
    elim (nat_lt s.next (2 ^ 64 - 1)) as (λ b. nat_lt s.next (2 ^ 64 - 1) ≡ b → (if b then split_in (segment_of lease.segment s.segments) lease else None) ≡ Some cut
    → (fits s (Steal lease.seat lease.segment cut s.next) ≡ true) × (less (At lease.mark) (At cut) ≡ true)) [
      | true ↦ λ e q.
          let p = owned-between (segment_of lease.segment s.segments) lease cut q in
          (and_from (may_steal cut (segment_of lease.segment s.segments)) _ p.0 (next-below s.next (ltb-true s.next (2 ^ 64 - 1) e)), p.1)
      | false ↦ λ e q. absurd (cc (q))
    ] refl h

at-cut : (a b : List ℕ) → At a ≡ At b → a ≡ b
at-cut a b h = cc (h)

-- the lease of the rest is the seat's, from the cut on
pub rest_is : (seat n : ℕ) (cut : List ℕ) (o : Option Segment) (rest : Lease) → IsLeased seat (option_map (stolen seat cut n) o) (Leased rest) → (rest.seat ≡ seat) × (rest.mark ≡ cut)
rest_is seat n cut None rest h = absurd h
rest_is seat n cut (Some g) rest h = (h.0, at-cut rest.mark cut h.2)

pub split_there : (mark : Bound) (m : List ℕ) (upto : Bound) (lease : Lease) → mark ≡ At m → m ≡ lease.mark → inside_of m upto ≡ split_at mark upto lease
split_there mark m upto lease at same =
    sym (ap (λ (b : Bound). split_at b upto lease) at ∙ ap (λ (b : Bool). if b then inside_of m upto else None) (same_cut m lease.mark same))

pub split_other : (mark : Bound) (m : List ℕ) (upto : Bound) (lease : Lease) → mark ≡ At m → (m ≡ lease.mark → ⊥) → None ≡ split_at mark upto lease
split_other mark m upto lease at differ =
    sym (ap (λ (b : Bound). split_at b upto lease) at ∙ ap (λ (b : Bool). if b then inside_of m upto else None) (other-cut m lease.mark differ))

-- the rest: whose it is, from where on, after the mark; and the board stays its survey's
pub record IsRest {R : Type 0} (old : Held R) (lease rest : Lease) (cut : List ℕ) (new : Held R) : Type 0 where
  pub seat : rest.seat ≡ lease.seat
  pub mark : rest.mark ≡ cut
  pub ahead : less (At lease.mark) (At rest.mark) ≡ true
  pub stays : Stays old new

pub rest_there : {R : Type 0} (old : Held R) (lease rest : Lease) (cut : List ℕ) (new : Held R) → split_of old.core lease ≡ Some cut → Adds old (Steal lease.seat lease.segment cut old.core.next) (Leased rest) [] new
    → IsRest old lease rest cut new
rest_there {R} old lease rest cut new h adds =
    let p = rest_is lease.seat old.core.next cut (segment_of lease.segment old.core.segments) rest adds.step.reply_is in
    record {
      seat = p.0;
      mark = p.1;
      ahead = ap (λ (k : List ℕ). less (At lease.mark) (At k)) p.1 ∙ (split_steps old.core lease cut h).1;
      stays = quiet_stays old (Steal lease.seat lease.segment cut old.core.next) (Leased rest) [] new tt adds;
    }
