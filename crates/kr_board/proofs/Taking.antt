-- What `take` says of its answer, by what was added.
use Rattle.std.proofs.Common.{◌≡◌, ◌↔◌, ℕ, ◌-◌, ◌^◌, ◌<◌, List, [], true, false, refl, sym, ap, ◌∙◌, subst, Option, Some, None, Result, Ok, Err}
use Rattle.std.specs.Prelude.{IfOk, OnOk, if◌then◌else◌, is_some}
use Rattle.std.specs.List.{find}
use Rattle.kr_core.specs.declared.segment.Segment.{Segment}
use Rattle.kr_core.specs.declared.event.Event.{Event}
use Rattle.kr_core.specs.declared.event.Event.TheVariants.{Take, Steal, Look}
use Rattle.kr_core.specs.declared.event.Lease.{Lease}
use Rattle.kr_core.specs.declared.event.Reply.{Reply}
use Rattle.kr_core.specs.declared.event.Reply.TheVariants.{Noted}
use Rattle.kr_core.specs.States.{State}
use Rattle.kr_core.specs.Steps.{IsLeased}
use Rattle.kr_core.specs.Counts.{AllClosed}
use Rattle.kr_board.specs.declared.board.taking.Taken.{Taken}
use Rattle.kr_board.specs.declared.board.taking.Taken.TheVariants.{Lease as Leased, Later, Finished}
use Rattle.kr_board.specs.Held.{Held}
use Rattle.kr_board.specs.Boards.{Adds, Stays}
use Rattle.kr_board.specs.Taking.{theft_of, first_free, first_victim, take_event, reply_of, any_owned, IsLater}
use Rattle.kr_board.proofs.Staying.{quiet_stays}
use Rattle.kr_board.proofs.Grants.{take_free, take_theft, take_look, lease_of_free, lease_of_theft, nothing_given}

pub record IsTaken {R E : Type 0} (seat : ℕ) (old : Held R) (r : Result Taken E) (new : Held R) : Type 0 where
  pub event : IfOk r (λ t. Adds old (take_event seat old.core) (reply_of t) [] new)
  pub later : IfOk r (λ t. (t ≡ Later) ↔ IsLater old.core)
  pub finished : IfOk r (λ t. (t ≡ Finished) ↔ AllClosed old.core)
  pub stays : OnOk r (Stays old new)

-- an answer that carries the machine's lease is a lease
lease-there : (seat : ℕ) (o : Option Segment) (t : Taken) → IsLeased seat o (reply_of t) → (l : Lease) × (t ≡ Leased l)
lease-there seat o (Leased l) h = (l, refl)
lease-there seat o Later h = absurd h
lease-there seat o Finished h = absurd h

pub free_taken : {R E : Type 0} (seat : ℕ) (old : Held R) (r : Result Taken E) (new : Held R) (g : Segment) → first_free old.core ≡ Some g → IfOk r (λ t. Adds old (Take seat g.number) (reply_of t) [] new) → IsTaken seat old r new
free_taken seat old (Err e) new g found adds = record { event = tt; later = tt; finished = tt; stays = tt }
free_taken {R} seat old (Ok t) new g found adds =
    let l = lease-there seat _ t adds.step.reply_is in
    let both = lease_of_free old.core g t l.0 l.1 found in
    record {
      event = subst (λ (e : Event). Adds old e (reply_of t) [] new) (sym (take_free old.core seat g found)) adds;
      later = both.0;
      finished = both.1;
      stays = quiet_stays old (Take seat g.number) (reply_of t) [] new tt adds;
    }

pub theft_taken : {R E : Type 0} (seat : ℕ) (old : Held R) (r : Result Taken E) (new : Held R) (g : Segment) (cut : List ℕ) → first_free old.core ≡ None → old.core.next < 2 ^ 64 - 1
    → find (λ x. is_some (theft_of x)) old.core.segments ≡ Some g → theft_of g ≡ Some cut → IfOk r (λ t. Adds old (Steal seat g.number cut old.core.next) (reply_of t) [] new) → IsTaken seat old r new
theft_taken seat old (Err e) new g cut none room found theft adds = record { event = tt; later = tt; finished = tt; stays = tt }
theft_taken {R} seat old (Ok t) new g cut none room found theft adds =
    let l = lease-there seat _ t adds.step.reply_is in
    let both = lease_of_theft old.core g t l.0 l.1 room found in
    record {
      event = subst (λ (e : Event). Adds old e (reply_of t) [] new) (sym (take_theft old.core seat g cut none room found theft)) adds;
      later = both.0;
      finished = both.1;
      stays = quiet_stays old (Steal seat g.number cut old.core.next) (reply_of t) [] new tt adds;
    }

noted-there : (s : State) (t : Taken) → t ≡ (if any_owned s then Later else Finished) → reply_of t ≡ Noted
noted-there s t h = ap reply_of h ∙ elim (any_owned s) as (λ b. reply_of (if b then Later else Finished) ≡ Noted) [ true ↦ refl | false ↦ refl ]

pub look_taken : {R E : Type 0} (seat : ℕ) (old : Held R) (r : Result Taken E) (new : Held R) → first_free old.core ≡ None → first_victim old.core ≡ None → OnOk r (Adds old (Look seat) Noted [] new)
    → IfOk r (λ t. t ≡ (if any_owned old.core then Later else Finished)) → IsTaken seat old r new
look_taken seat old (Err e) new none no_victim adds is = record { event = tt; later = tt; finished = tt; stays = tt }
look_taken {R} seat old (Ok t) new none no_victim adds is =
    let both = nothing_given old.core t none no_victim is in
    record {
      event = subst (λ (e : Event). Adds old e (reply_of t) [] new) (sym (take_look old.core seat none no_victim)) (subst (λ (x : Reply). Adds old (Look seat) x [] new) (sym (noted-there old.core t is)) adds);
      later = both.0;
      finished = both.1;
      stays = quiet_stays old (Look seat) Noted [] new tt adds;
    }
