-- Rests that are cut off and given up, one after another.
use Rattle.std.proofs.Common.{◌≡◌, ℕ, zero, suc, ◌+◌, ◌↔◌, List, [], Bool, true, false, refl, sym, ap, ◌∙◌, subst, arith, Some}
use Rattle.std.specs.Prelude.{nat_lt}
use Rattle.std.proofs.lemmas.Bool.Decides.{nat_tests}
use Rattle.kr_base.specs.declared.span.Bound.TheVariants.{At}
use Rattle.kr_base.specs.declared.span.Span.{Span}
use Rattle.kr_base.specs.declared.entry.Entry.{Entry}
use Rattle.kr_core.specs.declared.event.Event.{Event}
use Rattle.kr_core.specs.declared.event.Event.TheVariants.{Steal, GiveUp}
use Rattle.kr_core.specs.declared.event.Lease.{Lease}
use Rattle.kr_core.specs.declared.event.Reply.TheVariants.{Lease as Leased, Noted}
use Rattle.kr_core.specs.States.{segment_of}
use Rattle.kr_core.specs.Steps.{may_give_up}
use Rattle.kr_core.specs.Leases.{IsHeld}
use Rattle.kr_core.specs.Openings.{opening}
use Rattle.kr_core.proofs.Holding.{leases_law}
use Rattle.kr_board.specs.Held.{Held}
use Rattle.kr_board.specs.Boards.{Adds}
use Rattle.kr_board.specs.Splitting.{split_of}
use Rattle.kr_board.specs.declared.board.releasing.GivenUp.{GivenUp}
use Rattle.kr_board.specs.declared.board.releasing.GivenUp.TheVariants.{Released, Gone}
use Rattle.kr_board.proofs.Disowning.{owner_fits}
use Rattle.kr_pool_desk.specs.Laying.{CutsOff, CutOff, LaysOut}
use Rattle.kr_pool_desk.specs.Runs.{IsRun}
use Rattle.kr_pool_desk.proofs.Honest.{runs_from_honest}

-- who steals owns what it stole, and may give it up
pub stolen_fits : {R : Type 0} (all : List (Entry R)) (span : Span) (cuts : List (List ℕ)) (ops : List Event) (workers calls seat victim : ℕ) (cut : List ℕ) (old new : Held R) (rest : Lease)
    → IsRun all span cuts ops workers old calls → Adds old (Steal seat victim cut old.core.next) (Leased rest) [] new → may_give_up seat (segment_of rest.segment new.core.segments) ≡ true
stolen_fits all span cuts ops workers calls seat victim cut old new rest k adds =
    let runs = runs_from_honest all (opening span cuts) old.log old.core k.board.honest in
    let held : IsHeld seat old.core.next new.core rest = leases_law span cuts old.log old.core (Steal seat victim cut old.core.next) (Leased rest) new.core k.inside runs adds.step in
    ap (λ (n : ℕ). may_give_up seat (segment_of n new.core.segments)) held.number ∙ owner_fits seat old.core.next new.core.segments held.segment held.found held.owner

released-if : (r : GivenUp) (b : Bool) → b ≡ true → (r ≡ Gone) ↔ (b ≡ false) → r ≡ Released
released-if Released b q e = refl
released-if Gone b q e = absurd (cc (sym q ∙ e.0 refl))

-- what was stolen, given up
pub cuts_off : {R : Type 0} (seat : ℕ) (old middle new : Held R) (lease rest : Lease) (given : GivenUp) → lease.seat ≡ seat → split_of old.core lease ≡ Some rest.mark
    → Adds old (Steal seat lease.segment rest.mark old.core.next) (Leased rest) [] middle → may_give_up seat (segment_of rest.segment middle.core.segments) ≡ true
    → (given ≡ Gone) ↔ (may_give_up seat (segment_of rest.segment middle.core.segments) ≡ false) → (given ≡ Released → Adds middle (GiveUp seat rest.segment) Noted [] new) → CutsOff old lease new (record lease { upto = At rest.mark })
cuts_off {R} seat old middle new lease rest given is cut stolen owned gone adds = record {
  middle = middle;
  rest = rest;
  cut = cut;
  stolen = subst (λ (s : ℕ). Adds old (Steal s lease.segment rest.mark old.core.next) (Leased rest) [] middle) (sym is) stolen;
  given = subst (λ (s : ℕ). Adds middle (GiveUp s rest.segment) Noted [] new) (sym is) (adds (released-if given (may_give_up seat (segment_of rest.segment middle.core.segments)) owned gone));
  next_is = refl;
}

-- one
pub lays_one : {R : Type 0} (old new : Held R) (lease next : Lease) → CutsOff old lease new next → LaysOut 1 old lease new next true
lays_one old new lease next off = record { count = 1; few = omega arith; some_is = refl; cuts = (new, next, off, (refl, refl)) }

-- more after them

cut-append : {R : Type 0} (n k m : ℕ) (a b d : Held R) (l i p : Lease) → m ≡ n + k → CutOff n a l b i → CutOff k b i d p → CutOff m a l d p
cut-append {R} zero k m a b d l i p is h j =
    let e : k ≡ m = omega (arith, is) in
    subst (λ (n : ℕ). CutOff n a l d p) e (subst (λ (x : Held R). CutOff k x l d p) h.0 (subst (λ (y : Lease). CutOff k b y d p) h.1 j))
cut-append {R} (suc n) k zero a b d l i p is h j = absurd (omega (arith, is))
cut-append {R} (suc n) k (suc m) a b d l i p is h j = (h.0, h.1, h.2, cut-append n k m h.0 b d h.1 i p (omega (arith, is)) h.3 j)

some-more : (n k : ℕ) → true ≡ nat_lt 0 n → true ≡ nat_lt 0 (n + k)
some-more n k h = grind (arith, nat_tests)

pub lays_more : {R : Type 0} (most more : ℕ) (a b d : Held R) (l i p : Lease) (some : Bool) → LaysOut most a l b i true → LaysOut more b i d p some → LaysOut (most + more) a l d p true
lays_more most more a b d l i p some h j = record {
  count = h.count + j.count;
  few = let x = h.few in let y = j.few in omega (arith, x, y);
  some_is = some-more h.count j.count h.some_is;
  cuts = cut-append h.count j.count (h.count + j.count) a b d l i p refl h.cuts j.cuts;
}

pub lays_three : {R : Type 0} (a b d e : Held R) (l i p q : Lease) (x y z : Bool) → x ≡ true → y ≡ true → LaysOut 1 a l b i x → LaysOut 1 b i d p y → LaysOut 1 d p e q z → LaysOut 3 a l e q true
lays_three {R} a b d e l i p q x y z hx hy f g h =
    lays_more 2 1 a d e l p q z (lays_more 1 1 a b d l i p true (subst (λ (t : Bool). LaysOut 1 a l b i t) hx f) (subst (λ (t : Bool). LaysOut 1 b i d p t) hy g)) h
