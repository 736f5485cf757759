-- Between crates: rests that a seat cuts off what it has left, and gives up for others.
use Rattle.std.specs.Prelude.{◌≡◌, ◌≤◌, ℕ, zero, suc, Bool, nat_lt, [], Some}
use Rattle.kr_base.specs.declared.span.Bound.TheVariants.{At}
use Rattle.kr_core.specs.declared.event.Event.TheVariants.{Steal, GiveUp}
use Rattle.kr_core.specs.declared.event.Lease.{Lease}
use Rattle.kr_core.specs.declared.event.Reply.TheVariants.{Lease as Leased, Noted}
use Rattle.kr_board.specs.Boards.{Adds}
use Rattle.kr_board.specs.Held.{Held}
use Rattle.kr_board.specs.Splitting.{split_of}

-- The seat steals from itself at the cut inside what it has left, and gives the rest up; its lease goes up to the cut then.
pub record CutsOff {R : Type 0} (old : Held R) (lease : Lease) (new : Held R) (next : Lease) : Type 0 where
  pub middle : Held R
  pub rest : Lease
  pub cut : split_of old.core lease ≡ Some rest.mark
  pub stolen : Adds old (Steal lease.seat lease.segment rest.mark old.core.next) (Leased rest) [] middle
  pub given : Adds middle (GiveUp lease.seat rest.segment) Noted [] new
  pub next_is : next ≡ record lease { upto = At rest.mark }

-- so many rests, one after another
abbrev pub CutOff : {R : Type 0} → ℕ → Held R → Lease → Held R → Lease → Type 0
CutOff zero old lease new next = (new ≡ old) × (next ≡ lease)
CutOff {R} (suc n) old lease new next = (middle : Held R) × (here : Lease) × CutsOff old lease middle here × CutOff n middle here new next

-- at most so many, and whether there was one
pub record LaysOut {R : Type 0} (most : ℕ) (old : Held R) (lease : Lease) (new : Held R) (next : Lease) (some : Bool) : Type 0 where
  pub count : ℕ
  pub few : count ≤ most
  pub some_is : some ≡ nat_lt 0 count
  pub cuts : CutOff count old lease new next
