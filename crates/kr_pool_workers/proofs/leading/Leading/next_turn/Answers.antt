use Rattle.std.proofs.Common.{ℕ, sym, subst}
use Rattle.kr_pool_desk.specs.Leasing.{IsLeaseOf}
use Rattle.kr_pool_desk.specs.Short.{IsShortRun}
use Rattle.kr_pool_workers.proofs.leading.Leading.next_turn.Goals as goal

pub returns-then-is_keeping-clause-lease : goal.returns-then-is_keeping-clause-lease
returns-then-is_keeping-clause-lease g c next e = subst (λ (n : ℕ). IsLeaseOf (IsShortRun g.N.Run.all g.N.Run.span g.N.Run.cuts) n next) (sym c.hand_in.ensures.number) (c.hand_in.ensures.lease next e)

pub returns-in-Some-clause-lease : goal.returns-in-Some-clause-lease
returns-in-Some-clause-lease g c next e = subst (λ (n : ℕ). IsLeaseOf (IsShortRun g.N.Run.all g.N.Run.span g.N.Run.cuts) n next) (sym c.turn.ensures.number) (c.turn.ensures.lease next e)
