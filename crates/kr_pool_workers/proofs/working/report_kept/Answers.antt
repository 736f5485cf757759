use Rattle.std.proofs.Common.{ℕ, refl, sym, subst}
use Rattle.kr_pool_desk.specs.Leasing.{IsLeaseOf}
use Rattle.kr_pool_desk.specs.Short.{IsShortRun}
use Rattle.kr_pool_workers.proofs.working.report_kept.Goals as goal

pub follow-requires-clause-lease : goal.follow-requires-clause-lease
follow-requires-clause-lease g c κs within = subst (λ (n : ℕ). IsLeaseOf (IsShortRun g.N.Run.all g.N.Run.span g.N.Run.cuts) n c.in-Go.next) (sym c.hand_in.ensures.number) (c.in-Go.ensures.lease c.in-Go.next refl)
