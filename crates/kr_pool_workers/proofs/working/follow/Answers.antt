use Rattle.std.proofs.Common.{ℕ, refl, sym, subst, ◌∙◌}
use Rattle.kr_pool_desk.specs.Leasing.{IsLeaseOf}
use Rattle.kr_pool_desk.specs.Short.{IsShortRun}
use Rattle.kr_pool_workers.proofs.working.follow.Goals as goal

pub loop-preserved : goal.loop-preserved
loop-preserved g c = (
  tt,
  tt,
  subst (λ (n : ℕ). IsLeaseOf (IsShortRun g.N.Run.all g.N.Run.span g.N.Run.cuts) n c.in-Go.next) (sym c.turn.ensures.number) (c.in-Go.ensures.lease c.in-Go.next refl),
  c.turn.ensures.made,
  c.turn.ensures.number ∙ c.loop.invariant.4,
)
