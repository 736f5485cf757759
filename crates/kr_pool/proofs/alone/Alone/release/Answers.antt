use Rattle.std.proofs.Common.{List, Option, ℕ, ◌+◌, ◌≡◌, length, ap, arith, sym, subst, ◌∙◌}
use Rattle.kr_board.specs.Held.{Held}
use Rattle.kr_board.specs.Releasing.{given_up}
use Rattle.kr_board.specs.Windows.{CountsFew}
use Rattle.kr_core.specs.Rows.{drained}
use Rattle.kr_survey.specs.Joins.{joined}
use Rattle.kr_pool_desk.specs.Draining.{rows_kept}
use Rattle.kr_pool_desk.specs.Limits.{IsWanted}
use Rattle.kr_pool_desk.proofs.Released.{released, released-drained, no-fewer}
use Rattle.kr_pool.proofs.Owned.{released_keeps, released_within}
use Rattle.kr_pool.proofs.alone.Alone.release.Goals as goal

pub invariant_of-self : goal.invariant_of-self
invariant_of-self g c =
    let n = g.N.Run in
    let k = c.self.invariant.run in
    let old = c.self.inside.board in
    let new = c.release_all.new.self in
    let is = c.release_all.ensures.released in
    let calls = c.self.invariant.calls + length (given_up old.core.segments) in
    let more = no-fewer old new is in
    record {
      calls = calls;
      run = released n.all n.span n.cuts n.opening g.N.Crew.workers c.self.invariant.calls calls old new k is (c.release_all.ensures.stays n.all n.span n.cuts k.ascends k.inside k.board) (omega (arith, more));
      left = subst (λ (d : ℕ). IsWanted n.limit d c.self.inside.wanted) (sym (released-drained old new is)) c.self.invariant.left;
      begun = released_within n.limit old new is c.self.invariant.begun;
      window_is = is.window ∙ c.self.invariant.window_is;
      kept = released_keeps n.window _ old new is k.board.replays (subst (λ (o : Option ℕ). CountsFew o old.core) c.self.invariant.window_is c.counts_few.ensures) c.self.invariant.kept;
      some = c.self.invariant.some;
    }

pub returns-clause-drained : goal.returns-clause-drained
returns-clause-drained g c = released-drained c.self.inside.board c.release_all.new.self c.release_all.ensures.released ∙ ap (λ (v : Held g.row.R.Denot). drained v.log) c.self.view_is

pub returns-clause-kept : goal.returns-clause-kept
returns-clause-kept g c = ap (λ (ks : List (List g.row.R.Denot)). length (joined ks)) c.release_all.ensures.released.kept ∙ ap (λ (v : Held g.row.R.Denot). rows_kept v) c.self.view_is
