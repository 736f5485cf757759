use Rattle.std.proofs.Common.{◌≡◌, ◌∙◌, List, ap, arith, length}
use Rattle.kr_core.specs.declared.segment.Segment.{Segment}
use Rattle.kr_board.specs.Held.{Held}
use Rattle.kr_board.proofs.Disowning.{released_init, released_next, released_length, released_all}
use Rattle.kr_board.proofs.board.Board.release_all.Goals as goal

pub loop-i-init : goal.loop-i-init
loop-i-init g c = released_init c.args.self.now

pub release_at-requires : goal.release_at-requires
release_at-requires g c =
    let old = c.args.self.now in
    let seen : length c.segments-count.result.now ≡ length old.core.segments =
    ap (λ (ss : List Segment). length ss) (c.segments-count.ensures ∙ ap (λ (o : Held g.row.R.Denot). o.core.segments) c.self.view_is) in
    let test = c.loop-i-test.true in
    released_length old c.loop-i.self c.loop-i.i (omega (arith, seen, test)) c.loop-i.invariant

pub loop-i-preserved : goal.loop-i-preserved
loop-i-preserved g c =
    let old = c.args.self.now in
    let seen : length c.segments-count.result.now ≡ length old.core.segments =
    ap (λ (ss : List Segment). length ss) (c.segments-count.ensures ∙ ap (λ (o : Held g.row.R.Denot). o.core.segments) c.self.view_is) in
    let test = c.loop-i-test.true in
    released_next old c.loop-i.self c.release_at.new.self c.loop-i.i (omega (arith, seen, test)) c.loop-i.invariant c.release_at.ensures

pub returns-clause-released : goal.returns-clause-released
returns-clause-released g c =
    let old = c.args.self.now in
    let seen : length c.segments-count.result.now ≡ length old.core.segments =
    ap (λ (ss : List Segment). length ss) (c.segments-count.ensures ∙ ap (λ (o : Held g.row.R.Denot). o.core.segments) c.self.view_is) in
    let test = c.loop-i-test.false in
    released_all old c.loop-i.self c.loop-i.i (omega (arith, seen, test)) c.loop-i.invariant
