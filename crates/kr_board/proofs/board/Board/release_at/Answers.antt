use Rattle.std.proofs.Common.{◌≡◌, ◌∙◌, List, ap, get_or, subst}
use Rattle.kr_core.specs.declared.segment.Segment.{Segment}
use Rattle.kr_core.specs.Kept.{NumbersDiffer}
use Rattle.kr_board.specs.Held.{Held}
use Rattle.kr_board.proofs.Disowning.{segment_at, owner_fits, released_some}
use Rattle.kr_board.proofs.board.Board.release_at.Goals as goal

pub release-requires : goal.release-requires
release-requires g c =
    let segs = c.args.self.now.core.segments in
    let one = c.index-segments-i.result in
    let seen : c.segments.result.now ≡ segs = c.segments.ensures ∙ ap (λ (o : Held g.row.R.Denot). o.core.segments) c.self.view_is in
    let there : one ≡ get_or segs c.args.i one = c.index-segments-i.is ∙ ap (λ (ss : List Segment). get_or ss c.args.i one) seen in
    let differ : NumbersDiffer segs = subst (λ (o : Held g.row.R.Denot). NumbersDiffer o.core.segments) c.self.view_is c.self.invariant.0.core_kept.differ in
    owner_fits c.in-Some.seat one.number segs one (segment_at segs c.args.i one differ c.requires there) c.in-Some.is

pub returns-in-Some : goal.returns-in-Some
returns-in-Some g c =
    let segs = c.args.self.now.core.segments in
    let one = c.index-segments-i.result in
    let seen : c.segments.result.now ≡ segs = c.segments.ensures ∙ ap (λ (o : Held g.row.R.Denot). o.core.segments) c.self.view_is in
    let there : one ≡ get_or segs c.args.i one = c.index-segments-i.is ∙ ap (λ (ss : List Segment). get_or ss c.args.i one) seen in
    let differ : NumbersDiffer segs = subst (λ (o : Held g.row.R.Denot). NumbersDiffer o.core.segments) c.self.view_is c.self.invariant.0.core_kept.differ in
    released_some c.args.self.now c.release.new.self c.args.i c.in-Some.seat one differ c.requires there c.in-Some.is c.release.ensures
