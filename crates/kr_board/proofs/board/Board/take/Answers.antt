use Rattle.std.proofs.Common.{◌≡◌, ◌∙◌, List, ap, sym, subst, Some}
use Rattle.std.specs.List.{find}
use Rattle.kr_core.specs.declared.segment.Segment.{Segment}
use Rattle.kr_core.specs.Kept.{IsKept}
use Rattle.kr_board.specs.Held.{Held}
use Rattle.kr_board.specs.Taking.{is_free, first_free}
use Rattle.kr_board.proofs.Grants.{free_fits}
use Rattle.kr_board.proofs.Taking.{free_taken}
use Rattle.kr_board.proofs.board.Board.take.Goals as goal

pub grant-requires : goal.grant-requires
grant-requires g c =
    let now = c.args.self.now in
    let seen : c.segments.result.now ≡ now.core.segments = c.segments.ensures ∙ ap (λ (o : Held g.row.R.Denot). o.core.segments) c.self.view_is in
    let found : first_free now.core ≡ Some c.in-Some.segment.now = ap (λ (ss : List Segment). find is_free ss) (sym seen) ∙ c.in-Some.ensures.some in
    free_fits now.core c.args.seat c.in-Some.segment.now (subst (λ (o : Held g.row.R.Denot). IsKept o.core) c.self.view_is c.self.invariant.0.core_kept) found

pub returns-in-Some-clause-finished : goal.returns-in-Some-clause-finished
returns-in-Some-clause-finished g c =
    let now = c.args.self.now in
    let seen : c.segments.result.now ≡ now.core.segments = c.segments.ensures ∙ ap (λ (o : Held g.row.R.Denot). o.core.segments) c.self.view_is in
    let found : first_free now.core ≡ Some c.in-Some.segment.now = ap (λ (ss : List Segment). find is_free ss) (sym seen) ∙ c.in-Some.ensures.some in
    (free_taken c.args.seat now c.grant.result c.grant.new.self c.in-Some.segment.now found c.grant.ensures.added).finished

pub returns-in-Some-clause-stays : goal.returns-in-Some-clause-stays
returns-in-Some-clause-stays g c =
    let now = c.args.self.now in
    let seen : c.segments.result.now ≡ now.core.segments = c.segments.ensures ∙ ap (λ (o : Held g.row.R.Denot). o.core.segments) c.self.view_is in
    let found : first_free now.core ≡ Some c.in-Some.segment.now = ap (λ (ss : List Segment). find is_free ss) (sym seen) ∙ c.in-Some.ensures.some in
    (free_taken c.args.seat now c.grant.result c.grant.new.self c.in-Some.segment.now found c.grant.ensures.added).stays
