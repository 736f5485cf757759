use Rattle.std.proofs.Common.{◌≡◌, ◌∙◌, true, sym, subst}
use Rattle.kr_survey.specs.declared.part.Listing.{Listing}
use Rattle.kr_survey.specs.Joins.{lists}
use Rattle.kr_board.specs.Held.{Held}
use Rattle.kr_board.specs.Closing.{all_closed, IsListing, Lists}
use Rattle.kr_board.proofs.Sound.{aligned}
use Rattle.kr_board.proofs.Draining.{listed}
use Rattle.kr_board.proofs.board.Board.close_with_log.Goals as goal

pub returns-clause-listing : goal.returns-clause-listing
returns-clause-listing g c =
    let core = c.self.inside.core in
    let kept = lists c.self.inside.kept.items in
    let old : Held g.row.R.Denot = record { core = core; kept = kept; log = c.self.inside.log.items; window = c.self.inside.window } in
    let l : Listing g.row.R.Denot = record { rows = c.new.result; tried = c.tried-tried.result; spent = c.spent_key.result } in
    let closed : all_closed core ≡ true = subst (λ (o : Held g.row.R.Denot). all_closed o.core ≡ true) (sym c.self.view_is) (sym c.is_finished.ensures ∙ c.if-not-is_finished.false) in
    let is : IsListing old l = record { rows = c.new.ensures; tried = c.tried-tried.ensures; spent = c.spent_key.ensures } in
    subst (λ (o : Held g.row.R.Denot). IsListing o l × Lists o l) c.self.view_is (is, listed old l (aligned core kept c.self.inside.log c.self.invariant.0) closed is)
