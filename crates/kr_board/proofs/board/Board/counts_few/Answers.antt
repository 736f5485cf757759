use Rattle.std.proofs.Common.{subst}
use Rattle.kr_survey.specs.Joins.{lists}
use Rattle.kr_board.specs.Held.{Held}
use Rattle.kr_board.specs.Windows.{CountsFew}
use Rattle.kr_board.proofs.Windows.{counts_few}
use Rattle.kr_board.proofs.board.Board.counts_few.Goals as goal

pub returns : goal.returns
returns g c =
    subst (λ (o : Held g.row.R.Denot). CountsFew o.window o.core) c.self.view_is (counts_few c.self.inside.window c.self.inside.core (lists c.self.inside.kept.items) c.self.invariant.0.counted c.self.invariant.1)
