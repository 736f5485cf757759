use Rattle.std.proofs.Common.{sym, ◌∙◌}
use Rattle.kr_deque.proofs.Empty.{lists_none}
use Rattle.kr_deque.proofs.listing.list_deque.Goals as goal

pub returns-then-not-is_above_cut : goal.returns-then-not-is_above_cut
returns-then-not-is_above_cut g c =
    let none = c.nothing.ensures in
    lists_none (g.S.Survey.all c.args.survey.now) c.args.span c.nothing.result (sym c.is_above_cut.ensures ∙ c.if-not-is_above_cut.true) none.0 none.1 none.2
