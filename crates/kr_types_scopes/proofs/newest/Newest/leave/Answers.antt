use Rattle.std.proofs.Common.{◌-◌, arith}
use Rattle.std.proofs.lemmas.Option.{slice_get-get_or}
use Rattle.kr_types_scopes.proofs.Entered.{below_at, left}
use Rattle.kr_types_scopes.proofs.newest.Newest.leave.Goals as goal

pub returns-clause-noted : goal.returns-clause-noted
returns-clause-noted c =
    let bs = c.args.bindings.now in
    let at = c.args.self.now.at in
    left c.args.tree.now bs c.requires.chain c.args.self.now c.restore.new.self _ c.name.result.now c.requires.noted c.requires.at (slice_get-get_or bs (at - 1) _ (omega (arith, c.requires.at, c.requires.noted.within))) c.name.ensures
    c.restore.ensures.outer c.restore.ensures.index c.restore.ensures.restored

pub returns-clause-less : goal.returns-clause-less
returns-clause-less c =
    let bs = c.args.bindings.now in
    let at = c.args.self.now.at in
    below_at c.args.tree.now bs c.requires.chain at _ c.requires.at (slice_get-get_or bs (at - 1) _ (omega (arith, c.requires.at, c.requires.noted.within)))
