use Rattle.kr_board.proofs.Splits.{split_steps, rest_there}
use Rattle.kr_board.proofs.board.Board.steal_own.Goals as goal

pub steal-requires : goal.steal-requires
steal-requires g c = (split_steps c.args.self.now.core c.args.lease.now c.args.cut c.requires).0

pub returns-clause-ahead : goal.returns-clause-ahead
returns-clause-ahead g c =
    let added = rw c.in-Lease.is at c.in_ok-rest.ensures.added in
    (rest_there c.args.self.now c.args.lease.now c.in-Lease.rest c.args.cut c.steal.new.self c.requires added).ahead

pub returns-clause-stays : goal.returns-clause-stays
returns-clause-stays g c =
    let added = rw c.in-Lease.is at c.in_ok-rest.ensures.added in
    (rest_there c.args.self.now c.args.lease.now c.in-Lease.rest c.args.cut c.steal.new.self c.requires added).stays
