use Rattle.kr_pool_desk.proofs.Laid.{lays_three}
use Rattle.kr_pool_desk.proofs.desk.Desk.lay_out.Goals as goal

pub returns-clause-laid : goal.returns-clause-laid
returns-clause-laid g c =
    let one = c.cut_off-first in
    let two = c.cut_off-second in
    let three = c.cut_off-third in
    lays_three c.args.self.now.0 one.new.self.0 two.new.self.0 three.new.self.0 c.args.lease one.result.0 two.result.0 three.result.0 one.result.1 two.result.1 three.result.1 c.if-not-cut.false c.if-not-cut-2.false one.ensures.laid
    two.ensures.laid three.ensures.laid
