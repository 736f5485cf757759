use Rattle.std.proofs.Common.{codes, subst, sym}
use Rattle.kr_code_lowering.specs.Names.{AreNames}
use Rattle.kr_code_lowering.proofs.Growth.{got_grown}
use Rattle.kr_code_lowering.proofs.names.Names.number.Goals as goal

pub returns-clause-stay : goal.returns-clause-stay
returns-clause-stay c = λ given.
    let before = subst AreNames (sym c.self.view_is) given in
    record { apart = c.number.ensures.apart before.apart; first = got_grown c.self.inside.all c.number.new.self 0 (codes "length") c.number.ensures.grown before.first }
