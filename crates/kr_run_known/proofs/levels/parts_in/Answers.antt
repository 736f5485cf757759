use Rattle.kr_run_known.proofs.Going.{as_kind}
use Rattle.kr_run_known.proofs.levels.parts_in.Goals as goal

pub returns-in-Element : goal.returns-in-Element
returns-in-Element g c = as_kind c.args.code.now c.args.world.now c.args.fuel c.element_of.result _ _ c.in-Element.is c.element_of.ensures

pub returns-in-Unary : goal.returns-in-Unary
returns-in-Unary g c = as_kind c.args.code.now c.args.world.now c.args.fuel c.unary_of.result _ _ c.in-Unary.is c.unary_of.ensures

pub returns-in-Or : goal.returns-in-Or
returns-in-Or g c = as_kind c.args.code.now c.args.world.now c.args.fuel c.or_of.result _ _ c.in-Or.is c.or_of.ensures

pub returns-in-CallCollection : goal.returns-in-CallCollection
returns-in-CallCollection g c = as_kind c.args.code.now c.args.world.now c.args.fuel c.called.result _ _ c.in-CallCollection.is c.called.ensures

pub returns-in-Convert : goal.returns-in-Convert
returns-in-Convert g c = as_kind c.args.code.now c.args.world.now c.args.fuel c.look.result _ _ c.in-Convert.is c.look.ensures
