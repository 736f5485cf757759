use Rattle.std.proofs.Common.{subst}
use Rattle.kr_classes_names.specs.Types.{TypeList, Extends}
use Rattle.kr_classes_names.proofs.Made.{list_of}
use Rattle.kr_classes_names.proofs.Growing.{spelled, extends_by_names}
use Rattle.kr_classes_names.proofs.types.Types.spell.Goals as goal

pub invariant_of-self : goal.invariant_of-self
invariant_of-self c = spelled c.self.inside.names c.number.new.self c.self.inside.forms c.self.inside.known.items c.number.ensures.grown c.self.invariant (c.number.ensures.apart c.self.invariant.names_apart)

pub returns-clause-extends : goal.returns-clause-extends
returns-clause-extends c =
    subst (λ (k : TypeList). Extends k (list_of c.number.new.self c.self.inside.forms)) c.self.view_is (extends_by_names c.self.inside.names c.number.new.self c.self.inside.forms c.number.ensures.grown c.self.invariant.ordered)
