use Rattle.kr_classes_names.proofs.Base.{base_ready}
use Rattle.kr_classes_names.proofs.types.Types.new.Goals as goal

pub invariant_of-result : goal.invariant_of-result
invariant_of-result c = base_ready _ _ _ c.new.ensures c.in_ok-forms.ensures.forms c.in_ok-known.ensures.items c.in_ok-forms.ensures.apart
