use Rattle.kr_classes_names.proofs.Base.{absent_long}
use Rattle.kr_classes_names.proofs.types.base_forms.Goals as goal

pub returns-clause-forms : goal.returns-clause-forms
returns-clause-forms c = rw c.in_ok-forms.ensures at c.in_ok-number.ensures.added absent_long
