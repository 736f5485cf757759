use Rattle.kr_laws_never_stuck.proofs.Overriding.{class_rules}
use Rattle.kr_laws_never_stuck.proofs.class_rules.class_rules_law.Goals as goal

pub returns : goal.returns
returns c = class_rules
