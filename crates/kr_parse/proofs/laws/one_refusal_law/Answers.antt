use Rattle.kr_parse.proofs.OneRefusal.{one_refusal, parsed_unbroken}
use Rattle.kr_parse.proofs.laws.one_refusal_law.Goals as goal

pub returns-clause-one : goal.returns-clause-one
returns-clause-one c = one_refusal

pub returns-clause-unbroken : goal.returns-clause-unbroken
returns-clause-unbroken c = parsed_unbroken
