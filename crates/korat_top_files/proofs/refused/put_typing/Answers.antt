use Rattle.std.proofs.Common.{[], refl}
use Rattle.kr_base.specs.Writing.{stopped_early, writes_then, writes_exit}
use Rattle.kr_text.specs.Texts.{rule_text}
use Rattle.korat_top_files.specs.Refusals.{typing_code}
use Rattle.korat_top_files.proofs.refused.put_typing.Goals as goal

pub returns-in_err-put_place : goal.returns-in_err-put_place
returns-in_err-put_place g c =
    writes_exit c.from_residual.result c.from_residual.ensures.0
    (stopped_early (rule_text (typing_code c.args.rule) []) c.in_err-put_place.ensures refl)

pub returns : goal.returns
returns g c = writes_then c.put_typing_rule.new.out (rule_text (typing_code c.args.rule) []) c.put_typing_rule.result c.in_ok-put_place.ensures c.put_typing_rule.ensures refl
