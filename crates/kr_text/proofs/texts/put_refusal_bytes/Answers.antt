use Rattle.std.proofs.Common.{refl}
use Rattle.kr_base.specs.Writing.{stopped_early, writes_then, writes_exit}
use Rattle.kr_text.specs.Texts.{rule_text}
use Rattle.kr_text.proofs.texts.put_refusal_bytes.Goals as goal

pub returns-in_err-put_where : goal.returns-in_err-put_where
returns-in_err-put_where g c =
    writes_exit c.from_residual.result c.from_residual.ensures.0
    (stopped_early (rule_text c.args.rule.now c.args.item.now) c.in_err-put_where.ensures refl)

pub returns : goal.returns
returns g c = writes_then c.put_rule.new.out (rule_text c.args.rule.now c.args.item.now) c.put_rule.result c.in_ok-put_where.ensures c.put_rule.ensures refl
