use Rattle.std.proofs.Common.{◌∙◌, ap}
use Rattle.std.specs.Prelude.{None}
use Rattle.kr_types_meaning.specs.Rules as rules
use Rattle.kr_types_meaning.specs.Noting.{concluded}
use Rattle.kr_types_expressions.proofs.names.this_note.Goals as goal

pub returns-clause-within : goal.returns-clause-within
returns-clause-within c = c.conclude.ensures.within c.this_rule.new.types c.in_ok-verdict.ensures.within

pub returns-clause-shown : goal.returns-clause-shown
returns-clause-shown c = λ g bs look k. c.conclude.ensures.shown c.this_rule.new.types look ∙ ap (λ (v : rules.Judgement). concluded c.args.place v None) (c.in_ok-verdict.ensures.says g bs k)
