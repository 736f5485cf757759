use Rattle.std.proofs.Common.{◌∙◌, ap}
use Rattle.std.specs.Prelude.{None}
use Rattle.kr_types_meaning.specs.Rules as rules
use Rattle.kr_types_meaning.specs.Noting.{concluded}
use Rattle.kr_types_expressions.proofs.leaves.long_number_note.Goals as goal

pub returns-clause-within : goal.returns-clause-within
returns-clause-within c = c.conclude.ensures.within c.args.types.now c.long_number_rule-verdict.ensures.within

pub returns-clause-shown : goal.returns-clause-shown
returns-clause-shown c = λ files g bs look h e. c.conclude.ensures.shown c.args.types.now look ∙ ap (λ (v : rules.Judgement). concluded c.args.place v None) (c.long_number_rule-verdict.ensures.says files g bs h e)
