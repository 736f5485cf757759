use Rattle.std.proofs.Common.{◌∙◌, ap}
use Rattle.std.specs.Prelude.{None}
use Rattle.kr_types_meaning.specs.Rules as rules
use Rattle.kr_types_meaning.specs.Noting.{concluded}
use Rattle.kr_types_expressions.proofs.names.variable_note.Goals as goal

pub returns-clause-within : goal.returns-clause-within
returns-clause-within c = c.conclude.ensures.within c.args.classes.now.types.now c.variable_rule-verdict.ensures.within

pub returns-clause-shown : goal.returns-clause-shown
returns-clause-shown c = λ known look k. c.conclude.ensures.shown c.args.classes.now.types.now look ∙ ap (λ (v : rules.Judgement). concluded c.args.place v None) (c.variable_rule-verdict.ensures.says known k)
