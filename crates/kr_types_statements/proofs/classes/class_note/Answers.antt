use Rattle.std.proofs.Common.{◌∙◌, ap}
use Rattle.kr_types_meaning.specs.Rules as rules
use Rattle.kr_types_meaning.specs.Scopes.{in_class}
use Rattle.kr_types_meaning.specs.Noting.{concluded}
use Rattle.kr_types_judging.specs.Shown.{least_shown}
use Rattle.kr_types_statements.proofs.classes.class_note.Goals as goal

pub returns-clause-within : goal.returns-clause-within
returns-clause-within c = c.conclude.ensures.within c.args.classes.now.types.now c.class_verdict-verdict.ensures.within

pub returns-clause-shown : goal.returns-clause-shown
returns-clause-shown c = λ s look e single.
    c.conclude.ensures.shown c.args.classes.now.types.now look
    ∙ ap (λ (v : rules.Judgement). concluded c.args.place v (least_shown c.args.x.least)) (c.class_verdict-verdict.ensures.says (in_class c.args.name.now s) e single (c.class_named-class.ensures s e))
