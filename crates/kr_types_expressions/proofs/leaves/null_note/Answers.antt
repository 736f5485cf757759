use Rattle.std.proofs.Common.{◌∙◌, ap}
use Rattle.std.specs.Prelude.{None}
use Rattle.kr_classes_table.specs.Types.{JavaType}
use Rattle.kr_types_meaning.specs.Rules as rules
use Rattle.kr_types_meaning.specs.Noting.{concluded}
use Rattle.kr_types_expressions.proofs.leaves.null_note.Goals as goal

pub returns-clause-within : goal.returns-clause-within
returns-clause-within c = c.conclude.ensures.within c.args.types.now (c.value-verdict.ensures.within c.args.types.now c.null.ensures.within)

pub returns-clause-shown : goal.returns-clause-shown
returns-clause-shown c = λ look. c.conclude.ensures.shown c.args.types.now look ∙ ap (λ (v : rules.Judgement). concluded c.args.place v None) (c.value-verdict.ensures.says c.args.types.now ∙ ap (λ (t : JavaType). rules.Fits (rules.Value t)) c.null.ensures.type_is)
