use Rattle.std.proofs.Common.{◌∙◌, ap}
use Rattle.kr_classes_names.specs.Types.{type_at}
use Rattle.kr_types_meaning.specs.Rules.{kind_rule}
use Rattle.kr_types_meaning.specs.declared.operators.OperatorKind.{OperatorKind}
use Rattle.kr_types_scopes.specs.Settings.{scope_in}
use Rattle.kr_types_judging.proofs.operators.operator_rule.Goals as goal

pub returns-clause-says : goal.returns-clause-says
returns-clause-says c = λ files g bs h e.
    let l = c.args.types.now in
    c.kind_rule.ensures.says files g bs h e
    ∙ ap (λ (k : OperatorKind). kind_rule (scope_in g bs c.args.here) k (type_at l c.args.a) (type_at l c.args.b)) c.kind_of.ensures
