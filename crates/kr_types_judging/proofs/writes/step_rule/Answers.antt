use Rattle.std.proofs.Common.{◌∙◌, ap}
use Rattle.kr_types_meaning.specs.Rules.{Judgement, ask, written_rule}
use Rattle.kr_types_scopes.specs.Settings.{scope_in}
use Rattle.kr_classes_names.specs.Types.{type_at}
use Rattle.kr_types_judging.specs.Shown.{typed_shown}
use Rattle.kr_types_judging.proofs.writes.step_rule.Goals as goal

pub returns-clause-within : goal.returns-clause-within
returns-clause-within c = c.ask.ensures.within c.args.types.now c.written_rule.ensures.within

pub returns-clause-says : goal.returns-clause-says
returns-clause-says c = λ files g bs h e.
    let l = c.args.types.now in
    c.ask.ensures.says l
    ∙ ap (λ (v : Judgement). ask c.is_number.result 18 v) (c.written_rule.ensures.says files g bs h e)
    ∙ ap (λ b. ask b 18 (written_rule (scope_in g bs c.args.here) (typed_shown l c.args.target) (type_at l c.args.to))) c.is_number.ensures
