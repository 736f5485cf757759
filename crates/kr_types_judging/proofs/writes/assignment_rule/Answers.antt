use Rattle.std.proofs.Common.{◌∙◌, sym, ap}
use Rattle.kr_classes_table.specs.Table.{Table, is_assignable}
use Rattle.kr_types_meaning.specs.Rules.{Judgement, ask, written_rule}
use Rattle.kr_types_scopes.specs.Settings.{scope_in}
use Rattle.kr_classes_names.specs.Types.{type_at}
use Rattle.kr_types_judging.specs.Shown.{typed_shown}
use Rattle.kr_types_judging.proofs.writes.assignment_rule.Goals as goal

pub returns-clause-within : goal.returns-clause-within
returns-clause-within c = c.ask.ensures.within c.args.types.now c.written_rule.ensures.within

pub returns-clause-says : goal.returns-clause-says
returns-clause-says c = λ files g bs h e.
    let l = c.args.types.now in
    let from = type_at l c.args.from in
    let to = type_at l c.args.to in
    c.ask.ensures.says l
    ∙ ap (λ (v : Judgement). ask c.is_assignable.result 16 v) (c.written_rule.ensures.says files g bs h e)
    ∙ ap (λ b. ask b 16 (written_rule (scope_in g bs c.args.here) (typed_shown l c.args.target) to)) (c.is_assignable.ensures files h ∙ ap (λ (t : Table). is_assignable t from to) (sym e))
