use Rattle.std.proofs.Common.{◌∙◌, ap, map}
use Rattle.std.specs.Prelude.{Option, not}
use Rattle.kr_classes_table.specs.Table.{Method}
use Rattle.kr_types_meaning.specs.Rules as rules
use Rattle.kr_types_scopes.specs.Settings.{scope_in}
use Rattle.kr_classes_names.specs.Types.{type_at}
use Rattle.kr_types_judging.proofs.objects.super_rule.Goals as goal

pub returns-clause-within : goal.returns-clause-within
returns-clause-within c = c.ask.ensures.within c.args.classes.now.types.now c.above_rule.ensures.within

pub returns-clause-says : goal.returns-clause-says
returns-clause-says c = λ g bs n e m.
    let l = c.args.classes.now.types.now in
    let s = scope_in g bs c.args.here in
    let ts = map (type_at l) c.args.arguments.now in
    c.ask.ensures.says l
    ∙ ap (λ (v : rules.Judgement). rules.ask (not c.args.here.is_static) 5 v) (c.above_rule.ensures.says g bs e)
    ∙ ap (λ (f : Option Method). rules.ask (not c.args.here.is_static) 5 (rules.above_rule s f ts)) m
