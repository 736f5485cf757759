use Rattle.std.proofs.Common.{ap, ◌∙◌, sym, subst, List, ℕ, map}
use Rattle.std.specs.Prelude.{All}
use Rattle.std.proofs.lemmas.Result.{IfOk-weaker}
use Rattle.kr_ast.specs.Arena.{root}
use Rattle.kr_classes_table.specs.Types.{JavaType}
use Rattle.kr_classes_table.specs.Table.{line_of}
use Rattle.kr_classes_names.specs.Types.{type_of_form}
use Rattle.kr_mean.specs.Code.{classes_of}
use Rattle.kr_types.proofs.Named.{IsThere, line_there, named_there}
use Rattle.kr_pure_effects.proofs.created.created_classes.Goals as goal

pub returns-in-Class-clause-there : goal.returns-in-Class-clause-there
returns-in-Class-clause-there c = λ files tree m e.
    let trees = map root files in
    let class = sym e ∙ c.form.ensures.shown ∙ ap (type_of_form c.args.types.now) c.in-Class.is in
    IfOk-weaker c.line.result _ _ (λ classes h. subst (λ (ds : List ℕ). All (IsThere trees) ds) (sym h) (line_there trees c.in-Class.class (named_there trees tree c.in-Class.class class))) (c.line.ensures files m)

pub returns-in-Class-clause-shown : goal.returns-in-Class-clause-shown
returns-in-Class-clause-shown c = λ files program m e.
    let class = c.form.ensures.shown ∙ ap (type_of_form c.args.types.now) c.in-Class.is in
    IfOk-weaker c.line.result _ _ (λ classes h. h ∙ ap (λ t. line_of t c.in-Class.class) (sym e) ∙ ap (λ (t : JavaType). classes_of program t) (sym class)) (c.line.ensures files m)
