use Rattle.std.proofs.Common.{◌∙◌, ap}
use Rattle.kr_ast.specs.Arena.{tree_in}
use Rattle.kr_ast.specs.Files.{file_at}
use Rattle.kr_types_meaning.specs.Rules as rules
use Rattle.kr_types_meaning.specs.Noting.{concluded}
use Rattle.kr_types_meaning.specs.Scopes.{caught_type}
use Rattle.kr_types_judging.specs.Shown.{least_shown}
use Rattle.kr_types_statements.proofs.throws.catch_note.Goals as goal

pub returns-clause-within : goal.returns-clause-within
returns-clause-within c = c.conclude.ensures.within c.args.classes.now.types.now c.caught_rule-verdict.ensures.within

pub returns-clause-shown : goal.returns-clause-shown
returns-clause-shown c = λ s look e.
    let p = c.args.place in
    c.conclude.ensures.shown c.args.classes.now.types.now look
    ∙ ap (λ (v : rules.Judgement). concluded p v (least_shown c.earlier.result)) (c.caught_rule-verdict.ensures.says s e ∙ ap (rules.caught_rule s 42) (c.caught_type-caught.ensures.is s e))
    ∙ ap (concluded p (rules.caught_rule s 42 (caught_type s (tree_in (file_at c.args.classes.now.trees.now c.args.file) c.args.declared)))) c.earlier.ensures
