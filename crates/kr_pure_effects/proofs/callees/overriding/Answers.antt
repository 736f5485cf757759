use Rattle.std.proofs.Common.{◌≡◌, subst, ap, ◌∙◌, List, map}
use Rattle.std.specs.Prelude.{IfOk}
use Rattle.std.proofs.lemmas.Result.{IfOk-weaker}
use Rattle.kr_ast.specs.Arena.{Arena}
use Rattle.kr_classes_members.specs.Shown.{method_shown, table_in}
use Rattle.kr_classes_members.specs.Rosters.{method_numbered}
use Rattle.kr_mean.specs.Program.{Program}
use Rattle.kr_mean.specs.Code.{overriders}
use Rattle.kr_pure_effects.proofs.callees.overriding.Goals as goal

pub returns-clause-shown : goal.returns-clause-shown
returns-clause-shown c =
    let shown = subst (λ (fs : List Arena). IfOk c.overriders.result (λ found. (mean : Program) → mean.table ≡ table_in fs → map (method_numbered (table_in fs)) found.items ≡ overriders mean (method_shown fs c.method_numbered-method.result))) c.deref.ensures.value c.overriders.ensures.shown in
    IfOk-weaker c.overriders.result _ _ (λ methods h mean table. h mean table ∙ ap (overriders mean) c.method_numbered-method.ensures.shown) shown
