use Rattle.std.proofs.Common.{Some, ap, ◌∙◌}
use Rattle.kr_types_meaning.specs.Scopes as typing
use Rattle.kr_types_scopes.specs.Settings.{setting, scope_in, class_there}
use Rattle.kr_types_scopes.proofs.Chains.{locals_zero}
use Rattle.kr_types_scopes.proofs.change.apply.Goals as goal

pub returns-in-InClass-clause-scope : goal.returns-in-InClass-clause-scope
returns-in-InClass-clause-scope c t v a bs =
    let g = setting t v a in
    rw c.in-InClass.is (ap (scope_in g bs) c.in_class.ensures ∙ ap (λ l. let s : typing.Scope = record (typing.scope_of t v (class_there g (Some c.args.at))) { locals = l } in s) (locals_zero g bs))
