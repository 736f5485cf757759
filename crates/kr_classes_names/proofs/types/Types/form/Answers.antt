use Rattle.std.proofs.Common.{◌≡◌, subst}
use Rattle.kr_classes_names.specs.Types.{TypeList, IsMadeOf, type_at, type_of_form}
use Rattle.kr_classes_names.proofs.Made.{type_made, list_of}
use Rattle.kr_classes_names.proofs.Growing.{made_there}
use Rattle.kr_classes_names.proofs.types.Types.form.Goals as goal

pub returns-clause-made : goal.returns-clause-made
returns-clause-made c =
    let l = list_of c.self.inside.names c.self.inside.forms in
    subst (λ (k : TypeList). IsMadeOf k c.form.result) c.self.view_is (made_there l c.self.inside.known.items c.self.invariant c.args.number c.form.result c.form.ensures)

pub returns-clause-shown : goal.returns-clause-shown
returns-clause-shown c =
    let l = list_of c.self.inside.names c.self.inside.forms in
    subst (λ (k : TypeList). type_at k c.args.number ≡ type_of_form k c.form.result) c.self.view_is (type_made l c.self.invariant.ordered c.args.number c.form.result c.form.ensures)
