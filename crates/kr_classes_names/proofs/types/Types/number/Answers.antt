use Rattle.std.proofs.Common.{◌≡◌, sym, subst}
use Rattle.kr_classes_table.specs.Types.{is_known}
use Rattle.kr_classes_names.specs.Types.{TypeList, Extends, IsMadeOf, IsTypeNumber, type_of_form}
use Rattle.kr_classes_names.proofs.Made.{list_of}
use Rattle.kr_classes_names.proofs.Growing.{known_count, added, extends_added_or, number_added}
use Rattle.kr_classes_names.proofs.types.Types.number.Goals as goal

pub add_form-requires : goal.add_form-requires
add_form-requires c = known_count (list_of c.self.inside.names c.self.inside.forms) c.self.inside.known.items c.self.invariant

pub invariant_of-self : goal.invariant_of-self
invariant_of-self c =
    let l = list_of c.self.inside.names c.self.inside.forms in
    let made : IsMadeOf l c.args.form = subst (λ (k : TypeList). IsMadeOf k c.args.form) (sym c.self.view_is) c.requires in
    let is : c.is_known_form-is_known.result ≡ is_known (type_of_form l c.args.form) = subst (λ (k : TypeList). c.is_known_form-is_known.result ≡ is_known (type_of_form k c.args.form)) (sym c.self.view_is) c.is_known_form-is_known.ensures in
    added c.self.inside.names c.self.inside.forms c.add_form.new.forms c.self.inside.known.items c.add_form.new.known.items c.args.form c.is_known_form-is_known.result c.self.invariant made (c.add_form.ensures.apart c.self.invariant.forms_apart) is c.add_form.ensures.added

pub invariant_of-self-then-number-ge4294967295 : goal.invariant_of-self-then-number-ge4294967295
invariant_of-self-then-number-ge4294967295 c =
    let l = list_of c.self.inside.names c.self.inside.forms in
    let made : IsMadeOf l c.args.form = subst (λ (k : TypeList). IsMadeOf k c.args.form) (sym c.self.view_is) c.requires in
    let is : c.is_known_form-is_known.result ≡ is_known (type_of_form l c.args.form) = subst (λ (k : TypeList). c.is_known_form-is_known.result ≡ is_known (type_of_form k c.args.form)) (sym c.self.view_is) c.is_known_form-is_known.ensures in
    added c.self.inside.names c.self.inside.forms c.add_form.new.forms c.self.inside.known.items c.add_form.new.known.items c.args.form c.is_known_form-is_known.result c.self.invariant made (c.add_form.ensures.apart c.self.invariant.forms_apart) is c.add_form.ensures.added

pub invariant_of-self-2 : goal.invariant_of-self-2
invariant_of-self-2 c =
    let l = list_of c.self.inside.names c.self.inside.forms in
    let made : IsMadeOf l c.args.form = subst (λ (k : TypeList). IsMadeOf k c.args.form) (sym c.self.view_is) c.requires in
    let is : c.is_known_form-is_known.result ≡ is_known (type_of_form l c.args.form) = subst (λ (k : TypeList). c.is_known_form-is_known.result ≡ is_known (type_of_form k c.args.form)) (sym c.self.view_is) c.is_known_form-is_known.ensures in
    added c.self.inside.names c.self.inside.forms c.add_form.new.forms c.self.inside.known.items c.add_form.new.known.items c.args.form c.is_known_form-is_known.result c.self.invariant made (c.add_form.ensures.apart c.self.invariant.forms_apart) is c.add_form.ensures.added

pub returns-in_err-number-clause-extends : goal.returns-in_err-number-clause-extends
returns-in_err-number-clause-extends c =
    subst (λ (k : TypeList). Extends k (list_of c.self.inside.names c.add_form.new.forms)) c.self.view_is
    (extends_added_or c.self.inside.names c.self.inside.forms c.add_form.new.forms c.self.inside.known.items c.add_form.new.known.items c.args.form c.is_known_form-is_known.result c.add_form.ensures.added)

pub returns-then-number-ge4294967295-clause-extends : goal.returns-then-number-ge4294967295-clause-extends
returns-then-number-ge4294967295-clause-extends c =
    subst (λ (k : TypeList). Extends k (list_of c.self.inside.names c.add_form.new.forms)) c.self.view_is
    (extends_added_or c.self.inside.names c.self.inside.forms c.add_form.new.forms c.self.inside.known.items c.add_form.new.known.items c.args.form c.is_known_form-is_known.result c.add_form.ensures.added)

pub returns-clause-extends : goal.returns-clause-extends
returns-clause-extends c =
    subst (λ (k : TypeList). Extends k (list_of c.self.inside.names c.add_form.new.forms)) c.self.view_is
    (extends_added_or c.self.inside.names c.self.inside.forms c.add_form.new.forms c.self.inside.known.items c.add_form.new.known.items c.args.form c.is_known_form-is_known.result c.add_form.ensures.added)

pub returns-clause-number : goal.returns-clause-number
returns-clause-number c =
    let l = list_of c.self.inside.names c.self.inside.forms in
    let made : IsMadeOf l c.args.form = subst (λ (k : TypeList). IsMadeOf k c.args.form) (sym c.self.view_is) c.requires in
    let is : c.is_known_form-is_known.result ≡ is_known (type_of_form l c.args.form) = subst (λ (k : TypeList). c.is_known_form-is_known.result ≡ is_known (type_of_form k c.args.form)) (sym c.self.view_is) c.is_known_form-is_known.ensures in
    subst (λ (k : TypeList). IsTypeNumber (list_of c.self.inside.names c.add_form.new.forms) c.in_ok-number.number (type_of_form k c.args.form)) c.self.view_is
    (number_added c.self.inside.names c.self.inside.forms c.add_form.new.forms c.self.inside.known.items c.add_form.new.known.items c.args.form c.is_known_form-is_known.result c.self.invariant made (c.add_form.ensures.apart c.self.invariant.forms_apart) is c.add_form.ensures.added c.in_ok-number.number c.in_ok-number.ensures.at)
