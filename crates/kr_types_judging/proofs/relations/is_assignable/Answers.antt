use Rattle.std.proofs.Common.{◌∙◌, sym, ap}
use Rattle.kr_classes_table.specs.Table.{is_assignable}
use Rattle.kr_classes_members.specs.Shown.{table_in}
use Rattle.kr_classes_names.specs.Types.{type_at, type_of_form}
use Rattle.kr_types_judging.proofs.relations.is_assignable.Goals as goal

pub returns-in-Set : goal.returns-in-Set
returns-in-Set c = λ files h.
    c.set_goes_into.ensures (table_in files) ∙ ap (λ x. is_assignable (table_in files) x (type_at c.args.types.now c.args.to)) (sym (c.form.ensures.shown ∙ ap (type_of_form c.args.types.now) c.in-Set.is))

pub returns-in-List : goal.returns-in-List
returns-in-List c = λ files h.
    c.list_goes_into.ensures (table_in files) ∙ ap (λ x. is_assignable (table_in files) x (type_at c.args.types.now c.args.to)) (sym (c.form.ensures.shown ∙ ap (type_of_form c.args.types.now) c.in-List.is))

pub returns-in-Number : goal.returns-in-Number
returns-in-Number c = λ files h.
    c.number_goes_into.ensures (table_in files) ∙ ap (λ x. is_assignable (table_in files) x (type_at c.args.types.now c.args.to)) (sym (c.form.ensures.shown ∙ ap (type_of_form c.args.types.now) c.in-Number.is))
