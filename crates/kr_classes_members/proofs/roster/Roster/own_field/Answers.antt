use Rattle.std.proofs.Common.{◌≡◌, sym, ap, ◌∙◌, ℕ, ◌+◌, ◌<◌, List, length, arith, Some}
use Rattle.std.specs.Prelude.{slice_get}
use Rattle.std.proofs.lemmas.List.{length-map}
use Rattle.std.proofs.lemmas.Option.{get_or_from_slice_get, slice_get_within}
use Rattle.kr_ast.specs.Arena.{Arena}
use Rattle.kr_classes_table.specs.Table as table
use Rattle.kr_classes_members.specs.Shown.{field_shown, table_in}
use Rattle.kr_classes_members.specs.declared.roster.Roster.{Roster}
use Rattle.kr_classes_members.specs.Rosters.{IsRoster, all_fields, first_of, fields_of_class}
use Rattle.kr_classes_members.proofs.Found.{no_class, not_numbered, numbered, numbered_below, past}
use Rattle.kr_classes_members.proofs.roster.Roster.own_field.Goals as goal

first_is : (files : List Arena) (r : Roster) → IsRoster files r → (c k : ℕ) → slice_get r.first_fields.items c ≡ Some k → k ≡ first_of fields_of_class (table_in files) c
first_is files r is c k e = sym (get_or_from_slice_get r.first_fields.items c k 0 e) ∙ is.first_fields c (slice_get_within r.first_fields.items c k e)

few : (files : List Arena) (r : Roster) → IsRoster files r → length (all_fields (table_in files)) < 4294967295
few files r is = omega (arith, is.few_fields, length-map r.fields.items (field_shown files), ap length is.fields)

pub returns-in-None-clause-shown : goal.returns-in-None-clause-shown
returns-in-None-clause-shown c = λ files h r. not_numbered fields_of_class (λ (m : table.Field). m.name) (table_in files) c.args.class c.args.name.now (sym c.in-None.is ∙ c.own_field_number.ensures files h)

pub returns-in-None-first_number-clause-shown : goal.returns-in-None-first_number-clause-shown
returns-in-None-first_number-clause-shown c = λ files h r.
    let l = past c.args.self.now.first_fields.items c.args.class (sym c.first_number.ensures ∙ c.in-None-first_number.is) in
    absurd (no_class fields_of_class (λ (m : table.Field). m.name) (table_in files) c.args.class c.args.name.now c.in-Some.number (omega (arith, l, r.all_first_fields)) (sym c.in-Some.is ∙ c.own_field_number.ensures files h))

pub returns-then-number-first-clause-shown : goal.returns-then-number-first-clause-shown
returns-then-number-first-clause-shown c = λ files h r.
    let k = c.in-Some-first_number.first + c.in-Some.number in
    let e = first_is files c.args.self.now r c.args.class c.in-Some-first_number.first (sym c.first_number.ensures ∙ c.in-Some-first_number.is) in
    let b = numbered_below fields_of_class (λ (m : table.Field). m.name) (table_in files) c.args.class c.args.name.now c.in-Some.number k (sym c.in-Some.is ∙ c.own_field_number.ensures files h) (ap (λ n. n + c.in-Some.number) e) in
    absurd (omega (arith, b, few files c.args.self.now r))

pub returns-else-number-first-clause-within : goal.returns-else-number-first-clause-within
returns-else-number-first-clause-within c = λ files h r.
    let k = c.in-Some-first_number.first + c.in-Some.number in
    let e = first_is files c.args.self.now r c.args.class c.in-Some-first_number.first (sym c.first_number.ensures ∙ c.in-Some-first_number.is) in
    numbered_below fields_of_class (λ (m : table.Field). m.name) (table_in files) c.args.class c.args.name.now c.in-Some.number k (sym c.in-Some.is ∙ c.own_field_number.ensures files h) (ap (λ n. n + c.in-Some.number) e)

pub returns-else-number-first-clause-shown : goal.returns-else-number-first-clause-shown
returns-else-number-first-clause-shown c = λ files h r.
    let k = c.in-Some-first_number.first + c.in-Some.number in
    let e = first_is files c.args.self.now r c.args.class c.in-Some-first_number.first (sym c.first_number.ensures ∙ c.in-Some-first_number.is) in
    numbered fields_of_class (λ (m : table.Field). m.name) (table_in files) c.args.class c.args.name.now c.in-Some.number k (sym c.in-Some.is ∙ c.own_field_number.ensures files h) (ap (λ n. n + c.in-Some.number) e)
