use Rattle.std.proofs.Common.{◌≡◌, sym, ap, ◌∙◌, ℕ, ◌+◌, ◌<◌, List, length, arith, Some}
use Rattle.std.specs.Prelude.{slice_get}
use Rattle.std.proofs.lemmas.List.{length-map}
use Rattle.std.proofs.lemmas.Option.{get_or_from_slice_get, slice_get_within}
use Rattle.kr_ast.specs.Arena.{Arena}
use Rattle.kr_classes_table.specs.Table as table
use Rattle.kr_classes_members.specs.Shown.{method_shown, table_in}
use Rattle.kr_classes_members.specs.declared.roster.Roster.{Roster}
use Rattle.kr_classes_members.specs.Rosters.{IsRoster, all_methods, first_of, methods_of_class}
use Rattle.kr_classes_members.proofs.Found.{no_class, not_numbered, numbered, numbered_below, past}
use Rattle.kr_classes_members.proofs.roster.Roster.own_method.Goals as goal

first_is : (files : List Arena) (r : Roster) → IsRoster files r → (c k : ℕ) → slice_get r.first_methods.items c ≡ Some k → k ≡ first_of methods_of_class (table_in files) c
first_is files r is c k e = sym (get_or_from_slice_get r.first_methods.items c k 0 e) ∙ is.first_methods c (slice_get_within r.first_methods.items c k e)

few : (files : List Arena) (r : Roster) → IsRoster files r → length (all_methods (table_in files)) < 4294967295
few files r is = omega (arith, is.few_methods, length-map r.methods.items (method_shown files), ap length is.methods)

pub returns-in-None-clause-shown : goal.returns-in-None-clause-shown
returns-in-None-clause-shown c = λ files h r. not_numbered methods_of_class (λ (m : table.Method). m.name) (table_in files) c.args.class c.args.name.now (sym c.in-None.is ∙ c.own_method_number.ensures files h)

pub returns-in-None-first_number-clause-shown : goal.returns-in-None-first_number-clause-shown
returns-in-None-first_number-clause-shown c = λ files h r.
    let l = past c.args.self.now.first_methods.items c.args.class (sym c.first_number.ensures ∙ c.in-None-first_number.is) in
    absurd (no_class methods_of_class (λ (m : table.Method). m.name) (table_in files) c.args.class c.args.name.now c.in-Some.number (omega (arith, l, r.all_first_methods)) (sym c.in-Some.is ∙ c.own_method_number.ensures files h))

pub returns-then-number-first-clause-shown : goal.returns-then-number-first-clause-shown
returns-then-number-first-clause-shown c = λ files h r.
    let k = c.in-Some-first_number.first + c.in-Some.number in
    let e = first_is files c.args.self.now r c.args.class c.in-Some-first_number.first (sym c.first_number.ensures ∙ c.in-Some-first_number.is) in
    let b = numbered_below methods_of_class (λ (m : table.Method). m.name) (table_in files) c.args.class c.args.name.now c.in-Some.number k (sym c.in-Some.is ∙ c.own_method_number.ensures files h) (ap (λ n. n + c.in-Some.number) e) in
    absurd (omega (arith, b, few files c.args.self.now r))

pub returns-else-number-first-clause-within : goal.returns-else-number-first-clause-within
returns-else-number-first-clause-within c = λ files h r.
    let k = c.in-Some-first_number.first + c.in-Some.number in
    let e = first_is files c.args.self.now r c.args.class c.in-Some-first_number.first (sym c.first_number.ensures ∙ c.in-Some-first_number.is) in
    numbered_below methods_of_class (λ (m : table.Method). m.name) (table_in files) c.args.class c.args.name.now c.in-Some.number k (sym c.in-Some.is ∙ c.own_method_number.ensures files h) (ap (λ n. n + c.in-Some.number) e)

pub returns-else-number-first-clause-shown : goal.returns-else-number-first-clause-shown
returns-else-number-first-clause-shown c = λ files h r.
    let k = c.in-Some-first_number.first + c.in-Some.number in
    let e = first_is files c.args.self.now r c.args.class c.in-Some-first_number.first (sym c.first_number.ensures ∙ c.in-Some-first_number.is) in
    numbered methods_of_class (λ (m : table.Method). m.name) (table_in files) c.args.class c.args.name.now c.in-Some.number k (sym c.in-Some.is ∙ c.own_method_number.ensures files h) (ap (λ n. n + c.in-Some.number) e)
