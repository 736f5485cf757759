use Rattle.std.proofs.Common.{◌≡◌, ◌<◌, sym, ap, ◌∙◌, false, not, [], List, ℕ, length, map, get_or, bytes_eq, arith}
use Rattle.std.specs.Prelude.{Some}
use Rattle.std.specs.List.{position_from}
use Rattle.std.proofs.lemmas.List.{take_all}
use Rattle.kr_ast.specs.Arena.{Arena, name_in}
use Rattle.kr_classes_table.specs.Table as table
use Rattle.kr_classes_table.specs.Table.{is_number, own_methods}
use Rattle.kr_classes_table.specs.Rules.{least, repeated}
use Rattle.kr_classes_names.proofs.Walks.{map_map}
use Rattle.kr_classes_members.specs.declared.methods.Method.{Method}
use Rattle.kr_classes_members.specs.Shown.{table_in, method_name, method_shown}
use Rattle.kr_classes.proofs.Again.{one_more}
use Rattle.kr_classes.proofs.method_rules.repeated_method.Goals as goal

pub loop-number-preserved : goal.loop-number-preserved
loop-number-preserved c =
    let files = c.args.trees.now in
    let t = table_in files in
    let absent : Method = record { file = 0; class = 0; name = record { start = 0; end = 0 }; place = record { file = 0; line = 0; col = 0 }; is_static = false; parameters = 0; result = 0; contracts = 0; body = 0 } in
    let xs = c.methods-method-items.result.now in
    let i = c.loop-number.number in
    let l : i < length xs = c.loop-number-test.true in
    let x = get_or xs i absent in
    let n = c.name-name.result.now in
    let name : n ≡ method_name files x = c.name-name.ensures ∙ ap (λ (a : Arena). name_in a.text x.name) c.tree_of.ensures in
    let own : map (λ (f : table.Method). f.name) (own_methods t c.args.class) ≡ map (method_name files) xs =
    ap (map (λ (f : table.Method). f.name)) (sym (c.methods-method-items.ensures.shown files c.requires)) ∙ map_map (λ (f : table.Method). f.name) (method_shown files) xs in
    one_more 5 [] (method_name files) (λ f. f.place) xs i absent c.is_repeated_method-is_repeated.result c.loop-number.first c.if_broken.result c.earlier-first.result l c.loop-number.invariant c.earlier-first.ensures.fault (c.if_broken.ensures 5)
    (c.is_repeated_method-is_repeated.ensures files c.requires
    ∙ ap (λ (ns : List (List ℕ)). not (is_number (position_from (bytes_eq n) 0 ns) (Some i))) own
    ∙ ap (λ (m : List ℕ). not (is_number (position_from (bytes_eq m) 0 (map (method_name files) xs)) (Some i))) name)

pub returns : goal.returns
returns c =
    let files = c.args.trees.now in
    let t = table_in files in
    let xs = c.methods-method-items.result.now in
    c.loop-number.invariant
    ∙ ap (λ ys. least (repeated 5 [] (map (λ f. (method_name files f, f.place)) ys))) (take_all c.loop-number.number xs (omega arith))
    ∙ ap (λ ys. least (repeated 5 [] ys)) (sym (map_map (λ (f : table.Method). (f.name, f.place)) (method_shown files) xs) ∙ ap (map (λ (f : table.Method). (f.name, f.place))) (c.methods-method-items.ensures.shown files c.requires))
