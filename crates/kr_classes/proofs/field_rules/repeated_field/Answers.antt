use Rattle.std.proofs.Common.{◌≡◌, ◌<◌, sym, ap, ◌∙◌, false, ◌||◌, not, List, ℕ, length, map, get_or, bytes_eq, arith}
use Rattle.std.specs.Prelude.{Some, flat_map}
use Rattle.std.specs.List.{position_from}
use Rattle.std.proofs.lemmas.List.{take_all}
use Rattle.kr_ast.specs.Arena.{Arena, name_in}
use Rattle.kr_classes_table.specs.Table as table
use Rattle.kr_classes_table.specs.Table.{ancestors, is_number, own_fields}
use Rattle.kr_classes_table.specs.Rules.{is_name_among, least, repeated}
use Rattle.kr_classes_names.proofs.Walks.{map_map}
use Rattle.kr_classes_members.specs.declared.fields.Field.{Field}
use Rattle.kr_classes_members.specs.Shown.{table_in, field_name, field_shown}
use Rattle.kr_classes.specs.Faults.{inherited_names}
use Rattle.kr_classes.proofs.Again.{found_among, one_more}
use Rattle.kr_classes.proofs.field_rules.repeated_field.Goals as goal

pub loop-number-preserved : goal.loop-number-preserved
loop-number-preserved c =
    let files = c.args.trees.now in
    let t = table_in files in
    let absent : Field = record { file = 0; class = 0; name = record { start = 0; end = 0 }; place = record { file = 0; line = 0; col = 0 }; is_static = false; is_final = false; declared = 0; initial = 0 } in
    let xs = c.fields-field-items.result.now in
    let i = c.loop-number.number in
    let l : i < length xs = c.loop-number-test.true in
    let x = get_or xs i absent in
    let n = c.name-name.result.now in
    let name : n ≡ field_name files x = c.name-name.ensures ∙ ap (λ (a : Arena). name_in a.text x.name) c.tree_of.ensures in
    let own : map (λ (f : table.Field). f.name) (own_fields t c.args.class) ≡ map (field_name files) xs =
    ap (map (λ (f : table.Field). f.name)) (sym (c.fields-field-items.ensures.shown files c.requires)) ∙ map_map (λ (f : table.Field). f.name) (field_shown files) xs in
    one_more 4 (inherited_names t c.args.class) (field_name files) (λ f. f.place) xs i absent c.is_repeated_field-is_repeated.result c.loop-number.first c.if_broken.result c.earlier-first.result l c.loop-number.invariant c.earlier-first.ensures.fault (c.if_broken.ensures 4)
    (c.is_repeated_field-is_repeated.ensures files c.requires
    ∙ ap (λ b. b || not (is_number (position_from (bytes_eq n) 0 (map (λ (f : table.Field). f.name) (own_fields t c.args.class))) (Some i))) (found_among (λ (f : table.Field). f.name) n (flat_map (own_fields t) (ancestors t c.args.class)))
    ∙ ap (λ (ns : List (List ℕ)). is_name_among n (inherited_names t c.args.class) || not (is_number (position_from (bytes_eq n) 0 ns) (Some i))) own
    ∙ ap (λ (m : List ℕ). is_name_among m (inherited_names t c.args.class) || not (is_number (position_from (bytes_eq m) 0 (map (field_name files) xs)) (Some i))) name)

pub returns : goal.returns
returns c =
    let files = c.args.trees.now in
    let t = table_in files in
    let xs = c.fields-field-items.result.now in
    c.loop-number.invariant
    ∙ ap (λ ys. least (repeated 4 (inherited_names t c.args.class) (map (λ f. (field_name files f, f.place)) ys))) (take_all c.loop-number.number xs (omega arith))
    ∙ ap (λ ys. least (repeated 4 (inherited_names t c.args.class) ys)) (sym (map_map (λ (f : table.Field). (f.name, f.place)) (field_shown files) xs) ∙ ap (map (λ (f : table.Field). (f.name, f.place))) (c.fields-field-items.ensures.shown files c.requires))
