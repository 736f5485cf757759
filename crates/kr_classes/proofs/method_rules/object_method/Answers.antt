use Rattle.std.proofs.Common.{◌≡◌, ◌<◌, ap, ◌∙◌, false, Bool, List, ℕ, length, get_or, arith}
use Rattle.std.specs.Prelude.{flat_map}
use Rattle.kr_ast.specs.Arena.{Arena, name_in}
use Rattle.kr_classes_table.specs.Table as table
use Rattle.kr_classes_table.specs.Rules.{break_if, is_name_among, least, object_methods}
use Rattle.kr_base.proofs.Added.{flat_all}
use Rattle.kr_classes_members.specs.declared.methods.Method.{Method}
use Rattle.kr_classes_members.specs.Shown.{table_in, method_name, method_shown}
use Rattle.kr_classes_members.proofs.Upwards.{kept_count}
use Rattle.kr_classes.proofs.Each.{methods_there, one_each}
use Rattle.kr_classes.proofs.method_rules.object_method.Goals as goal

pub loop-method-preserved : goal.loop-method-preserved
loop-method-preserved c =
    let files = c.args.trees.now in
    let absent : Method = record { file = 0; class = 0; name = record { start = 0; end = 0 }; place = record { file = 0; line = 0; col = 0 }; is_static = false; parameters = 0; result = 0; contracts = 0; body = 0 } in
    let xs = c.methods-method-items.result.now in
    let i = c.loop-method.method-index in
    let l : i < length xs = c.loop-method-test.true in
    let x = get_or xs i absent in
    let name : c.name-name.result.now ≡ method_name files x = c.name-name.ensures ∙ ap (λ (a : Arena). name_in a.text x.name) c.tree_of.ensures in
    one_each 6 (λ m. break_if (is_name_among (method_name files m) object_methods) 6 m.place) xs i absent c.loop-method.first c.if_broken.result c.earlier-first.result l c.loop-method.invariant c.earlier-first.ensures.fault
    (c.if_broken.ensures 6 ∙ ap (λ (b : Bool). least (break_if b 6 x.place)) (c.is_object_method.ensures ∙ ap (λ (n : List ℕ). is_name_among n object_methods) name))

pub returns : goal.returns
returns c =
    let files = c.args.trees.now in
    let t = table_in files in
    let h = c.requires.members in
    let l : c.args.class < length t.classes = omega (arith, c.requires.class, kept_count files c.args.members.now h) in
    let g = λ (m : table.Method). break_if (is_name_among m.name object_methods) 6 m.place in
    c.loop-method.invariant
    ∙ ap least (flat_all g (method_shown files) c.methods-method-items.result.now c.loop-method.method-index _ (omega arith) (c.methods-method-items.ensures.shown files h) ∙ ap (flat_map g) (methods_there t c.args.class l))
