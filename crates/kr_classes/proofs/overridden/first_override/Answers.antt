use Rattle.std.proofs.Common.{◌<◌, ap, ◌∙◌, false, length, arith}
use Rattle.kr_classes_table.specs.Rules.{least, overrides}
use Rattle.kr_base.proofs.Added.{flat_all}
use Rattle.kr_classes_members.specs.declared.methods.Method.{Method}
use Rattle.kr_classes_members.specs.Shown.{table_in, method_shown}
use Rattle.kr_classes.specs.Overriding.{is_shared, rule_for}
use Rattle.kr_classes.proofs.Each.{one_each}
use Rattle.kr_classes.proofs.overridden.first_override.Goals as goal

pub loop-method-preserved : goal.loop-method-preserved
loop-method-preserved c =
    let files = c.args.trees.now in
    let t = table_in files in
    let s = c.args.shared in
    let absent : Method = record { file = 0; class = 0; name = record { start = 0; end = 0 }; place = record { file = 0; line = 0; col = 0 }; is_static = false; parameters = 0; result = 0; contracts = 0; body = 0 } in
    let xs = c.methods-method-items.result.now in
    let i = c.loop-method.method-index in
    let l : i < length xs = c.loop-method-test.true in
    one_each (rule_for s) (λ m. overrides t c.args.class (rule_for s) (is_shared s t) (method_shown files m)) xs i absent c.loop-method.first c.in_ok-place.place c.earlier-first.result l c.loop-method.invariant c.earlier-first.ensures.fault c.in_ok-place.ensures

pub returns : goal.returns
returns c =
    let files = c.args.trees.now in
    let t = table_in files in
    let s = c.args.shared in
    c.loop-method.invariant
    ∙ ap least (flat_all (overrides t c.args.class (rule_for s) (is_shared s t)) (method_shown files) c.methods-method-items.result.now c.loop-method.method-index _ (omega arith) (c.methods-method-items.ensures.shown files c.requires.members))
