use Rattle.std.proofs.Common.{sym, ap, subst, length, arith}
use Rattle.std.specs.Prelude.{None}
use Rattle.kr_classes_table.specs.Table as table
use Rattle.kr_classes_members.specs.Shown.{table_in}
use Rattle.kr_classes_members.specs.Rosters.{method_numbered}
use Rattle.kr_code_bodies.specs.Rows.{IsRow}
use Rattle.kr_code_bodies.specs.Tabled.{IsOverrider}
use Rattle.kr_code_bodies.proofs.Rows.{row_more, whole_table}
use Rattle.kr_code_bodies.proofs.Nowhere.{no_overrider}
use Rattle.kr_code_bodies.proofs.Numbered.{method_absent, method_there}
use Rattle.kr_code_bodies.proofs.dispatch.dispatch.Goals as goal

pub loop-method-preserved : goal.loop-method-preserved
loop-method-preserved c =
    let files = c.args.trees.now in
    let k = c.loop-method.method-index in
    let e = method_there files c.args.roster.now c.requires.roster k c.deref-method-items.result.now _ c.deref-method-items.ensures.value c.loop-method-test.true in
    row_more None (λ k. IsOverrider files (method_numbered (table_in files) k)) k c.loop-method.rows.items _ c.in_ok-dispatch_row.field-0 c.loop-method.invariant c.in_ok-push.ensures.items
    (subst (λ (m : table.Method). IsRow None (IsOverrider files m) c.in_ok-dispatch_row.field-0.items) (sym e) c.in_ok-dispatch_row.ensures)

pub returns : goal.returns
returns c =
    let files = c.args.trees.now in
    whole_table None (λ k. IsOverrider files (method_numbered (table_in files) k)) c.loop-method.method-index c.loop-method.rows.items c.loop-method.invariant
    (λ k d l. subst (λ (m : table.Method). IsOverrider files m d None) (sym (method_absent files c.args.roster.now c.requires.roster k (omega (arith, l, ap length c.deref-method-items.ensures.value)))) (no_overrider files d))
