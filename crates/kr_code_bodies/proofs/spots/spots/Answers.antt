use Rattle.std.proofs.Common.{sym, ap, subst, length, arith}
use Rattle.std.specs.Prelude.{None}
use Rattle.kr_classes_table.specs.Table as table
use Rattle.kr_classes_members.specs.Shown.{table_in}
use Rattle.kr_classes_members.specs.Rosters.{field_numbered}
use Rattle.kr_code_bodies.specs.Rows.{IsRow}
use Rattle.kr_code_bodies.specs.Tabled.{IsSpot}
use Rattle.kr_code_bodies.proofs.Rows.{row_more, whole_table}
use Rattle.kr_code_bodies.proofs.Nowhere.{no_spot}
use Rattle.kr_code_bodies.proofs.Numbered.{field_absent, field_there}
use Rattle.kr_code_bodies.proofs.spots.spots.Goals as goal

pub loop-field-preserved : goal.loop-field-preserved
loop-field-preserved c =
    let files = c.args.trees.now in
    let k = c.loop-field.field-index in
    let e = field_there files c.args.roster.now c.requires.roster k c.deref-field-items.result.now _ c.deref-field-items.ensures.value c.loop-field-test.true in
    row_more None (λ k. IsSpot files (field_numbered (table_in files) k)) k c.loop-field.rows.items _ c.in_ok-spot_row.field-0 c.loop-field.invariant c.in_ok-push.ensures.items
    (subst (λ (f : table.Field). IsRow None (IsSpot files f) c.in_ok-spot_row.field-0.items) (sym e) c.in_ok-spot_row.ensures)

pub returns : goal.returns
returns c =
    let files = c.args.trees.now in
    whole_table None (λ k. IsSpot files (field_numbered (table_in files) k)) c.loop-field.field-index c.loop-field.rows.items c.loop-field.invariant
    (λ k d l. subst (λ (f : table.Field). IsSpot files f d None) (sym (field_absent files c.args.roster.now c.requires.roster k (omega (arith, l, ap length c.deref-field-items.ensures.value)))) (no_spot files d))
