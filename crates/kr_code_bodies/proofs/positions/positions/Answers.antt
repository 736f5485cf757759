use Rattle.std.proofs.Common.{sym, ap, ◌∙◌, subst, List, ℕ, map, arith}
use Rattle.std.specs.Prelude.{None}
use Rattle.kr_code.specs.Tables.{row_items}
use Rattle.kr_code_bodies.specs.Rows.{IsRow}
use Rattle.kr_code_bodies.specs.Tabled.{IsPosition, name_numbered}
use Rattle.kr_code_bodies.proofs.Rows.{row_more, whole_table}
use Rattle.kr_code_bodies.proofs.Names.{no_position}
use Rattle.kr_code_bodies.proofs.Numbered.{name_absent, name_there}
use Rattle.kr_code_bodies.proofs.positions.positions.Goals as goal

pub loop-name-preserved : goal.loop-name-preserved
loop-name-preserved c =
    let files = c.args.trees.now in
    let names = c.args.names.now in
    let k = c.loop-name.name-index in
    let e = name_there files names k c.name-item.result c.loop-name-test.true ∙ ap row_items (sym c.name-item.is) ∙ sym c.deref.ensures.value in
    row_more None (λ k. IsPosition files (name_numbered files (map row_items names) k)) k c.loop-name.rows.items _ c.in_ok-position_row.field-0 c.loop-name.invariant c.in_ok-push.ensures.items
    (subst (λ (n : List ℕ). IsRow None (IsPosition files n) c.in_ok-position_row.field-0.items) (sym e) c.in_ok-position_row.ensures)

pub returns : goal.returns
returns c =
    let files = c.args.trees.now in
    let names = c.args.names.now in
    whole_table None (λ k. IsPosition files (name_numbered files (map row_items names) k)) c.loop-name.name-index c.loop-name.rows.items c.loop-name.invariant
    (λ k d l. subst (λ (n : List ℕ). IsPosition files n d None) (sym (name_absent files names k (omega (arith, l)))) (no_position files d))
