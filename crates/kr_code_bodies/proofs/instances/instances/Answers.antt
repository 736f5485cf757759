use Rattle.std.proofs.Common.{false, arith}
use Rattle.kr_classes_names.specs.Types.{type_at}
use Rattle.kr_code_bodies.specs.Tabled.{IsInstance}
use Rattle.kr_code_bodies.proofs.Rows.{row_more, whole_table}
use Rattle.kr_code_bodies.proofs.Forms.{type_past, void_row}
use Rattle.kr_code_bodies.proofs.instances.instances.Goals as goal

pub loop-number-preserved : goal.loop-number-preserved
loop-number-preserved c = λ files arrays h.
    row_more false (λ k. IsInstance files arrays (type_at c.args.types.now k)) c.loop-number.number c.loop-number.rows.items _ c.in_ok-instance_row.field-0 (c.loop-number.invariant files arrays h) c.in_ok-push.ensures.items (c.in_ok-instance_row.ensures files arrays h)

pub returns : goal.returns
returns c = λ files arrays h.
    whole_table false (λ k. IsInstance files arrays (type_at c.args.types.now k)) c.loop-number.number c.loop-number.rows.items (c.loop-number.invariant files arrays h)
    (λ k d l. void_row files arrays (type_at c.args.types.now k) (type_past c.args.types.now k (omega (arith, l, c.len-count.ensures))) d)
