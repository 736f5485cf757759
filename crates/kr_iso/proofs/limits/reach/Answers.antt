use Rattle.std.proofs.Common.{◌+◌, sym, ap, ◌∙◌, arith}
use Rattle.kr_iso.specs.Objects.{shown, object_of}
use Rattle.kr_iso.proofs.Rows.{plain_row, object_row}
use Rattle.kr_iso.proofs.limits.reach.Goals as goal

pub returns-in-None-clause-allowed : goal.returns-in-None-clause-allowed
returns-in-None-clause-allowed g c = λ j from to.
    plain_row (g.S.Slots.space c.args.slots.now) c.args.path.now c.args.slot (c.args.index + 1) c.row-row.result c.row-row.ensures (sym c.object_at.ensures ∙ ap shown c.in-None.is) j (omega (arith, from)) (omega (arith, to))

pub returns-then-count-from-clause-allowed : goal.returns-then-count-from-clause-allowed
returns-then-count-from-clause-allowed g c = λ j from to.
    object_row (g.S.Slots.space c.args.slots.now) c.args.path.now c.args.slot (c.args.index + 1) c.row-row.result c.row-row.ensures (object_of c.in-Some.object) (sym c.object_at.ensures ∙ ap shown c.in-Some.is)
    c.let_after-count.result (omega (arith, c.if-count-from.true)) c.let_after-count.ensures j (omega (arith, from)) (omega (arith, to))

pub returns-else-count-from-clause-allowed : goal.returns-else-count-from-clause-allowed
returns-else-count-from-clause-allowed g c = λ j from to.
    object_row (g.S.Slots.space c.args.slots.now) c.args.path.now c.args.slot (c.args.index + 1) c.row-row.result c.row-row.ensures (object_of c.in-Some.object) (sym c.object_at.ensures ∙ ap shown c.in-Some.is)
    c.row-row.result (omega arith) (λ n h. c.let_after-count.ensures n (omega (arith, h, c.if-count-from.false))) j (omega (arith, from)) (omega (arith, to))
