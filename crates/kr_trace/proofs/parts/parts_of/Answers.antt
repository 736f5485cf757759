use Rattle.std.proofs.Common.{List, ℕ, None, ◌∙◌, arith, subst, sym}
use Rattle.kr_trace.specs.Stages.{HasParts}
use Rattle.kr_trace.proofs.Sections.{last_found, last_missing, no_rows_yet, one_row, rows_few, shorter}
use Rattle.kr_trace.proofs.parts.parts_of.Goals as goal

pub loop-line-init : goal.loop-line-init
loop-line-init c = no_rows_yet c.args.text.now

pub loop-line-smaller : goal.loop-line-smaller
loop-line-smaller c = shorter c.loop-line.rest.now c.in-Some.line.now c.in-Some.after.now c.in-Some.ensures.1

pub overflow_add-rows : goal.overflow_add-rows
overflow_add-rows c = let few = rows_few c.args.text.now c.loop-line.rest.now c.loop-line.rows c.loop-line.invariant in omega (arith, few)

pub loop-line-preserved : goal.loop-line-preserved
loop-line-preserved c =
    one_row c.args.text.now c.loop-line.rest.now c.in-Some.line.now c.in-Some.after.now c.loop-line.rows c.in_ok-last.last c.loop-line.invariant c.in-Some.ensures.0 c.in-Some.ensures.1 c.in_ok-last.ensures
    (sym c.is_some.ensures ∙ c.if-is_some.false)

pub returns-then-is_some : goal.returns-then-is_some
returns-then-is_some c =
    last_found c.args.text.now c.loop-line.rest.now c.in-Some.line.now c.in-Some.after.now c.loop-line.rows c.in_ok-last.last c.loop-line.invariant c.in-Some.ensures.0 c.in-Some.ensures.1 c.in_ok-last.ensures
    (sym c.is_some.ensures ∙ c.if-is_some.true)

pub returns : goal.returns
returns c =
    subst (λ (events : List ℕ). HasParts c.args.text.now c.loop-line.rows None events) (sym c.as_slice.ensures)
    (last_missing c.args.text.now c.loop-line.rest.now c.loop-line.rows c.loop-line.invariant c.in_default.ensures)
