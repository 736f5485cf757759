use Rattle.std.proofs.Common.{arith}
use Rattle.std.proofs.lemmas.Bool.Decides.{nat_tests}
use Rattle.kr_trace.proofs.Logs.{begins_taking, cut_refused, taken_count, taken_few, takes_all, takes_on, takes_refused}
use Rattle.kr_trace.proofs.Sections.{shorter}
use Rattle.kr_trace.proofs.judging.take_lines.Goals as goal

pub loop-line-init : goal.loop-line-init
loop-line-init c = begins_taking c.args.listing.now _ c.args.first c.args.text.now

pub loop-line-smaller : goal.loop-line-smaller
loop-line-smaller c = shorter c.loop-line.rest.now c.in-Some.line.now c.in-Some.later.now c.in-Some.ensures.1

pub overflow_add-first : goal.overflow_add-first
overflow_add-first c = let few = taken_few _ _ _ _ _ _ _ c.loop-line.invariant in omega (arith, few, c.requires.small)

pub overflow_add-count : goal.overflow_add-count
overflow_add-count c = let few = taken_few _ _ _ _ _ _ _ c.loop-line.invariant in omega (arith, few, c.requires.small)

pub returns-in-Err-clause-reaches : goal.returns-in-Err-clause-reaches
returns-in-Err-clause-reaches c =
    takes_refused _ _ _ _ _ c.loop-line.rest.now c.in-Some.line.now c.in-Some.later.now c.loop-line.count c.in-Err.refusal c.loop-line.invariant c.in-Some.ensures.0 c.in-Err.ensures

pub loop-line-preserved : goal.loop-line-preserved
loop-line-preserved c =
    takes_on _ _ _ _ _ _ c.loop-line.rest.now c.in-Some.line.now c.in-Some.later.now c.loop-line.count c.loop-line.invariant c.in-Some.ensures.0 c.in-Some.ensures.1 c.in-Ok.ensures

pub returns-then-is_empty-clause-reaches : goal.returns-then-is_empty-clause-reaches
returns-then-is_empty-clause-reaches c =
    takes_all _ _ _ _ _ c.loop-line.rest.now c.loop-line.count c.loop-line.invariant c.in_default.ensures (grind (arith, nat_tests))

pub returns-then-is_empty-clause-count : goal.returns-then-is_empty-clause-count
returns-then-is_empty-clause-count c = taken_count _ _ _ _ _ _ _ c.loop-line.invariant c.in_default.ensures

pub overflow_add-first-else-is_empty : goal.overflow_add-first-else-is_empty
overflow_add-first-else-is_empty c = let few = taken_few _ _ _ _ _ _ _ c.loop-line.invariant in omega (arith, few, c.requires.small)

pub returns-else-is_empty-clause-reaches : goal.returns-else-is_empty-clause-reaches
returns-else-is_empty-clause-reaches c =
    cut_refused _ _ _ _ _ c.loop-line.rest.now c.loop-line.count c.bad.result c.loop-line.invariant c.in_default.ensures (grind (arith, nat_tests)) c.bad.ensures
