use Rattle.std.proofs.Common.{get_or, ◌∙◌, sym, arith}
use Rattle.std.proofs.lemmas.Bool.{eq-eqb, ne_eqb}
use Rattle.kr_emit.proofs.Named.{contains_here, contains_none, contains_on}
use Rattle.kr_emit.proofs.objects.is_among.Goals as goal

pub loop-other-preserved : goal.loop-other-preserved
loop-other-preserved c = c.loop-other.invariant ∙ contains_on c.args.objects.now c.loop-other.other-index c.args.object 0 c.loop-other-test.true (ne_eqb (get_or c.args.objects.now c.loop-other.other-index 0) c.args.object c.if-other-object.false)

pub returns-then-other-object : goal.returns-then-other-object
returns-then-other-object c = sym (c.loop-other.invariant ∙ contains_here c.args.objects.now c.loop-other.other-index c.args.object 0 c.loop-other-test.true (eq-eqb (get_or c.args.objects.now c.loop-other.other-index 0) c.args.object c.if-other-object.true))

pub returns : goal.returns
returns c = sym (c.loop-other.invariant ∙ contains_none c.args.objects.now c.loop-other.other-index c.args.object (omega (arith, c.loop-other-test.false)))
