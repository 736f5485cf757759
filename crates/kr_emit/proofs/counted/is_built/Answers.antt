use Rattle.std.proofs.Common.{arith}
use Rattle.kr_classes_members.specs.Shown.{table_in}
use Rattle.kr_emit.proofs.Faults.{built_here, built_none, built_on}
use Rattle.kr_emit.proofs.counted.is_built.Goals as goal

pub returns-then-is_counted : goal.returns-then-is_counted
returns-then-is_counted c = λ files h.
    built_here (table_in files) c.args.class c.args.layout.now.domains c.loop-domain.domain c.is_counted.result (omega arith) (c.is_counted.ensures files h) c.if-is_counted.true (c.loop-domain.invariant files h)

pub loop-domain-preserved : goal.loop-domain-preserved
loop-domain-preserved c = λ files h.
    built_on (table_in files) c.args.class c.args.layout.now.domains c.loop-domain.domain c.is_counted.result (omega arith) (c.is_counted.ensures files h) c.if-is_counted.false (c.loop-domain.invariant files h)

pub returns : goal.returns
returns c = λ files h. built_none (table_in files) c.args.class c.args.layout.now.domains c.loop-domain.domain (omega arith) (c.loop-domain.invariant files h)
