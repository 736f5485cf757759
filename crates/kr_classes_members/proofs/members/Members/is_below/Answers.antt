use Rattle.std.proofs.Common.{◌∙◌, ◌<◌, ◌+◌, ◌-◌, arith}
use Rattle.kr_classes_table.specs.Table.{line_within}
use Rattle.kr_classes_members.specs.Shown.{table_in}
use Rattle.kr_classes_members.specs.Kept.{class_count}
use Rattle.kr_classes_members.proofs.Upwards.{ended, met, not_met, passed}
use Rattle.kr_classes_members.proofs.members.Members.is_below.Goals as goal

pub returns-in-None : goal.returns-in-None
returns-in-None c = λ files h.
    let left = class_count c.args.self.now + 1 - c.loop-step.step in
    not_met c.args.other (line_within left (table_in files) c.loop-step.at) (ended left (table_in files) c.loop-step.at c.in-None.is) ∙ c.loop-step.invariant files h

pub returns-then-here-other : goal.returns-then-here-other
returns-then-here-other c = λ files h.
    let n = class_count c.args.self.now + 1 in
    let l : c.loop-step.step < n = omega (arith, c.len-steps.ensures.count) in
    met (table_in files) n c.loop-step.step c.in-Some.here c.args.other c.loop-step.at l c.in-Some.is c.if-here-other.true ∙ c.loop-step.invariant files h

pub loop-step-preserved : goal.loop-step-preserved
loop-step-preserved c = λ files h.
    let n = class_count c.args.self.now + 1 in
    let l : c.loop-step.step < n = omega (arith, c.len-steps.ensures.count) in
    passed (table_in files) n c.loop-step.step c.in-Some.here c.args.other c.loop-step.at c.superclass-at.result l c.in-Some.is (c.superclass-at.ensures files h) c.if-here-other.false ∙ c.loop-step.invariant files h
