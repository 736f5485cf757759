use Rattle.std.proofs.Common.{sym, ap, ◌∙◌, ◌<◌, ◌+◌, ◌-◌, ◌++◌, ◌∷◌, [], append-nil, append_assoc, arith}
use Rattle.kr_classes_table.specs.Table.{line_within}
use Rattle.kr_classes_members.specs.Shown.{table_in}
use Rattle.kr_classes_members.specs.Kept.{class_count}
use Rattle.kr_classes_members.proofs.Upwards.{ended, upwards}
use Rattle.kr_classes_members.proofs.members.Members.line.Goals as goal

pub returns-in-None : goal.returns-in-None
returns-in-None c = λ files h.
    let kept = c.loop-step.line.items in
    let left = class_count c.args.self.now + 1 - c.loop-step.step in
    sym (append-nil kept) ∙ ap (λ cs. kept ++ cs) (sym (ended left (table_in files) c.loop-step.at c.in-None.is)) ∙ c.loop-step.invariant files h

pub loop-step-preserved : goal.loop-step-preserved
loop-step-preserved c = λ files h.
    let t = table_in files in
    let n = class_count c.args.self.now + 1 in
    let i = c.loop-step.step in
    let l : i < n = omega (arith, c.len-steps.ensures.count) in
    let kept = c.loop-step.line.items in
    let rest = line_within (n - (i + 1)) t c.superclass-at.result in
    ap (λ cs. cs ++ rest) c.in_ok-push-in-Some.ensures.items
    ∙ append_assoc kept (c.in-Some.here ∷ []) rest
    ∙ ap (λ cs. kept ++ cs) (sym (upwards t n i c.in-Some.here c.loop-step.at c.superclass-at.result l c.in-Some.is (c.superclass-at.ensures files h)))
    ∙ c.loop-step.invariant files h
