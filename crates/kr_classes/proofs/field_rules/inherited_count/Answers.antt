use Rattle.std.proofs.Common.{◌<◌, ◌+◌, ◌-◌, sym, ap, ◌∙◌, min, length, arith}
use Rattle.std.specs.Prelude.{flat_map}
use Rattle.kr_classes_table.specs.Table.{is_instance, line_within, own_fields}
use Rattle.kr_classes_members.specs.Kept.{class_count}
use Rattle.kr_classes_members.proofs.Upwards.{ended}
use Rattle.kr_classes_members.specs.Shown.{table_in}
use Rattle.kr_classes.proofs.Counts.{capped, closing, count_onward}
use Rattle.kr_classes.proofs.field_rules.inherited_count.Goals as goal

pub returns-in-None-clause-value : goal.returns-in-None-clause-value
returns-in-None-clause-value c = λ files h.
    let t = table_in files in
    let left = class_count c.args.members.now - c.loop-step.step in
    closing c.loop-step.total (length (flat_map is_instance (flat_map (own_fields t) (line_within left t c.loop-step.at)))) _ c.loop-step.invariant.small
    (ap (λ cs. length (flat_map is_instance (flat_map (own_fields t) cs))) (ended left t c.loop-step.at c.in-None.is)) (c.loop-step.invariant.left files h)

pub loop-step-preserved : goal.loop-step-preserved
loop-step-preserved c =
    let n = class_count c.args.members.now in
    let i = c.loop-step.step in
    let l : i < n = omega (arith, c.len-step-end.ensures.count) in
    let here = c.in-Some.here in
    let next = c.superclass-at-in-Some.result in
    record {
      small = omega (arith, c.capped_sum-total.ensures);
      left = λ files h.
          let t = table_in files in
          let rest = length (flat_map is_instance (flat_map (own_fields t) (line_within (n - (i + 1)) t next))) in
          capped c.capped_sum-total.result c.loop-step.total c.instance_count.result rest _ c.capped_sum-total.ensures
          (ap (λ k. min 32 (c.loop-step.total + (k + rest))) (c.instance_count.ensures files h)
          ∙ ap (λ k. min 32 (c.loop-step.total + k)) (sym (count_onward t n i here c.loop-step.at next l c.in-Some.is (c.superclass-at-in-Some.ensures files h)))
          ∙ c.loop-step.invariant.left files h);
    }
