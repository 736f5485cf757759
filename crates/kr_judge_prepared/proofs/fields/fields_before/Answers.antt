use Rattle.std.proofs.Common.{◌≡◌, ◌+◌, List, sym, subst, arith}
use Rattle.std.specs.Prelude.{Vec}
use Rattle.std.specs.declared.alloc.Global.{Global}
use Rattle.kr_classes_members.specs.Kept.{class_count}
use Rattle.kr_classes_members.specs.declared.fields.Field.{Field}
use Rattle.kr_judge_prepared.specs.Fields.{rows_of}
use Rattle.kr_judge_prepared.proofs.Rows.{AreFirstFields, all_rows, none_first, one_more}
use Rattle.kr_judge_prepared.proofs.fields.fields_before.Goals as goal

pub loop-class-init : goal.loop-class-init
loop-class-init c = λ files h. subst (λ (rows : List (Vec Field Global)). AreFirstFields files 0 (rows_of rows)) (sym c.new-rows.ensures.items) (none_first files)

pub loop-class-preserved : goal.loop-class-preserved
loop-class-preserved c = λ files h.
    subst (λ (rows : List (Vec Field Global)). AreFirstFields files (c.loop-class.class + 1) (rows_of rows)) (sym c.in_ok-push.ensures.items)
    (one_more files c.loop-class.class c.loop-class.rows.items c.in_ok-row.row (c.loop-class.invariant files h) (c.in_ok-row.ensures.stands files h) (c.in_ok-row.ensures.shown files h))

pub returns : goal.returns
returns c = λ files h.
    let all : c.loop-class.class ≡ class_count c.args.members.now = omega arith in
    all_rows files c.args.members.now c.loop-class.class (rows_of c.loop-class.rows.items) h all (c.loop-class.invariant files h)
