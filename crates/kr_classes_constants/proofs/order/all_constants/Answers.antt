use Rattle.std.proofs.Common.{refl, ap, ◌∙◌, map, arith}
use Rattle.std.specs.Prelude.{flat_map}
use Rattle.std.proofs.lemmas.List.{take_all}
use Rattle.kr_classes_table.specs.Constants.{constants_in}
use Rattle.kr_classes_members.specs.Shown.{field_shown, table_in}
use Rattle.kr_classes_constants.proofs.Listed.{constants_step}
use Rattle.kr_classes_constants.proofs.order.all_constants.Goals as goal

pub loop-class-preserved : goal.loop-class-preserved
loop-class-preserved c =
    record {
      stands = λ files h. c.in_ok-add_constants.ensures.stands files h (c.loop-class.invariant.stands files h);
      shown = λ files h.
          let all = c.len-classes.ensures.all files h in
          c.in_ok-add_constants.ensures.shown files h
          ∙ constants_step (table_in files) (map (field_shown files) c.loop-class.constants.items) _ c.loop-class.class (omega arith) (c.loop-class.invariant.shown files h) refl;
    }

pub returns-clause-shown : goal.returns-clause-shown
returns-clause-shown c = λ files h.
    let all = c.len-classes.ensures.all files h in
    c.loop-class.invariant.shown files h ∙ ap (flat_map constants_in) (take_all c.loop-class.class (table_in files).classes (omega arith))
