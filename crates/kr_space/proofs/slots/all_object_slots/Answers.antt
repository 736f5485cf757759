use Rattle.kr_space_rules.specs.Classes.{files_of}
use Rattle.kr_space.proofs.SlotCounts.{object_more}
use Rattle.kr_space.proofs.slots.all_object_slots.Goals as goal

pub loop-object-preserved : goal.loop-object-preserved
loop-object-preserved c = record {
  is = object_more (files_of c.args.classes.now) c.args.document.now c.args.objects.now c.loop-object.object-index _ _ c.loop-object.total c.in_ok-own.own c.saturating_add-total.result c.loop-object-test.true c.in_ok-own.ensures c.saturating_add-total.ensures c.loop-object.invariant.is;
  small = c.saturating_add-total.type_inv;
}
