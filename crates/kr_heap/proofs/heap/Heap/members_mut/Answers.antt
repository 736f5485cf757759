use Rattle.std.proofs.Common.{◌<◌, length, arith, refl, sym, ap}
use Rattle.std.proofs.lemmas.List.{length-map}
use Rattle.kr_value.specs.Heaps.{HeapObject}
use Rattle.kr_heap.specs.Shown.{shown}
use Rattle.kr_heap.proofs.Objects.{there, replaced}
use Rattle.kr_heap.proofs.heap.Heap.members_mut.Goals as goal

pub returns : goal.returns
returns c =
    let objects = c.self.inside.objects.items in
    let row = c.index_mut-found.result.now in
    let lt : c.args.object < length objects = omega (arith, c.requires, ap length c.self.view_is, length-map objects shown) in
    let is = c.index_mut-found.ensures.value in (
      (refl, λ w. rw (← c.self.view_is) (replaced objects c.args.object row (record { class = row.class; values = w }) w lt is refl refl)),
      record { lends = tt; members = rw (← c.self.view_is) (sym (ap (λ (x : HeapObject). x.values) (there objects c.args.object row lt is))) },
    )
