use Rattle.std.proofs.Common.{◌<◌, length, take, arith}
use Rattle.kr_heap.proofs.Objects.{changed}
use Rattle.kr_heap.proofs.heap.Heap.truncate_values.Goals as goal

pub returns-then-object-len : goal.returns-then-object-len
returns-then-object-len c =
    let lt : c.args.object < length c.self.inside.objects.items = search arith in
    rw (← c.self.view_is) (changed (take c.args.count) c.self.inside.objects.items c.args.object c.index_mut.result.now c.truncate.new.self lt c.index_mut.ensures.value c.truncate.ensures.class c.truncate.ensures.values)
