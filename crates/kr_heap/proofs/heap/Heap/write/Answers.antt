use Rattle.std.proofs.Common.{◌<◌, List, length, slice_set, arith}
use Rattle.kr_value.specs.declared.value.Value.{Value}
use Rattle.kr_heap.proofs.Objects.{changed}
use Rattle.kr_heap.proofs.heap.Heap.write.Goals as goal

pub returns-then-object-len : goal.returns-then-object-len
returns-then-object-len c =
    let lt : c.args.object < length c.self.inside.objects.items = search arith in
    rw (← c.self.view_is) (changed (λ (vs : List Value). slice_set vs c.args.at c.args.value) c.self.inside.objects.items c.args.object c.index_mut.result.now c.write.new.self lt c.index_mut.ensures.value c.write.ensures.class c.write.ensures.values)
