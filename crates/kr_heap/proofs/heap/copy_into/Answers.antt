use Rattle.std.proofs.Common.{rules, ◌<◌, length, ap, ◌∙◌}
use Rattle.kr_heap.specs.Shown.{shown}
use Rattle.kr_heap.proofs.Copies.{one_more}
use Rattle.kr_heap.proofs.heap.copy_into.Goals as goal

pub objects-preserved : goal.objects-preserved
objects-preserved c =
    let here : c.objects.number < length c.objects.objects.items = search rules in
    let there : c.objects.number < length c.args.others.now = search rules in
    (search rules, one_more shown c.objects.objects.items c.copy_from.new.self c.args.others.now c.objects.number _ here there c.objects.invariant.1 (c.in_ok-copy_from.ensures ∙ ap shown c.index-others-number.is))
