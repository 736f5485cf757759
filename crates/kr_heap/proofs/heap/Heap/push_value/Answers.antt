use Rattle.std.proofs.Common.{◌<◌, List, [], ◌∷◌, ◌++◌, length, arith, ◌∙◌}
use Rattle.kr_value.specs.declared.value.Value.{Value}
use Rattle.kr_heap.proofs.Objects.{changed, kept, on_err}
use Rattle.kr_heap.proofs.heap.Heap.push_value.Goals as goal

pub returns-in_err-push-clause-unchanged : goal.returns-in_err-push-clause-unchanged
returns-in_err-push-clause-unchanged c =
    on_err c.from_residual.result (kept c.self.inside.objects.items c.args.object c.index_mut.result.now c.push.new.self c.index_mut.ensures.value c.push.ensures.class c.in_err-push.ensures.unchanged ∙ c.self.view_is)

pub returns-in_ok-push-clause-added : goal.returns-in_ok-push-clause-added
returns-in_ok-push-clause-added c =
    let lt : c.args.object < length c.self.inside.objects.items = search arith in
    rw (← c.self.view_is) (changed (λ (vs : List Value). vs ++ c.args.value ∷ []) c.self.inside.objects.items c.args.object c.index_mut.result.now c.push.new.self lt c.index_mut.ensures.value c.push.ensures.class c.in_ok-push.ensures.added)
