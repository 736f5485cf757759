use Rattle.std.proofs.Common.{List, ap, sym, ◌∙◌}
use Rattle.std.specs.Prelude.{map}
use Rattle.std.proofs.lemmas.List.{take-map}
use Rattle.kr_heap.specs.declared.object.Object.{Object}
use Rattle.kr_heap.specs.Shown.{shown}
use Rattle.kr_heap.proofs.heap.Heap.truncate.Goals as goal

pub returns : goal.returns
returns c = rw (← c.self.view_is) (ap (λ (xs : List Object). map shown xs) c.truncate.ensures.items ∙ sym (take-map shown c.args.count c.self.inside.objects.items))
