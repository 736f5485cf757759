use Rattle.std.proofs.Common.{◌++◌, ◌≤◌, List, ap, sym, length, arith, ◌∙◌}
use Rattle.std.specs.Prelude.{map}
use Rattle.std.proofs.lemmas.List.{drop_all, append-nil}
use Rattle.kr_mean.specs.Heaps.{heap_object, heap_of}
use Rattle.kr_mean.specs.Problem.{ClassDomain, objects_from}
use Rattle.kr_space_layout.specs.Bounds.{bare}
use Rattle.kr_build.proofs.heap.build.Goals as goal

pub returns : goal.returns
unfolding heap_of
returns c =
    let f = heap_object (bare c.args.layout.now) c.args.vector.now in
    let end : length c.args.layout.now.domains ≤ c.loop-domain.domain = omega (arith, c.loop-domain-test.false, c.in-Ok.ensures, c.domains-count.ensures) in
    sym (c.loop-domain.invariant
    ∙ (ap (λ (ds : List ClassDomain). c.loop-domain.heap ++ map f (objects_from c.loop-domain.domain ds)) (drop_all c.loop-domain.domain c.args.layout.now.domains end)
    ∙ append-nil c.loop-domain.heap))
