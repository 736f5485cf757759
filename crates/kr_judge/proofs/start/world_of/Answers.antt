use Rattle.std.proofs.Common.{◌++◌, ap, ◌∙◌, length, List}
use Rattle.std.specs.Prelude.{map}
use Rattle.std.proofs.lemmas.List.{append-nil}
use Rattle.kr_value.specs.Heaps.{HeapObject}
use Rattle.kr_space_layout.specs.Bounds.{bare}
use Rattle.kr_run_state.specs.Shown.{old_of}
use Rattle.kr_run_state.specs.declared.world.Old.{Old}
use Rattle.kr_judge.proofs.Starts.{begins, heap_long}
use Rattle.kr_judge.proofs.start.world_of.Goals as goal

pub returns-clause-state : goal.returns-clause-state
returns-clause-state c =
    let p = bare c.args.layout.now in
    let v = c.args.vector.now in
    let own = c.in_ok-candidates.candidates in
    let heap = ap (λ (h : List HeapObject). own ++ h) c.new-2.ensures ∙ (append-nil own ∙ c.in_ok-candidates.ensures) in
    let long = ap (λ (h : List HeapObject). length h) c.in_ok-candidates.ensures ∙ heap_long p v in
    begins p v c.value_in.ensures c.in_ok-locals.ensures (ap (λ (os : List Old). map old_of os) c.new.ensures.items) heap long c.fuel.ensures
