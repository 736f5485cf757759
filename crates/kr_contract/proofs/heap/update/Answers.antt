use Rattle.std.proofs.Common.{sym, ◌∙◌}
use Rattle.kr_space_layout.specs.Bounds.{bare}
use Rattle.kr_build.proofs.Changed.{vector_long}
use Rattle.kr_contract.proofs.Beyond.{same_but_all}
use Rattle.kr_contract.proofs.heap.update.Goals as goal

pub update_within-requires-clause-same : goal.update_within-requires-clause-same
update_within-requires-clause-same c =
    let b = bare c.args.layout.now in
    let u = c.args.kept.now.vector in
    let v = c.args.vector.now in
    same_but_all u v c.slots-slots.result (vector_long b u (c.requires.kept c.requires.built).vector ∙ sym c.slots-slots.ensures) (vector_long b v c.requires.vector ∙ sym c.slots-slots.ensures)
