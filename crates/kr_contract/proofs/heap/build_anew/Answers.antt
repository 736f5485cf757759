use Rattle.std.proofs.Common.{◌∙◌, sym}
use Rattle.kr_space_layout.specs.Bounds.{bare}
use Rattle.kr_build.proofs.Changed.{vector_long}
use Rattle.kr_contract.proofs.heap.build_anew.Goals as goal

pub copy_from-requires : goal.copy_from-requires
copy_from-requires c = c.in_ok-fit.ensures ∙ (c.slots.ensures ∙ sym (vector_long (bare c.args.layout.now) c.args.vector.now c.requires.vector))
