use Rattle.std.proofs.Common.{arith, length, ap, List}
use Rattle.kr_space_layout.specs.declared.stretch.Stretch.{Stretch}
use Rattle.kr_space_layout.specs.Stretches.{all_choices}
use Rattle.kr_space_layout.proofs.Pieces.{all_long}
use Rattle.kr_space_layout.proofs.values.Values.size.Goals as goal

pub returns : goal.returns
returns c =
    omega (arith, all_long 0 c.self.inside.pieces.items c.self.inside.size c.self.invariant.0.counted, ap (λ (s : List Stretch). length (all_choices s)) c.self.view_is)
