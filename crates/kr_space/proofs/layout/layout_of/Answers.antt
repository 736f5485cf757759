use Rattle.kr_space.specs.Basis.{setting_on}
use Rattle.kr_space.proofs.Laid.{arrays_kept}
use Rattle.kr_space.proofs.layout.layout_of.Goals as goal

pub layout_in-requires-clause-arrays : goal.layout_in-requires-clause-arrays
layout_in-requires-clause-arrays c = arrays_kept c.args.types.now c.root_of.new.types (setting_on c.args.basis.now) c.args.arrays.now c.root_of.ensures.extends c.requires.arrays
