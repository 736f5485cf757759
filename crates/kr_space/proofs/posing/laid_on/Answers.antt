use Rattle.kr_space.specs.Basis.{setting_on}
use Rattle.kr_space.proofs.Laid.{arrays_kept}
use Rattle.kr_space.proofs.posing.laid_on.Goals as goal

pub returns-clause-arrays : goal.returns-clause-arrays
returns-clause-arrays c =
    arrays_kept c.arrays_of.new.types c.layout_of.new.types (setting_on c.args.basis.now) c.in_ok-arrays.arrays.items c.layout_of.ensures.extends c.in_ok-arrays.ensures.arrays
