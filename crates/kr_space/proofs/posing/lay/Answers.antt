use Rattle.kr_space_rules.specs.Classes.{files_of}
use Rattle.kr_space.proofs.Problems.{bounds_here}
use Rattle.kr_space.proofs.posing.lay.Goals as goal

pub laid_by-requires-clause-bounds : goal.laid_by-requires-clause-bounds
laid_by-requires-clause-bounds c =
    bounds_here (files_of c.args.classes.now) c.args.document.now c.bounds_of.new.types c.as_slice-named.result.now c.in_ok-bounds.bounds.items c.deref-2.result.now c.as_slice-named.ensures c.deref-2.ensures.value c.in_ok-bounds.ensures.bounds
